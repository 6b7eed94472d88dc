-- The long form of a variable is the identity, and takes arguments as the variable does. Two claims are proved together, at all
-- domains of a simple type before the type itself: substituting the long form of a variable changes no well-sorted term, and a
-- value that is put in place of an atomic object is what then comes of its long form.
use Rattle.std.proofs.Common.{◌≡◌, ℕ, suc, List, [], ◌∷◌, ◌++◌, length, Some, refl, sym, ap, ap₂, subst, ◌∙◌, ◌⊎◌, inl, inr, arith}
use Rattle.std.specs.Prelude.{slice_get}
use Rattle.std.proofs.lemmas.Option.{same_Some}
use Rattle.lf_meaning.specs.Terms.{Constant, Object, Lam, At, Atomic, Var, Con, App, Simple, Base, Arrow, SimpleContext, apply_all}
use Rattle.lf_meaning.specs.Raising.{raised, raise, raise_atomic}
use Rattle.lf_meaning.specs.Replacement.{Headed, Kept, Replaced, object_of, value_takes, takes, raise_headed, Replacement, replace, replace_head}
use Rattle.lf_meaning.specs.Substitution.{substituted, substitution, action, substitute, app, reduce_typed, reduce}
use Rattle.lf_meaning.specs.Sorts.{Sorts, HasSort, SynthesisesSort}
use Rattle.lf_substitution_laws.specs.Uniform.{IsUniform}
use Rattle.lf_substitution_laws.proofs.Below.Substituted.{substituted_below, substituted_at, substituted_above}
use Rattle.lf_substitution_laws.proofs.Below.Lookups.{get_at}
use Rattle.lf_substitution_laws.proofs.Domains.{AllDomains, by_domains, map_domains}
use Rattle.lf_substitution_laws.proofs.Indices.{Position, below, at, above, position, raised_below, raised_above}
use Rattle.lf_substitution_laws.proofs.Raising.{raise_by_zero, raise_atomic_by_zero}
use Rattle.lf_substitution_laws.proofs.Sorting.{raise_keeps_sort}
use Rattle.lf_substitution_laws.proofs.Substituting.{uniform_substitution, substitute_raised_head}
use Rattle.eta_meaning.specs.LongTerms.{eta}
use Rattle.eta_laws.specs.LongTermLaws.{FillDomains}
use Rattle.eta_laws.proofs.LongTerms.{raise_free_variable, replace_raised_head, replace_kept_eta, replace_own_variable}

-- The long form of a variable of this simple type is the identity.
abbrev pub IsIdentity : Sorts → Simple → Type 0
IsIdentity sorts s = (after before : SimpleContext) (t : Simple) (m : Object) → HasSort sorts (after ++ (s ∷ before)) m t → substitute (eta s (Var 0)) s (length after) (raise 1 (suc (length after)) m) ≡ m

-- A replacement that puts a value of this simple type in place of an atomic object makes the same value of its long form.
abbrev pub TakesPlace : Sorts → Simple → Type 0
TakesPlace sorts t = (by : Replacement) → IsUniform by → (context : SimpleContext) (n : ℕ) (r : Atomic) (v : Object) → HasSort sorts context v t → replace_head by n r ≡ Replaced v (action t) → replace by n (eta t r) ≡ v

-- The second claim, where the first holds at the domains: the value is a λ, and its body takes the long form
-- of its own variable.
takes_place : (sorts : Sorts) (t : Simple) → AllDomains (IsIdentity sorts) t → TakesPlace sorts t
takes_place sorts (Base c) all by uniform context n r v h e = ap object_of e
takes_place sorts (Arrow s t) all by uniform context n r (At q) h e = absurd h
takes_place sorts (Arrow s t) all by uniform context n r (Lam body) h e =
    let head : replace_head by (suc n) (raise_atomic 1 0 r) ≡ Replaced (raise 1 0 (Lam body)) (action (Arrow s t)) = replace_raised_head by uniform n r ∙ ap (raise_headed 1 0) e in
    let variable : replace by (suc n) (eta s (Var 0)) ≡ eta s (Var 0) = replace_own_variable by uniform s n in
    let taken : takes (replace_head by (suc n) (raise_atomic 1 0 r)) (replace by (suc n) (eta s (Var 0))) ≡ Replaced body (action t) = ap₂ takes head variable ∙ ap (λ x. Replaced x (action t)) (all.0 [] context t body h) in
    ap Lam (takes_place sorts t all.1 by uniform (s ∷ context) (suc n) (App (raise_atomic 1 0 r) (eta s (Var 0))) body h taken)

-- A long form takes an argument where the second claim holds at its domain.
eta_takes_at : (sorts : Sorts) (s t : Simple) → TakesPlace sorts s → (context : SimpleContext) (r : Atomic) (m : Object) → HasSort sorts context m s → value_takes (eta (Arrow s t) r) (action (Arrow s t)) m ≡ Replaced (eta t (App r m)) (action t)
eta_takes_at sorts s t place context r m h =
    let by : Replacement = substitution m (action s) in
    let argument : substitute m s 0 (eta s (Var 0)) ≡ m = place by (uniform_substitution m s) context 0 (Var 0) m h (substituted_at m (action s) 0 ∙ ap (λ x. Replaced x (action s)) (raise_by_zero 0 m)) in
    let head : replace_head by 0 (raise_atomic 1 0 r) ≡ Kept r = substitute_raised_head m (action s) 0 0 0 r (omega arith) (omega arith) ∙ ap Kept (raise_atomic_by_zero 0 r) in
    ap (λ x. Replaced x (action t)) (replace_kept_eta by (uniform_substitution m s) t 0 (App (raise_atomic 1 0 r) (eta s (Var 0))) (App r m) (ap₂ takes head argument))

-- What stands in place of an atomic object is that object, or its long form at its simple type.
abbrev IsItself : (Simple → Type 0) → Atomic → Simple → Headed → Type 0
IsItself P r t h = (h ≡ Kept r) ⊎ ((h ≡ Replaced (eta t r) (action t)) × AllDomains P t)

itself_object : (P : Simple → Type 0) (r : Atomic) (c : Constant) (h : Headed) → IsItself P r (Base c) h → object_of h ≡ At r
itself_object P r c h (inl e) = ap object_of e
itself_object P r c h (inr e) = ap object_of e.0

itself_takes : (sorts : Sorts) (context : SimpleContext) (r : Atomic) (m : Object) (s t : Simple) (h : Headed) → HasSort sorts context m s → IsItself (TakesPlace sorts) r (Arrow s t) h → IsItself (TakesPlace sorts) (App r m) t (takes h m)
itself_takes sorts context r m s t h g (inl e) = inl (ap (λ x. takes x m) e)
itself_takes sorts context r m s t h g (inr e) = inr (ap (λ x. takes x m) e.0 ∙ eta_takes_at sorts s t e.1.0 context r m g, e.1.1)

-- The first claim, where the second holds at the domains.
module _ (sorts : Sorts) (s : Simple) (all : AllDomains (TakesPlace sorts) s) (before : SimpleContext) where
  -- what comes of an atomic object that is raised over the new variable, when that one's long form is substituted
  abbrev brought_back : ℕ → Atomic → Headed
  brought_back n r = replace_head (substitution (eta s (Var 0)) (action s)) n (raise_atomic 1 (suc n) r)

  variable_itself : (after : SimpleContext) (n i : ℕ) (t : Simple) → n ≡ length after → Position n i → slice_get (after ++ (s ∷ before)) i ≡ Some t → IsItself (TakesPlace sorts) (Var i) t (brought_back n (Var i))
  variable_itself after n i t e (below h) g =
      let same : raised 1 (suc n) i ≡ i = raised_below 1 (suc n) i (omega (arith, h)) in
      inl (ap (substituted (eta s (Var 0)) (action s) n) same ∙ substituted_below (eta s (Var 0)) (action s) n i h)
  variable_itself after n i t e at g =
      let same : raised 1 (suc n) n ≡ n = raised_below 1 (suc n) n (omega arith) in
      let type : s ≡ t = same_Some _ _ (sym (get_at after before s) ∙ ap (slice_get (after ++ (s ∷ before))) (sym e) ∙ g) in
      let put : brought_back n (Var n) ≡ Replaced (eta s (Var n)) (action s) = ap (substituted (eta s (Var 0)) (action s) n) same ∙ substituted_at (eta s (Var 0)) (action s) n ∙ ap (λ x. Replaced x (action s)) (raise_free_variable n s) in
      inr (subst (λ u. (brought_back n (Var n) ≡ Replaced (eta u (Var n)) (action u)) × AllDomains (TakesPlace sorts) u) type (put, all))
  variable_itself after n i t e (above {i = j} h) g =
      let same : raised 1 (suc n) (suc j) ≡ suc (suc j) = raised_above 1 (suc n) (suc j) (omega (arith, h)) ∙ omega arith in
      inl (ap (substituted (eta s (Var 0)) (action s) n) same ∙ substituted_above (eta s (Var 0)) (action s) n (suc j) (omega (arith, h)))

  mutual
    identity_object : (after : SimpleContext) (t : Simple) (m : Object) → HasSort sorts (after ++ (s ∷ before)) m t → substitute (eta s (Var 0)) s (length after) (raise 1 (suc (length after)) m) ≡ m
    identity_object after (Arrow u t) (Lam m) h = ap Lam (identity_object (u ∷ after) t m h)
    identity_object after (Base c) (Lam m) h = absurd h
    identity_object after (Arrow u t) (At r) h = absurd h
    identity_object after (Base c) (At r) h = itself_object (TakesPlace sorts) r c (brought_back (length after) r) (identity_head after (Base c) r h)

    identity_head : (after : SimpleContext) (t : Simple) (r : Atomic) → SynthesisesSort sorts (after ++ (s ∷ before)) r t → IsItself (TakesPlace sorts) r t (brought_back (length after) r)
    identity_head after t (Var i) h = variable_itself after (length after) i t refl (position (length after) i) h
    identity_head after t (Con c) h = inl refl
    identity_head after t (App r m) h =
        let same : substitute (eta s (Var 0)) s (length after) (raise 1 (suc (length after)) m) ≡ m = identity_object after h.domain m h.argument_has in
        subst (λ x. IsItself (TakesPlace sorts) (App r m) t (takes (brought_back (length after) r) x)) (sym same) (itself_takes sorts (after ++ (s ∷ before)) r m h.domain t (brought_back (length after) r) h.argument_has (identity_head after (Arrow h.domain t) r h.head_has))

BothClaims : Sorts → Simple → Type 0
BothClaims sorts t = IsIdentity sorts t × TakesPlace sorts t

both_claims : (sorts : Sorts) (t : Simple) → AllDomains (BothClaims sorts) t → BothClaims sorts t
unfolding BothClaims
both_claims sorts t all = (
  λ after before u m h. identity_object sorts t (map_domains (BothClaims sorts) (TakesPlace sorts) (λ s q. q.1) t all) before after u m h,
  takes_place sorts t (map_domains (BothClaims sorts) (IsIdentity sorts) (λ s q. q.0) t all),
)

pub variable_is_identity : (sorts : Sorts) (s : Simple) → IsIdentity sorts s
unfolding BothClaims
variable_is_identity sorts s = (by_domains (BothClaims sorts) (both_claims sorts) s).0

pub value_takes_place : (sorts : Sorts) (t : Simple) → TakesPlace sorts t
unfolding BothClaims
value_takes_place sorts t = (by_domains (BothClaims sorts) (both_claims sorts) t).1

-- the second claim for substitutions
pub substitute_replaced_eta : (sorts : Sorts) (context : SimpleContext) (v : Object) (u : Simple) (n : ℕ) (t : Simple) (r : Atomic) (value : Object) → HasSort sorts context value t → replace_head (substitution v (action u)) n r ≡ Replaced value (action t) → substitute v u n (eta t r) ≡ value
substitute_replaced_eta sorts context v u n t r value = value_takes_place sorts t (substitution v (action u)) (uniform_substitution v u) context n r value

pub substitute_eta_variable : (sorts : Sorts) (after before : SimpleContext) (v : Object) (t : Simple) → HasSort sorts before v t → substitute v t (length after) (eta t (Var (length after))) ≡ raise (length after) 0 v
substitute_eta_variable sorts after before v t h =
    substitute_replaced_eta sorts (after ++ before) v t (length after) t (Var (length after)) (raise (length after) 0 v) (raise_keeps_sort sorts [] after before v t h) (substituted_at v (action t) (length after))

-- A long form takes an argument, as a value and by `app`, and a row of arguments.
pub eta_takes : (sorts : Sorts) (context : SimpleContext) (s t : Simple) (r : Atomic) (m : Object) → HasSort sorts context m s → takes (Replaced (eta (Arrow s t) r) (action (Arrow s t))) m ≡ Replaced (eta t (App r m)) (action t)
eta_takes sorts context s t r m h = eta_takes_at sorts s t (value_takes_place sorts s) context r m h

pub eta_app : (sorts : Sorts) (context : SimpleContext) (s t : Simple) (r : Atomic) (m : Object) → HasSort sorts context m s → app (Arrow s t) (eta (Arrow s t) r) m ≡ record { value = eta t (App r m); type = t }
eta_app sorts context s t r m h = ap (λ x. record { value = object_of x; type = t }) (eta_takes sorts context s t r m h)

pub eta_reduce : (sorts : Sorts) (context : SimpleContext) (t : Simple) (r : Atomic) (ms : List Object) → FillDomains sorts context t ms → reduce (eta t r) t ms ≡ At (apply_all r ms)
eta_reduce sorts context (Base c) r [] h = refl
eta_reduce sorts context (Base c) r (m ∷ ms) h = absurd h
eta_reduce sorts context (Arrow s t) r [] h = absurd h
eta_reduce sorts context (Arrow s t) r (m ∷ ms) h =
    ap (λ x. (reduce_typed x ms).value) (eta_app sorts context s t r m h.0) ∙ eta_reduce sorts context t (App r m) ms h.1
