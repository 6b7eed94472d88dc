-- Raising, replacement and substitution keep sorts.
use Rattle.std.proofs.Common.{◌≡◌, ℕ, suc, [], ◌∷◌, ◌++◌, length, Some, refl, sym, ap, subst, ◌∙◌, arith}
use Rattle.std.specs.Prelude.{slice_get}
use Rattle.lf_meaning.specs.Terms.{Constant, Object, Lam, At, Atomic, Var, Con, App, Simple, Base, Arrow, SimpleContext}
use Rattle.lf_meaning.specs.Raising.{raise, raise_atomic}
use Rattle.lf_meaning.specs.Replacement.{Headed, Kept, Replaced, object_of, value_takes, takes, Replacement, replace, replace_head}
use Rattle.lf_meaning.specs.Substitution.{substituted, substitution, action, substitute}
use Rattle.lf_meaning.specs.Sorts.{Sorts, HasSort, SynthesisesSort}
use Rattle.lf_substitution_laws.proofs.Indices.{Position, below, at, above, position}
use Rattle.lf_term_laws.proofs.Substituted.{substituted_below, substituted_at, substituted_above}
use Rattle.lf_term_laws.proofs.Lookups.{get_below, get_at, get_above}
use Rattle.lf_substitution_laws.proofs.Indices.{get_raised}
use Rattle.lf_substitution_laws.proofs.Domains.{AllDomains, by_domains, IsRetyping, itself, itself_retypes}
use Rattle.std.proofs.lemmas.Option.{same_Some}

mutual
  pub raise_keeps_sort : (sorts : Sorts) (after mid before : SimpleContext) (m : Object) (t : Simple) → HasSort sorts (after ++ before) m t → HasSort sorts (after ++ (mid ++ before)) (raise (length mid) (length after) m) t
  raise_keeps_sort sorts after mid before (Lam m) (Arrow s t) h = raise_keeps_sort sorts (s ∷ after) mid before m t h
  raise_keeps_sort sorts after mid before (Lam m) (Base c) h = h
  raise_keeps_sort sorts after mid before (At r) (Arrow s t) h = h
  raise_keeps_sort sorts after mid before (At r) (Base c) h = raise_keeps_atomic_sort sorts after mid before r (Base c) h

  pub raise_keeps_atomic_sort : (sorts : Sorts) (after mid before : SimpleContext) (r : Atomic) (t : Simple) → SynthesisesSort sorts (after ++ before) r t → SynthesisesSort sorts (after ++ (mid ++ before)) (raise_atomic (length mid) (length after) r) t
  raise_keeps_atomic_sort sorts after mid before (Var i) t h = get_raised after mid before i ∙ h
  raise_keeps_atomic_sort sorts after mid before (Con c) t h = h
  raise_keeps_atomic_sort sorts after mid before (App r m) t h = record { domain = h.domain; head_has = raise_keeps_atomic_sort sorts after mid before r (Arrow h.domain t) h.head_has; argument_has = raise_keeps_sort sorts after mid before m h.domain h.argument_has }

-- A headed result fits a simple type: a kept head synthesises it; a value has that sort and does at
-- its arguments what the type says, with a property at each of the type's domains.
abbrev pub HeadedFits : (Simple → Type 0) → Sorts → SimpleContext → Headed → Simple → Type 0
HeadedFits P sorts context (Kept r) t = SynthesisesSort sorts context r t
HeadedFits P sorts context (Replaced v a) t = (a ≡ action t) × HasSort sorts context v t × AllDomains P t

-- substitution at the simple type keeps sorts
abbrev pub KeepsSorts : Simple → Type 0
KeepsSorts s = (sorts : Sorts) (after before : SimpleContext) (v m : Object) (t : Simple) → HasSort sorts before v s → HasSort sorts (after ++ (s ∷ before)) m t → HasSort sorts (after ++ before) (substitute v s (length after) m) t

pub fits_object : (P : Simple → Type 0) (sorts : Sorts) (context : SimpleContext) (h : Headed) (c : Constant) → HeadedFits P sorts context h (Base c) → HasSort sorts context (object_of h) (Base c)
fits_object P sorts context (Kept r) c f = f
fits_object P sorts context (Replaced v a) c f = f.1

fits_value_takes : (P : Simple → Type 0) (sorts : Sorts) (context : SimpleContext) (v m : Object) (s t : Simple) → KeepsSorts s → HasSort sorts context v (Arrow s t) → AllDomains P (Arrow s t) → HasSort sorts context m s → HeadedFits P sorts context (value_takes v (action (Arrow s t)) m) t
fits_value_takes P sorts context (Lam n) m s t keeps h all g = (refl, keeps sorts [] context m n t g h, all.1)
fits_value_takes P sorts context (At r) m s t keeps h all g = absurd h

pub fits_takes : (P : Simple → Type 0) → ((s : Simple) → P s → KeepsSorts s) → (sorts : Sorts) (context : SimpleContext) (h : Headed) (m : Object) (s t : Simple) → HeadedFits P sorts context h (Arrow s t) → HasSort sorts context m s → HeadedFits P sorts context (takes h m) t
fits_takes P strong sorts context (Kept r) m s t f g = record { domain = s; head_has = f; argument_has = g }
fits_takes P strong sorts context (Replaced v a) m s t f g =
    subst (λ b. HeadedFits P sorts context (value_takes v b m) t) (sym f.0) (fits_value_takes P sorts context v m s t (strong s f.2.0) f.1 f.2 g)

-- A replacement keeps sorts, up to a function on simple types that keeps arrows, where what stands
-- in place of variables and constants does. `Place n D D'` says: with n binders passed, the term
-- stands in the context D and the result in D'.
module _ (P : Simple → Type 0) (strong : (s : Simple) → P s → KeepsSorts s) (by : Replacement) (sorts sorts' : Sorts) (re : Simple → Simple) (retypes : IsRetyping re) (Place : ℕ → SimpleContext → SimpleContext → Type 0) (under : (n : ℕ) (D D' : SimpleContext) (s : Simple) → Place n D D' → Place (suc n) (s ∷ D) (re s ∷ D')) (variables : (n : ℕ) (D D' : SimpleContext) (i : ℕ) (t : Simple) → Place n D D' → slice_get D i ≡ Some t → HeadedFits P sorts' D' (by.variable n i) (re t)) (constants : (n : ℕ) (D D' : SimpleContext) (c : Constant) (t : Simple) → Place n D D' → sorts c ≡ Some t → HeadedFits P sorts' D' (by.constant c) (re t)) where
  object_of_fits : (D' : SimpleContext) (h : Headed) (c : Constant) → HeadedFits P sorts' D' h (re (Base c)) → HasSort sorts' D' (object_of h) (re (Base c))
  object_of_fits D' h c f =
      let b = retypes.base c in
      subst (HasSort sorts' D' (object_of h)) (sym b.1) (fits_object P sorts' D' h b.0 (subst (HeadedFits P sorts' D' h) b.1 f))

  mutual
    pub replace_keeps_sort : (n : ℕ) (D D' : SimpleContext) (m : Object) (t : Simple) → Place n D D' → HasSort sorts D m t → HasSort sorts' D' (replace by n m) (re t)
    replace_keeps_sort n D D' (Lam m) (Arrow s t) p h = subst (HasSort sorts' D' (Lam (replace by (suc n) m))) (sym (retypes.arrow s t)) (replace_keeps_sort (suc n) (s ∷ D) (re s ∷ D') m t (under n D D' s p) h)
    replace_keeps_sort n D D' (Lam m) (Base c) p h = absurd h
    replace_keeps_sort n D D' (At r) (Arrow s t) p h = absurd h
    replace_keeps_sort n D D' (At r) (Base c) p h = object_of_fits D' (replace_head by n r) c (replace_head_fits n D D' r (Base c) p h)

    pub replace_head_fits : (n : ℕ) (D D' : SimpleContext) (r : Atomic) (t : Simple) → Place n D D' → SynthesisesSort sorts D r t → HeadedFits P sorts' D' (replace_head by n r) (re t)
    replace_head_fits n D D' (Var i) t p h = variables n D D' i t p h
    replace_head_fits n D D' (Con c) t p h = constants n D D' c t p h
    replace_head_fits n D D' (App r m) t p h =
        fits_takes P strong sorts' D' (replace_head by n r) (replace by n m) (re h.domain) (re t) (subst (HeadedFits P sorts' D' (replace_head by n r)) (retypes.arrow h.domain t) (replace_head_fits n D D' r (Arrow h.domain t) p h.head_has)) (replace_keeps_sort n D D' m h.domain p h.argument_has)

-- the place of a substitution for a variable of simple type s that has D before it
pub record Substituting (s : Simple) (before : SimpleContext) (n : ℕ) (D D' : SimpleContext) : Type 0 where
  pub after : SimpleContext
  pub depth : n ≡ length after
  pub from : D ≡ after ++ (s ∷ before)
  pub to : D' ≡ after ++ before

pub substituting : (s : Simple) (after before : SimpleContext) → Substituting s before (length after) (after ++ (s ∷ before)) (after ++ before)
substituting s after before = record { after = after; depth = refl; from = refl; to = refl }

pub substituting_under : (s : Simple) (before : SimpleContext) (n : ℕ) (D D' : SimpleContext) (t : Simple) → Substituting s before n D D' → Substituting s before (suc n) (t ∷ D) (t ∷ D')
substituting_under s before n D D' t p = record { after = t ∷ p.after; depth = ap suc p.depth; from = ap (λ x. t ∷ x) p.from; to = ap (λ x. t ∷ x) p.to }

module _ (P : Simple → Type 0) (sorts : Sorts) (v : Object) (s : Simple) (before : SimpleContext) (sorted : HasSort sorts before v s) (all : AllDomains P s) where
  substituted_fits_in : (after : SimpleContext) (n i : ℕ) (t : Simple) → n ≡ length after → Position n i → slice_get (after ++ (s ∷ before)) i ≡ Some t → HeadedFits P sorts (after ++ before) (substituted v (action s) n i) t
  substituted_fits_in after n i t e (below h) f =
      subst (λ x. HeadedFits P sorts (after ++ before) x t) (sym (substituted_below v (action s) n i h)) (sym (get_below after before s i (omega (arith, e, h))) ∙ f)
  substituted_fits_in after n i t e at f =
      let same : s ≡ t = same_Some _ _ (sym (get_at after before s) ∙ ap (slice_get (after ++ (s ∷ before))) (sym e) ∙ f) in
      let raised : HasSort sorts (after ++ before) (raise n 0 v) s = subst (λ k. HasSort sorts (after ++ before) (raise k 0 v) s) (sym e) (raise_keeps_sort sorts [] after before v s sorted) in
      subst (λ x. HeadedFits P sorts (after ++ before) x t) (sym (substituted_at v (action s) n)) (subst (λ u. (action s ≡ action u) × HasSort sorts (after ++ before) (raise n 0 v) u × AllDomains P u) same (refl, raised, all))
  substituted_fits_in after n i t e (above {i = j} h) f =
      subst (λ x. HeadedFits P sorts (after ++ before) x t) (sym (substituted_above v (action s) n j h)) (sym (get_above after before s j (omega (arith, e, h))) ∙ f)

  pub substituted_fits : (n : ℕ) (D D' : SimpleContext) (i : ℕ) (t : Simple) → Substituting s before n D D' → slice_get D i ≡ Some t → HeadedFits P sorts D' (substituted v (action s) n i) t
  substituted_fits n D D' i t p f = subst (λ E. HeadedFits P sorts E (substituted v (action s) n i) t) (sym p.to) (substituted_fits_in p.after n i t p.depth (position n i) (ap (λ E. slice_get E i) (sym p.from) ∙ f))

-- substitution at any simple type keeps sorts
keeps_sorts_step : (s : Simple) → AllDomains KeepsSorts s → KeepsSorts s
keeps_sorts_step s all sorts after before v m t sorted h =
    replace_keeps_sort KeepsSorts (λ u k. k) (substitution v (action s)) sorts sorts itself itself_retypes (Substituting s before) (substituting_under s before) (substituted_fits KeepsSorts sorts v s before sorted all) (λ n D D' c u p e. e) (length after) (after ++ (s ∷ before)) (after ++ before) m t (substituting s after before) h

pub keeps_sorts : (s : Simple) → KeepsSorts s
keeps_sorts = by_domains KeepsSorts keeps_sorts_step
