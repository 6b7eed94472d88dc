-- Translation of objects where bases go to simple types: raising, sorts, substitution.
use Rattle.std.proofs.Common.{◌≡◌, ℕ, suc, [], ◌∷◌, ◌++◌, length, map, Option, Some, None, refl, sym, ap, ap₂, subst, ◌∙◌, arith}
use Rattle.std.specs.Prelude.{slice_get}
use Rattle.lf_meaning.specs.Terms.{Constant, Object, Lam, At, Atomic, Var, Con, App, Simple, Base, Arrow, SimpleContext}
use Rattle.lf_meaning.specs.Raising.{raised, raise, raise_atomic}
use Rattle.lf_meaning.specs.Replacement.{Headed, Kept, Replaced, object_of, value_takes, takes, replace_head}
use Rattle.lf_meaning.specs.Substitution.{substituted, substitution, action, substitute, Typed, app}
use Rattle.lf_meaning.specs.Sorts.{Sorts, HasSort, SynthesisesSort}
use Rattle.lf_substitution_laws.proofs.Indices.{get_raised, Position, below, at, above, position}
use Rattle.lf_substitution_laws.proofs.Raising.{raise_by_zero}
use Rattle.lf_substitution_laws.proofs.Substituting.{uniform_substitution, natural_action, raise_above_substitution, substitute_raised}
use Rattle.lf_substitution_laws.proofs.Domains.{AllDomains, by_domains, everywhere, itself, itself_retypes}
use Rattle.lf_substitution_laws.proofs.Sorting.{raise_keeps_atomic_sort, HeadedFits, Substituting, substituting, substituting_under, substituted_fits, keeps_sorts, replace_head_fits}
use Rattle.lf_substitution_laws.proofs.SortedFamilies.{more_sort}
use Rattle.lf_substitution_laws.proofs.Past.{raise_past}
use Rattle.lf_substitution_laws.proofs.Commutation.{Anything, substitutions_commute}
use Rattle.lf_term_laws.proofs.Lookups.{get_below, get_at, get_above, get_map, length_map}
use Rattle.lf_term_laws.proofs.Substituted.{substituted_below, substituted_at, substituted_above}
use Rattle.std.proofs.lemmas.Option.{same_Some}
use Rattle.eta_meaning.specs.LongTerms.{eta}
use Rattle.translation_meaning.specs.FunctionFamilies.{with_bases, domain_type, codomain_type, no_type, listed_variable, takes_at_type, carried, carried_head}
use Rattle.eta_laws.proofs.LongTerms.{raise_eta, eta_sort}
use Rattle.eta_laws.proofs.Identity.{variable_is_identity}
use Rattle.function_family_laws.proofs.ReplacedForms.{headed_eta, replace_eta}

-- a value at a simple type, raised
abbrev pub raise_typed : ℕ → ℕ → Typed → Typed
raise_typed k n h = record { value = raise k n h.value; type = h.type }

abbrev with_type : Simple → Object → Typed
with_type t v = record { value = v; type = t }

same_typed : {v w : Object} (t : Simple) → v ≡ w → with_type t v ≡ with_type t w
same_typed t e = ap (with_type t) e

raise_app : (k n : ℕ) (t : Simple) (v m : Object) → raise_typed k n (app t v m) ≡ app t (raise k n v) (raise k n m)
raise_app k n (Arrow s t) (Lam b) m = same_typed t (raise_above_substitution k n m (action s) (natural_action s) 0 n b (omega arith))
raise_app k n (Arrow s t) (At r) m = refl
raise_app k n (Base c) (At r) m = refl
raise_app k n (Base c) (Lam b) m = refl

raise_listed : (k n i j : ℕ) (o o' : Option Simple) → j ≡ raised k n i → o' ≡ o → raise_typed k n (listed_variable i o) ≡ listed_variable j o'
raise_listed k n i j None o' e f = same_typed no_type (ap (λ x. At (Var x)) (sym e)) ∙ ap (listed_variable j) (sym f)
raise_listed k n i j (Some t) o' e f = same_typed t (raise_eta k n t (Var i) ∙ ap (λ x. eta t (Var x)) (sym e)) ∙ ap (listed_variable j) (sym f)

-- what a constant stands for has its simple type, with simple types in place of bases
pub record AreTypedObjects (objects : Constant → Typed) (bases : Constant → Simple) (sorts sorts' : Sorts) : Type 0 where
  pub type_is : (c : Constant) (t : Simple) → sorts c ≡ Some t → (objects c).type ≡ with_bases bases t
  pub has : (c : Constant) (t : Simple) → sorts c ≡ Some t → HasSort sorts' [] (objects c).value (with_bases bases t)

-- a value with its sort
pub record TypedAt (sorts : Sorts) (D : SimpleContext) (h : Typed) (t : Simple) : Type 0 where
  pub type_is : h.type ≡ t
  pub has : HasSort sorts D h.value t

app_sorted : (sorts : Sorts) (D : SimpleContext) (s t : Simple) (v m : Object) → HasSort sorts D v (Arrow s t) → HasSort sorts D m s → TypedAt sorts D (app (Arrow s t) v m) t
app_sorted sorts D s t (Lam b) m hv hm = record { type_is = refl; has = keeps_sorts s sorts [] D m b t hm hv }
app_sorted sorts D s t (At r) m hv hm = absurd hv

pub typed_taken : (h : Typed) (s t : Simple) (argument : Simple → Object) → h.type ≡ Arrow s t → takes_at_type h argument ≡ app (Arrow s t) h.value (argument s)
typed_taken h s t argument e = ap (λ z. app z h.value (argument (domain_type z))) e

-- a value at an arrow, applied to the long form of the next binder's variable
applied_to_variable : (sorts : Sorts) (s t : Simple) (D : SimpleContext) (v : Object) → HasSort sorts D v (Arrow s t) → Lam (app (Arrow s t) (raise 1 0 v) (eta s (Var 0))).value ≡ v
applied_to_variable sorts s t D (Lam b) h = ap Lam (variable_is_identity sorts s [] D t b h)
applied_to_variable sorts s t D (At r) h = absurd h

module _ (objects : Constant → Typed) (bases : Constant → Simple) (sorts sorts' : Sorts) (objects_typed : AreTypedObjects objects bases sorts sorts') where
  abbrev re : Simple → Simple
  re = with_bases bases

  -- what a constant stands for has no free variable
  pub closed : (k n : ℕ) (c : Constant) (t : Simple) → sorts c ≡ Some t → raise k n (objects c).value ≡ (objects c).value
  closed k n c t h = raise_past sorts' k [] n (objects c).value (re t) (omega arith) (objects_typed.has c t h)

  -- ---- raising: of whatever has a sort over the constants, in any context

  module _ (mid before : SimpleContext) where
    mutual
      pub raise_carried : (after D : SimpleContext) (m : Object) (s t : Simple) → HasSort sorts D m s → raise (length mid) (length after) (carried objects (after ++ before) m t) ≡ carried objects (after ++ (mid ++ before)) (raise (length mid) (length after) m) t
      raise_carried after D (Lam m) (Arrow a b) t h = ap Lam (raise_carried (domain_type t ∷ after) (a ∷ D) m b (codomain_type t) h)
      raise_carried after D (Lam m) (Base c) t h = absurd h
      raise_carried after D (At r) (Arrow a b) t h = absurd h
      raise_carried after D (At r) (Base c) t h = ap (λ (h : Typed). h.value) (raise_carried_head after D r (Base c) h)

      pub raise_carried_head : (after D : SimpleContext) (r : Atomic) (s : Simple) → SynthesisesSort sorts D r s → raise_typed (length mid) (length after) (carried_head objects (after ++ before) r) ≡ carried_head objects (after ++ (mid ++ before)) (raise_atomic (length mid) (length after) r)
      raise_carried_head after D (Var i) s h = raise_listed (length mid) (length after) i (raised (length mid) (length after) i) (slice_get (after ++ before) i) (slice_get (after ++ (mid ++ before)) (raised (length mid) (length after) i)) refl (get_raised after mid before i)
      raise_carried_head after D (Con c) s h = same_typed (objects c).type (closed (length mid) (length after) c s h)
      raise_carried_head after D (App r m) s h =
          raise_app (length mid) (length after) (carried_head objects (after ++ before) r).type (carried_head objects (after ++ before) r).value (carried objects (after ++ before) m (domain_type (carried_head objects (after ++ before) r).type))
          ∙ ap (app (carried_head objects (after ++ before) r).type (raise (length mid) (length after) (carried_head objects (after ++ before) r).value)) (raise_carried after D m h.domain (domain_type (carried_head objects (after ++ before) r).type) h.argument_has)
          ∙ ap (λ z. takes_at_type z (carried objects (after ++ (mid ++ before)) (raise (length mid) (length after) m))) (raise_carried_head after D r (Arrow h.domain s) h.head_has)

  -- ---- sorts

  mutual
    pub carried_has_sort : (D E : SimpleContext) (m : Object) (t : Simple) → E ≡ map re D → HasSort sorts D m t → HasSort sorts' E (carried objects E m (re t)) (re t)
    carried_has_sort D E (Lam m) (Arrow s t) e h = carried_has_sort (s ∷ D) (re s ∷ E) m t (ap (λ z. re s ∷ z) e) h
    carried_has_sort D E (Lam m) (Base c) e h = absurd h
    carried_has_sort D E (At r) (Arrow s t) e h = absurd h
    carried_has_sort D E (At r) (Base c) e h = (carried_head_has_sort D E r (Base c) e h).has

    pub carried_head_has_sort : (D E : SimpleContext) (r : Atomic) (t : Simple) → E ≡ map re D → SynthesisesSort sorts D r t → TypedAt sorts' E (carried_head objects E r) (re t)
    carried_head_has_sort D E (Var i) t e h =
        let found : slice_get E i ≡ Some (re t) = ap (λ z. slice_get z i) e ∙ get_map re D i t h in
        subst (λ o. TypedAt sorts' E (listed_variable i o) (re t)) (sym found) (record { type_is = refl; has = eta_sort sorts' E (re t) (Var i) found })
    carried_head_has_sort D E (Con c) t e h = record { type_is = objects_typed.type_is c t h; has = more_sort sorts' sorts' (λ x u q. q) [] E (objects c).value (re t) (objects_typed.has c t h) }
    carried_head_has_sort D E (App r m) t e h =
        let head = carried_head_has_sort D E r (Arrow h.domain t) e h.head_has in
        subst (λ z. TypedAt sorts' E z (re t)) (sym (typed_taken (carried_head objects E r) (re h.domain) (re t) (carried objects E m) head.type_is))
        (app_sorted sorts' E (re h.domain) (re t) (carried_head objects E r).value (carried objects E m (re h.domain)) head.has (carried_has_sort D E m h.domain e h.argument_has))

  -- the translated long form of an atomic object is what that is translated to
  pub carried_eta : (D E : SimpleContext) (t : Simple) (r : Atomic) → E ≡ map re D → SynthesisesSort sorts D r t → carried objects E (eta t r) (re t) ≡ (carried_head objects E r).value
  carried_eta D E (Base c) r e h = refl
  carried_eta D E (Arrow s t) r e h =
      let under : re s ∷ E ≡ map re (s ∷ D) = ap (λ z. re s ∷ z) e in
      let whole : SynthesisesSort sorts (s ∷ D) (App (raise_atomic 1 0 r) (eta s (Var 0))) t = record { domain = s; head_has = raise_keeps_atomic_sort sorts [] (s ∷ []) D r (Arrow s t) h; argument_has = eta_sort sorts (s ∷ D) s (Var 0) refl } in
      let head = carried_head_has_sort D E r (Arrow s t) e h in
      let raised_head : carried_head objects (re s ∷ E) (raise_atomic 1 0 r) ≡ raise_typed 1 0 (carried_head objects E r) = sym (raise_carried_head (re s ∷ []) E [] D r (Arrow s t) h) in
      ap Lam (carried_eta (s ∷ D) (re s ∷ E) t (App (raise_atomic 1 0 r) (eta s (Var 0))) under whole
      ∙ ap (λ z. (takes_at_type z (carried objects (re s ∷ E) (eta s (Var 0)))).value) raised_head
      ∙ ap (λ (z : Typed). z.value) (typed_taken (raise_typed 1 0 (carried_head objects E r)) (re s) (re t) (carried objects (re s ∷ E) (eta s (Var 0))) head.type_is)
      ∙ ap (λ z. (app (Arrow (re s) (re t)) (raise 1 0 (carried_head objects E r).value) z).value) (carried_eta (s ∷ D) (re s ∷ E) s (Var 0) under refl))
      ∙ applied_to_variable sorts' (re s) (re t) E (carried_head objects E r).value head.has

  -- ---- substitution

  -- the value of a translated headed result
  abbrev carried_result : SimpleContext → Headed → Simple → Object
  carried_result E (Kept r) t = (carried_head objects E r).value
  carried_result E (Replaced v a) t = carried objects E v t

  -- translation passes through substitution for the innermost variable
  abbrev pub CarriedPasses : Simple → Type 0
  CarriedPasses s = (D E : SimpleContext) (v m : Object) (t : Simple) → E ≡ map re D → HasSort sorts D v s → HasSort sorts (s ∷ D) m t → carried objects E (substitute v s 0 m) (re t) ≡ substitute (carried objects E v (re s)) (re s) 0 (carried objects (re s ∷ E) m (re t))

  carried_result_takes : (D E : SimpleContext) (h : Headed) (m : Object) (s t : Simple) → E ≡ map re D → HeadedFits CarriedPasses sorts D h (Arrow s t) → HasSort sorts D m s → carried_result E (takes h m) (re t) ≡ (app (Arrow (re s) (re t)) (carried_result E h (Arrow (re s) (re t))) (carried objects E m (re s))).value
  carried_result_takes D E (Kept r) m s t e f g = ap (λ (z : Typed). z.value) (typed_taken (carried_head objects E r) (re s) (re t) (carried objects E m) (carried_head_has_sort D E r (Arrow s t) e f).type_is)
  carried_result_takes D E (Replaced (At r) a) m s t e f g = absurd f.1
  carried_result_takes D E (Replaced (Lam b) a) m s t e f g =
      subst (λ z. carried_result E (value_takes (Lam b) z m) (re t) ≡ substitute (carried objects E m (re s)) (re s) 0 (carried objects (re s ∷ E) b (re t))) (sym f.0) (f.2.0 D E m b t e g f.1)

  carried_result_object : (E : SimpleContext) (h : Headed) (c : Constant) → carried objects E (object_of h) (re (Base c)) ≡ carried_result E h (re (Base c))
  carried_result_object E (Kept r) c = refl
  carried_result_object E (Replaced v a) c = refl

  module _ (u : Simple) (smaller : AllDomains CarriedPasses u) (D E : SimpleContext) (place : E ≡ map re D) (v : Object) (sorted : HasSort sorts D v u) where
    abbrev v' : Object
    v' = carried objects E v (re u)

    v'_sorted : HasSort sorts' E v' (re u)
    v'_sorted = carried_has_sort D E v u place sorted

    abbrev types_without : SimpleContext → SimpleContext
    types_without after = map re after ++ E

    abbrev types_with : SimpleContext → SimpleContext
    types_with after = map re after ++ (re u ∷ E)

    types_without_are : (after : SimpleContext) → types_without after ≡ map re (after ++ D)
    types_without_are [] = place
    types_without_are (s ∷ after) = ap (λ z. re s ∷ z) (types_without_are after)

    types_with_are : (after : SimpleContext) → types_with after ≡ map re (after ++ (u ∷ D))
    types_with_are [] = ap (λ z. re u ∷ z) place
    types_with_are (s ∷ after) = ap (λ z. re s ∷ z) (types_with_are after)

    head_fits : (after : SimpleContext) (r : Atomic) (t : Simple) → SynthesisesSort sorts (after ++ (u ∷ D)) r t → HeadedFits CarriedPasses sorts (after ++ D) (replace_head (substitution v (action u)) (length after) r) t
    head_fits after r t h = replace_head_fits CarriedPasses (λ s q. keeps_sorts s) (substitution v (action u)) sorts sorts itself itself_retypes (Substituting u D) (substituting_under u D) (substituted_fits CarriedPasses sorts v u D sorted smaller) (λ n F F' c s q f. f) (length after) (after ++ (u ∷ D)) (after ++ D) r t (substituting u after D) h

    -- the substitution of v' in the long form of a variable
    replaced_variable : (after : SimpleContext) (i : ℕ) (t : Simple) → slice_get (types_with after) i ≡ Some t → substitute v' (re u) (length after) (eta t (Var i)) ≡ headed_eta t (substituted v' (action (re u)) (length after) i)
    replaced_variable after i t f =
        let p : Substituting (re u) E (length after) (types_with after) (types_without after) = record { after = map re after; depth = sym (length_map re after); from = refl; to = refl } in
        replace_eta sorts' (substitution v' (action (re u))) (uniform_substitution v' (re u)) (types_without after) (length after) t (Var i)
        (substituted_fits Anything sorts' v' (re u) E v'_sorted (everywhere Anything (λ s. tt) (re u)) (length after) (types_with after) (types_without after) i t p f)

    variable_carried : (after : SimpleContext) (n i : ℕ) (t : Simple) → n ≡ length after → Position n i → slice_get (after ++ (u ∷ D)) i ≡ Some t → carried_result (types_without after) (substituted v (action u) n i) (re t) ≡ headed_eta (re t) (substituted v' (action (re u)) n i)
    variable_carried after n i t e (below h) f =
        let found : slice_get (types_without after) i ≡ Some (re t) = ap (λ z. slice_get z i) (types_without_are after) ∙ get_map re (after ++ D) i t (sym (get_below after D u i (omega (arith, e, h))) ∙ f) in
        ap (λ z. carried_result (types_without after) z (re t)) (substituted_below v (action u) n i h) ∙ ap (λ o. (listed_variable i o).value) found ∙ sym (ap (headed_eta (re t)) (substituted_below v' (action (re u)) n i h))
    variable_carried after n i t e at f =
        let same : u ≡ t = same_Some _ _ (sym (get_at after D u) ∙ ap (slice_get (after ++ (u ∷ D))) (sym e) ∙ f) in
        let count : length (map re after) ≡ n = length_map re after ∙ sym e in
        ap (λ z. carried_result (types_without after) z (re t)) (substituted_at v (action u) n)
        ∙ ap (λ z. carried objects (types_without after) (raise n 0 v) (re z)) (sym same)
        ∙ sym (ap (headed_eta (re t)) (substituted_at v' (action (re u)) n) ∙ subst (λ k. raise k 0 v' ≡ carried objects (types_without after) (raise k 0 v) (re u)) count (raise_carried (map re after) E [] D v u (re u) sorted))
    variable_carried after n i t e (above {i = j} h) f =
        let found : slice_get (types_without after) j ≡ Some (re t) = ap (λ z. slice_get z j) (types_without_are after) ∙ get_map re (after ++ D) j t (sym (get_above after D u j (omega (arith, e, h))) ∙ f) in
        ap (λ z. carried_result (types_without after) z (re t)) (substituted_above v (action u) n j h) ∙ ap (λ o. (listed_variable j o).value) found ∙ sym (ap (headed_eta (re t)) (substituted_above v' (action (re u)) n j h))

    -- the substitution of v' passes through what takes an argument
    substituted_app : (after : SimpleContext) (w m : Object) (s t : Simple) → HasSort sorts' (types_with after) w (Arrow s t) → HasSort sorts' (types_with after) m s → substitute v' (re u) (length after) (app (Arrow s t) w m).value ≡ (app (Arrow s t) (substitute v' (re u) (length after) w) (substitute v' (re u) (length after) m)).value
    substituted_app after (At r) m s t hw hm = absurd hw
    substituted_app after (Lam b) m s t hw hm =
        let count : length (map re after) ≡ length after = length_map re after in
        subst (λ n. substitute v' (re u) n (substitute m s 0 b) ≡ substitute (substitute v' (re u) n m) s 0 (substitute v' (re u) (suc n) b)) count
        (substitutions_commute sorts' (map re after) E v' (re u) m s v'_sorted hm [] (length (map re after)) b t (omega arith) hw)

    mutual
      pub substituted_object : (after : SimpleContext) (m : Object) (t : Simple) → HasSort sorts (after ++ (u ∷ D)) m t → carried objects (types_without after) (substitute v u (length after) m) (re t) ≡ substitute v' (re u) (length after) (carried objects (types_with after) m (re t))
      substituted_object after (Lam m) (Arrow s t) h = ap Lam (substituted_object (s ∷ after) m t h)
      substituted_object after (Lam m) (Base c) h = absurd h
      substituted_object after (At r) (Arrow s t) h = absurd h
      substituted_object after (At r) (Base c) h = carried_result_object (types_without after) (replace_head (substitution v (action u)) (length after) r) c ∙ substituted_head after r (Base c) h

      pub substituted_head : (after : SimpleContext) (r : Atomic) (t : Simple) → SynthesisesSort sorts (after ++ (u ∷ D)) r t → carried_result (types_without after) (replace_head (substitution v (action u)) (length after) r) (re t) ≡ substitute v' (re u) (length after) (carried_head objects (types_with after) r).value
      substituted_head after (Var i) t h =
          let found : slice_get (types_with after) i ≡ Some (re t) = ap (λ z. slice_get z i) (types_with_are after) ∙ get_map re (after ++ (u ∷ D)) i t h in
          variable_carried after (length after) i t refl (position (length after) i) h ∙ sym (ap (λ o. substitute v' (re u) (length after) (listed_variable i o).value) found ∙ replaced_variable after i (re t) found)
      substituted_head after (Con c) t h =
          let n : ℕ = length after in
          sym (ap (substitute v' (re u) n) (sym (closed 1 n c t h)) ∙ substitute_raised v' (action (re u)) 0 n n (objects c).value (omega arith) (omega arith) ∙ raise_by_zero n (objects c).value)
      substituted_head after (App r m) t h =
          let s : Simple = h.domain in
          let head = carried_head_has_sort (after ++ (u ∷ D)) (types_with after) r (Arrow s t) (types_with_are after) h.head_has in
          let argument = carried_has_sort (after ++ (u ∷ D)) (types_with after) m s (types_with_are after) h.argument_has in
          carried_result_takes (after ++ D) (types_without after) (replace_head (substitution v (action u)) (length after) r) (substitute v u (length after) m) s t (types_without_are after) (head_fits after r (Arrow s t) h.head_has) (keeps_sorts u sorts after D v m s sorted h.argument_has)
          ∙ ap₂ (λ x y. (app (Arrow (re s) (re t)) x y).value) (substituted_head after r (Arrow s t) h.head_has) (substituted_object after m s h.argument_has)
          ∙ sym (ap (λ z. substitute v' (re u) (length after) z.value) (typed_taken (carried_head objects (types_with after) r) (re s) (re t) (carried objects (types_with after) m) head.type_is) ∙ substituted_app after (carried_head objects (types_with after) r).value (carried objects (types_with after) m (re s)) (re s) (re t) head.has argument)

  carried_passes_step : (u : Simple) → AllDomains CarriedPasses u → CarriedPasses u
  carried_passes_step u smaller D E v m t e hv hm = substituted_object u smaller D E e v hv [] m t hm

  pub carried_passes : (u : Simple) → CarriedPasses u
  carried_passes = by_domains CarriedPasses carried_passes_step

  -- translation commutes with substitution
  pub carried_commutes : (after D E : SimpleContext) (v m : Object) (u t : Simple) → E ≡ map re D → HasSort sorts D v u → HasSort sorts (after ++ (u ∷ D)) m t → carried objects (map re after ++ E) (substitute v u (length after) m) (re t) ≡ substitute (carried objects E v (re u)) (re u) (length after) (carried objects (map re after ++ (re u ∷ E)) m (re t))
  carried_commutes after D E v m u t e hv hm = substituted_object u (everywhere CarriedPasses carried_passes u) D E e v hv after m t hm
