-- Where each base goes to a base, the translation of objects is a replacement of constants, as `Translation` has it.
use Rattle.std.proofs.Common.{◌≡◌, ℕ, zero, suc, List, [], ◌∷◌, map, Some, refl, sym, ap, subst, ◌∙◌}
use Rattle.std.specs.Prelude.{slice_get}
use Rattle.lf_meaning.specs.Terms.{Constant, Object, Lam, At, Atomic, Var, Con, App, Family, Kind, Ty, PiKind, Simple, Base, Arrow, SimpleContext}
use Rattle.lf_meaning.specs.Erasure.{erase}
use Rattle.lf_meaning.specs.Replacement.{Headed, Kept, Replaced, object_of, value_takes, takes, of_constants, replace, replace_head}
use Rattle.lf_meaning.specs.Substitution.{substitute, Typed, app}
use Rattle.lf_meaning.specs.Sorts.{Sorts, HasSort, SynthesisesSort}
use Rattle.lf_substitution_laws.proofs.SortedFamilies.{more_sort, more_atomic_sort}
use Rattle.lf_substitution_laws.proofs.Sorting.{HeadedFits, fits_takes, keeps_sorts}
use Rattle.lf_substitution_laws.proofs.Commutation.{Anything}
use Rattle.lf_term_laws.proofs.Lookups.{get_map}
use Rattle.translation_meaning.specs.Heads.{Head, FamilyHead, head_takes, family_head_takes}
use Rattle.list_laws.proofs.Lists.{first_same}
use Rattle.translation_meaning.specs.FunctionFamilies.{with_bases, listed_variable, takes_at_type, carried, carried_head, PartialFamily, takes_at_domain, takes_at_kind}
use Rattle.eta_laws.proofs.Identity.{eta_app}
use Rattle.function_family_laws.proofs.ReplacedForms.{headed_eta}
use Rattle.function_family_laws.proofs.CarriedObjects.{AreTypedObjects, typed_taken, carried_has_sort}
use Rattle.function_family_laws.proofs.PartialFamilies.{KindFits}

-- a headed result and a value at its simple type: what is kept stands for its long form
pub record SameHead (sorts : Sorts) (E : SimpleContext) (typed_head : Typed) (headed : Headed) (t : Simple) : Type 0 where
  pub type_is : typed_head.type ≡ t
  pub value_is : typed_head.value ≡ headed_eta t headed
  pub fits : HeadedFits Anything sorts E headed t

-- the long form of a kept head, or a value, takes an argument as the head does
headed_eta_takes : (sorts : Sorts) (E : SimpleContext) (headed : Headed) (m : Object) (s t : Simple) → HeadedFits Anything sorts E headed (Arrow s t) → HasSort sorts E m s → (app (Arrow s t) (headed_eta (Arrow s t) headed) m).value ≡ headed_eta t (takes headed m)
headed_eta_takes sorts E (Kept r) m s t f g = ap (λ (z : Typed). z.value) (eta_app sorts E s t r m g)
headed_eta_takes sorts E (Replaced (At r) a) m s t f g = absurd f.1
headed_eta_takes sorts E (Replaced (Lam b) a) m s t f g = subst (λ z. substitute m s 0 b ≡ headed_eta t (value_takes (Lam b) z m)) (sym f.0) refl

app_codomain : (s t : Simple) (v m : Object) → (app (Arrow s t) v m).type ≡ t
app_codomain s t (Lam b) m = refl
app_codomain s t (At r) m = refl

same_taken : (sorts : Sorts) (E : SimpleContext) (typed_head : Typed) (headed : Headed) (argument : Simple → Object) (m : Object) (s t : Simple) → SameHead sorts E typed_head headed (Arrow s t) → argument s ≡ m → HasSort sorts E m s → SameHead sorts E (takes_at_type typed_head argument) (takes headed m) t
same_taken sorts E typed_head headed argument m s t h e g =
    let taken : takes_at_type typed_head argument ≡ app (Arrow s t) typed_head.value m = typed_taken typed_head s t argument h.type_is ∙ ap (app (Arrow s t) typed_head.value) e in
    record {
      type_is = ap (λ (z : Typed). z.type) taken ∙ app_codomain s t typed_head.value m;
      value_is = ap (λ (z : Typed). z.value) taken ∙ ap (λ z. (app (Arrow s t) z m).value) h.value_is ∙ headed_eta_takes sorts E headed m s t h.fits g;
      fits = fits_takes Anything (λ u q. keeps_sorts u) sorts E headed m s t h.fits g;
    }

module _ (objects : Constant → Typed) (images : Constant → Headed) (bases : Constant → Simple) (sorts sorts' : Sorts) (objects_typed : AreTypedObjects objects bases sorts sorts') (atomic : (c : Constant) → (d : Constant) × (bases c ≡ Base d)) (same : (c : Constant) (t : Simple) → sorts c ≡ Some t → SameHead sorts' [] (objects c) (images c) (with_bases bases t)) where
  abbrev re : Simple → Simple
  re = with_bases bases

  more_same : (E : SimpleContext) (h : Headed) (t : Simple) → HeadedFits Anything sorts' [] h t → HeadedFits Anything sorts' E h t
  more_same E (Kept r) t f = more_atomic_sort sorts' sorts' (λ x u q. q) [] E r t f
  more_same E (Replaced v a) t f = (f.0, more_sort sorts' sorts' (λ x u q. q) [] E v t f.1, f.2)

  -- at a base a headed result stands for its object
  headed_eta_at_base : (h : Headed) (d : Constant) → headed_eta (Base d) h ≡ object_of h
  headed_eta_at_base (Kept r) d = refl
  headed_eta_at_base (Replaced v a) d = refl

  mutual
    pub replaced_object : (n : ℕ) (D E : SimpleContext) (m : Object) (t : Simple) → E ≡ map re D → HasSort sorts D m t → carried objects E m (re t) ≡ replace (of_constants images) n m
    replaced_object n D E (Lam m) (Arrow s t) e h = ap Lam (replaced_object (suc n) (s ∷ D) (re s ∷ E) m t (ap (λ z. re s ∷ z) e) h)
    replaced_object n D E (Lam m) (Base c) e h = absurd h
    replaced_object n D E (At r) (Arrow s t) e h = absurd h
    replaced_object n D E (At r) (Base c) e h =
        let head = replaced_head n D E r (Base c) e h in
        head.value_is ∙ ap (λ z. headed_eta z (replace_head (of_constants images) n r)) (atomic c).1 ∙ headed_eta_at_base (replace_head (of_constants images) n r) (atomic c).0

    pub replaced_head : (n : ℕ) (D E : SimpleContext) (r : Atomic) (t : Simple) → E ≡ map re D → SynthesisesSort sorts D r t → SameHead sorts' E (carried_head objects E r) (replace_head (of_constants images) n r) (re t)
    replaced_head n D E (Var i) t e h =
        let found : slice_get E i ≡ Some (re t) = ap (λ z. slice_get z i) e ∙ get_map re D i t h in
        subst (λ o. SameHead sorts' E (listed_variable i o) (Kept (Var i)) (re t)) (sym found) (record { type_is = refl; value_is = refl; fits = found })
    replaced_head n D E (Con c) t e h =
        let s = same c t h in
        record { type_is = s.type_is; value_is = s.value_is; fits = more_same E (images c) (re t) s.fits }
    replaced_head n D E (App r m) t e h =
        let argument = replaced_object n D E m h.domain e h.argument_has in
        same_taken sorts' E (carried_head objects E r) (replace_head (of_constants images) n r) (carried objects E m) (replace (of_constants images) n m) (re h.domain) (re t) (replaced_head n D E r (Arrow h.domain t) e h.head_has) argument
        (subst (λ z. HasSort sorts' E z (re h.domain)) argument (carried_has_sort objects bases sorts sorts' objects_typed D E m h.domain e h.argument_has))

-- ---- families

abbrev pub head_of : PartialFamily → Head
head_of h = FamilyHead h.binders h.family h.kind

domain_same : (b : ℕ) (f a : Family) (k : Kind) (m : Object) → family_head_takes b f a k m ≡ head_of (takes_at_domain b f a k m)
domain_same zero f a k m = refl
domain_same (suc b) f a k m = refl

pub kind_taken_same : (sorts : Sorts) (E : SimpleContext) (b : ℕ) (f : Family) (k : Kind) (argument : Simple → Object) (m : Object) (s : Simple) (rest : List Simple) → KindFits sorts E (s ∷ rest) b f k → ((a : Family) → erase a ≡ s → argument (erase a) ≡ m) → head_takes (FamilyHead b f k) m ≡ head_of (takes_at_kind b f k argument)
kind_taken_same sorts E b f Ty argument m s rest h e = absurd (let q = h.domains in cc)
kind_taken_same sorts E b f (PiKind a k) argument m s rest h e = domain_same b f a k m ∙ ap (λ z. head_of (takes_at_domain b f a k z)) (sym (e a (first_same h.domains)))
