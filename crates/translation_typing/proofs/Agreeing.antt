-- Maps that agree on the constants of a signature translate what is typed over it alike.
use Rattle.std.proofs.Common.{◌≡◌, ℕ, zero, suc, [], ◌∷◌, refl, ap, ap₂}
use Rattle.lf_meaning.specs.Terms.{Object, Lam, At, Atomic, Var, Con, App, Family, Pi, AtFamily, AtomicFamily, FamilyCon, FamilyApp, Kind, Ty, PiKind, Context, with_domains}
use Rattle.lf_meaning.specs.Erasure.{erase, erase_context}
use Rattle.lf_meaning.specs.Replacement.{object_of, takes, replace, replace_head, of_constants}
use Rattle.lf_meaning.specs.Signatures.{Class, FamilyClass, KindClass, Value, SameAs, TermValue, FamilyValue, Signature}
use Rattle.lf_meaning.specs.Judgements.{Checks, IsFamily, IsKind, IsContext, IsClass, Fits}
use Rattle.lf_typing.proofs.Typed.{checks_sort}
use Rattle.translation_meaning.specs.Heads.{head_takes}
use Rattle.lf_meaning.specs.HeadMaps.{HeadMap}
use Rattle.translation_meaning.specs.Translation.{headed_image, family_head_image, family_of, translate_object, translate_head, translate_family, translate_kind, translate_class, translate_value, object_value, family_value, same_image}
use Rattle.translation_typing.specs.TypedTranslation.{translate_context}
use Rattle.translation_typing.proofs.Kinded.{family_kinded, kind_kinded}
use Rattle.translation_typing.proofs.Known.{ObjectKnown, AtomicKnown, HeadKnown, FamilyKnown, KindKnown, object_known, family_known, kind_known}
use Rattle.translation_typing.proofs.Images.{by_images}
use Rattle.lf_term_laws.proofs.Declarations.{AgreeOn}

module _ (sig : Signature) (first second : HeadMap) (agree : AgreeOn sig first second) where
  mutual
    replace_agrees : (n : ℕ) (m : Object) → ObjectKnown sig m → replace (of_constants (by_images first)) n m ≡ replace (of_constants (by_images second)) n m
    replace_agrees n (Lam m) h = ap Lam (replace_agrees (suc n) m h)
    replace_agrees n (At r) h = ap object_of (replace_head_agrees n r h)

    pub replace_head_agrees : (n : ℕ) (r : Atomic) → AtomicKnown sig r → replace_head (of_constants (by_images first)) n r ≡ replace_head (of_constants (by_images second)) n r
    replace_head_agrees n (Var i) h = refl
    replace_head_agrees n (Con c) h = ap (headed_image c) (agree c h.0 h.1)
    replace_head_agrees n (App r m) h = ap₂ takes (replace_head_agrees n r h.0) (replace_agrees n m h.1)

  pub object_agrees : (m : Object) → ObjectKnown sig m → translate_object first m ≡ translate_object second m
  unfolding translate_object
  object_agrees m h = replace_agrees zero m h

  pub head_agrees : (p : AtomicFamily) → HeadKnown sig p → translate_head first p ≡ translate_head second p
  unfolding translate_head
  head_agrees (FamilyCon c) h = ap (family_head_image c) (agree c h.0 h.1)
  head_agrees (FamilyApp p m) h = ap₂ head_takes (head_agrees p h.0) (object_agrees m h.1)

  pub family_agrees : (a : Family) → FamilyKnown sig a → translate_family first a ≡ translate_family second a
  unfolding translate_family
  family_agrees (Pi a b) h = ap₂ Pi (family_agrees a h.0) (family_agrees b h.1)
  family_agrees (AtFamily p) h = ap (λ z. family_of z p) (head_agrees p h)

  pub kind_agrees : (k : Kind) → KindKnown sig k → translate_kind first k ≡ translate_kind second k
  unfolding translate_kind
  kind_agrees Ty h = refl
  kind_agrees (PiKind a k) h = ap₂ PiKind (family_agrees a h.0) (kind_agrees k h.1)

  -- ---- what is typed

  pub checked_agrees : (context : Context) (m : Object) (a : Family) → Checks sig context m a → translate_object first m ≡ translate_object second m
  checked_agrees context m a h = object_agrees m (object_known sig (erase_context context) m (erase a) (checks_sort sig context m a h))

  pub typed_family_agrees : (context : Context) (a : Family) → IsFamily sig context a → translate_family first a ≡ translate_family second a
  typed_family_agrees context a h = family_agrees a (family_known sig (erase_context context) a (family_kinded sig context a h))

  pub typed_kind_agrees : (context : Context) (k : Kind) → IsKind sig context k → translate_kind first k ≡ translate_kind second k
  typed_kind_agrees context k h = kind_agrees k (kind_known sig (erase_context context) k (kind_kinded sig context k h))

  pub class_agrees : (class : Class) → IsClass sig class → translate_class first class ≡ translate_class second class
  class_agrees (FamilyClass a) h = ap FamilyClass (typed_family_agrees [] a h)
  class_agrees (KindClass k) h = ap KindClass (typed_kind_agrees [] k h)

  pub context_agrees : (context : Context) → IsContext sig context → translate_context first context ≡ translate_context second context
  context_agrees [] h = refl
  context_agrees (a ∷ context) h = ap₂ (λ z zs. z ∷ zs) (typed_family_agrees context a h.1) (context_agrees context h.0)

  pub value_agrees : (class : Class) (value : Value) → Fits sig value class → translate_value first value ≡ translate_value second value
  unfolding translate_value
  value_agrees class (SameAs c) h = ap (same_image c) (agree c class h)
  value_agrees (FamilyClass a) (TermValue m) h = ap object_value (checked_agrees [] m a h)
  value_agrees (KindClass k) (TermValue m) h = absurd h
  value_agrees (FamilyClass a) (FamilyValue n body) h = absurd h
  value_agrees (KindClass k) (FamilyValue n body) h = ap (family_value n) (typed_family_agrees (with_domains k []) body h.1)
