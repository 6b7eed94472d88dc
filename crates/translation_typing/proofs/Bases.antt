-- Translation along a map whose families are atomic renames the bases of simple types.
use Rattle.std.proofs.Common.{◌≡◌, zero, suc, Option, Some, None, refl, ap, ap₂, ◌∙◌}
use Rattle.lf_meaning.specs.Terms.{Constant, Object, Family, Pi, AtFamily, AtomicFamily, FamilyCon, FamilyApp, Ty, PiKind, Simple, Base, Arrow}
use Rattle.lf_meaning.specs.Erasure.{erase, head_constant}
use Rattle.lf_meaning.specs.Substitution.{substitute}
use Rattle.lf_meaning.specs.Signatures.{Class, Value, SameAs, TermValue, FamilyValue}
use Rattle.lf_substitution_laws.specs.Uniform.{rename_bases}
use Rattle.lf_substitution_laws.proofs.Families.{head_constant_map}
use Rattle.translation_meaning.specs.Heads.{Head, ObjectHead, FamilyHead, head_takes}
use Rattle.lf_meaning.specs.HeadMaps.{Image, HeadMap, image_of}
use Rattle.translation_meaning.specs.Translation.{family_image, family_head_image, translate_object, translate_head, family_of, translate_family}
use Rattle.translation_meaning.specs.AtomicFamilies.{IsAtomicFamily}
use Rattle.translation_typing.specs.AtomicBodies.{HasAtomicBody, BodiesAreAtomic}

-- the constant at the head of a head's family
abbrev pub base_of : Head → Constant → Constant
base_of (ObjectHead object classifier) c = c
base_of (FamilyHead binders (Pi a b) kind) c = c
base_of (FamilyHead binders (AtFamily p) kind) c = head_constant p

pub bases : HeadMap → Constant → Constant
bases along c = base_of (translate_head along (FamilyCon c)) c

abbrev pub renamed : HeadMap → Simple → Simple
renamed along = rename_bases (bases along)

-- a family that is atomic, with this constant at its head
abbrev pub HasBase : Constant → Head → Type 0
HasBase base (ObjectHead object classifier) = ⊥
HasBase base (FamilyHead binders (Pi a b) kind) = ⊥
HasBase base (FamilyHead binders (AtFamily p) kind) = head_constant p ≡ base

base_taken : (base : Constant) (head : Head) (m : Object) → HasBase base head → HasBase base (head_takes head m)
base_taken base (ObjectHead object classifier) m h = absurd h
base_taken base (FamilyHead binders (Pi a b) kind) m h = absurd h
base_taken base (FamilyHead zero (AtFamily p) Ty) m h = h
base_taken base (FamilyHead (suc binders) (AtFamily p) Ty) m h = h
base_taken base (FamilyHead zero (AtFamily p) (PiKind a k)) m h = h
base_taken base (FamilyHead (suc binders) (AtFamily p) (PiKind a k)) m h = head_constant_map (substitute m (erase a)) binders p ∙ h

module _ (along : HeadMap) (atomic : BodiesAreAtomic along) where
  image_base : (c : Constant) (class : Class) (value : Value) → HasAtomicBody value → HasBase (base_of (family_image c class value) c) (family_image c class value)
  image_base c class (SameAs d) h = refl
  image_base c class (TermValue m) h = refl
  image_base c class (FamilyValue n (Pi a b)) h = absurd h
  image_base c class (FamilyValue n (AtFamily p)) h = refl

  constant_base : (c : Constant) (o : Option Image) → image_of along c ≡ o → HasBase (base_of (family_head_image c o) c) (family_head_image c o)
  constant_base c None e = refl
  constant_base c (Some image) e = image_base c image.class image.value (atomic c image e)

  pub head_base : (p : AtomicFamily) → HasBase (bases along (head_constant p)) (translate_head along p)
  unfolding translate_head bases
  head_base (FamilyCon c) = constant_base c (image_of along c) refl
  head_base (FamilyApp p m) = base_taken (bases along (head_constant p)) (translate_head along p) (translate_object along m) (head_base p)

  family_base : (base : Constant) (head : Head) (p : AtomicFamily) → HasBase base head → erase (family_of head p) ≡ Base base
  family_base base (ObjectHead object classifier) p h = absurd h
  family_base base (FamilyHead binders (Pi a b) kind) p h = absurd h
  family_base base (FamilyHead binders (AtFamily q) kind) p h = ap Base h

  pub erase_translated : (a : Family) → erase (translate_family along a) ≡ renamed along (erase a)
  unfolding translate_family
  erase_translated (Pi a b) = ap₂ Arrow (erase_translated a) (erase_translated b)
  erase_translated (AtFamily p) = family_base (bases along (head_constant p)) (translate_head along p) p (head_base p)

  atomic_of : (base : Constant) (head : Head) (p : AtomicFamily) → HasBase base head → IsAtomicFamily (family_of head p)
  atomic_of base (ObjectHead object classifier) p h = absurd h
  atomic_of base (FamilyHead binders (Pi a b) kind) p h = absurd h
  atomic_of base (FamilyHead binders (AtFamily q) kind) p h = tt

  pub atomic_translated : (p : AtomicFamily) → IsAtomicFamily (translate_family along (AtFamily p))
  unfolding translate_family
  atomic_translated p = atomic_of (bases along (head_constant p)) (translate_head along p) p (head_base p)
