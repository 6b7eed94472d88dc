-- The composition of typed maps is typed, and its values are proper.
use Rattle.std.proofs.Common.{◌≡◌, ℕ, slice_get, Option, Some, None, option_map, refl, sym, ap, ◌∙◌, subst}
use Rattle.lf_meaning.specs.Terms.{Constant, Pi, AtFamily}
use Rattle.lf_meaning.specs.Signatures.{Class, Value, SameAs, TermValue, FamilyValue, Declaration, Signature}
use Rattle.lf_meaning.specs.Judgements.{IsClass, Fits}
use Rattle.lf_meaning.specs.HeadMaps.{Image, HeadMap, image_of}
use Rattle.translation_meaning.specs.Translation.{translate_object, translate_family, translate_class, translate_value, translate_image, same_image, compose}
use Rattle.translation_meaning.specs.ProperValues.{IsProperValue, ValuesAreProper}
use Rattle.translation_meaning.specs.TypedMaps.{KeepsValue, IsTypedAt}
use Rattle.translation_laws.proofs.Spines.{composed}
use Rattle.translation_typing.specs.AtomicBodies.{HasAtomicBody, BodiesAreAtomic}
use Rattle.translation_typing.specs.Composition.{AreComposable, ObjectsAreComposed, FamiliesAreComposed, KindsAreComposed, ClassesAreComposed, ValuesAreComposed, CompositionIsTyped, CompositionIsProper}
use Rattle.translation_typing.proofs.Bases.{atomic_translated}
use Rattle.translation_typing.proofs.Proper.{proper_atomic, object_value_proper, family_value_proper, proper_atomic_map}
use Rattle.translation_typing.proofs.DeclaredTyped.{declared_typed}
use Rattle.translation_typing.proofs.Laws.{class_carried, value_carried}
use Rattle.translation_typing.proofs.Composing.{object_composed, family_composed, kind_composed, class_composed, value_composed}
use Rattle.std.proofs.lemmas.Option.{same_Some}

same_image_proper : (along : HeadMap) → ValuesAreProper along → (c : Constant) (o : Option Image) → image_of along c ≡ o → IsProperValue (same_image c o)
same_image_proper along h c None e = tt
same_image_proper along h c (Some image) e = h c image e

pub value_proper : (along : HeadMap) → BodiesAreAtomic along → ValuesAreProper along → (value : Value) → HasAtomicBody value → IsProperValue (translate_value along value)
unfolding translate_value
value_proper along atomic proper (SameAs c) h = same_image_proper along proper c (image_of along c) refl
value_proper along atomic proper (TermValue m) h = object_value_proper (translate_object along m)
value_proper along atomic proper (FamilyValue n (Pi a b)) h = absurd h
value_proper along atomic proper (FamilyValue n (AtFamily p)) h = family_value_proper n (translate_family along (AtFamily p)) (atomic_translated along atomic p)

-- ---- the composition

image_in : (second : HeadMap) (o : Option Image) (image : Image) → option_map (translate_image second) o ≡ Some image → (i : Image) × (o ≡ Some i) × (image ≡ translate_image second i)
image_in second None image h = absurd (cc)
image_in second (Some i) image h = (i, refl, same_Some _ _ (sym h))

module _ (from middle to : Signature) (first second : HeadMap) (is : AreComposable from middle to first second) where
  composed_image : (c : Constant) (image : Image) → image_of (compose first second) c ≡ Some image → (i : Image) × (image_of first c ≡ Some i) × (image ≡ translate_image second i)
  composed_image c image e = image_in second (image_of first c) image (sym (composed first second c) ∙ e)

  proper : ValuesAreProper (compose first second)
  proper c image e =
      let i = composed_image c image e in
      subst (λ (z : Image). IsProperValue z.value) (sym i.2) (value_proper second (proper_atomic_map second is.second_proper) is.second_proper i.0.value (proper_atomic_map first is.first_proper c i.0 i.1))

  keeps : (o : Option Value) (class : Class) (i : Image) → IsClass from class → ((v : Value) → o ≡ Some v → Fits from v class) → KeepsValue first o i → KeepsValue (compose first second) o (translate_image second i)
  keeps None class i k f h = tt
  keeps (Some v) class i k f h = ap (translate_value second) h ∙ value_composed from middle to first second is class v k (f v refl)

  typed_at : (place : ℕ) (d : Declaration) → slice_get from place ≡ Some d → IsTypedAt to (compose first second) d
  typed_at place d e =
      let t = is.first_is.typed place d e in
      let known = declared_typed from is.first_is.source place d e in
      let class : IsClass middle t.image.class = subst (IsClass middle) (sym t.class) (class_carried from middle first is.first_is d.class known.class) in
      record {
        image = translate_image second t.image;
        mapped = composed first second d.name ∙ ap (option_map (translate_image second)) t.mapped;
        class = ap (translate_class second) t.class ∙ class_composed from middle to first second is d.class known.class;
        fits = value_carried middle to second is.second_is t.image.class t.image.value class t.fits;
        value = keeps d.value d.class t.image known.class known.value t.value;
      }

pub objects_are_composed : ObjectsAreComposed
objects_are_composed from middle to first second context m a is c f h = sym (object_composed from middle to first second is context m a c f h)

pub families_are_composed : FamiliesAreComposed
families_are_composed from middle to first second context a is c h = sym (family_composed from middle to first second is context a c h)

pub kinds_are_composed : KindsAreComposed
kinds_are_composed from middle to first second context k is c h = sym (kind_composed from middle to first second is context k c h)

pub classes_are_composed : ClassesAreComposed
classes_are_composed from middle to first second class is h = sym (class_composed from middle to first second is class h)

pub values_are_composed : ValuesAreComposed
values_are_composed from middle to first second class value is i h = sym (value_composed from middle to first second is class value i h)

pub composition_is_proper : CompositionIsProper
composition_is_proper from middle to first second is = proper from middle to first second is

pub composition_is_typed : CompositionIsTyped
composition_is_typed from middle to first second is =
    record {
      source = is.first_is.source;
      target = is.second_is.target;
      typed = λ place d e. typed_at from middle to first second is place d e;
      atomic = λ c class image k e. proper_atomic image.value (proper from middle to first second is c image e);
    }
