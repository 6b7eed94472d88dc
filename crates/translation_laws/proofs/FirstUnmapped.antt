-- The first constant without an image is found.
use Rattle.std.proofs.Common.{◌≡◌, List, [], ◌∷◌, ◌++◌, Option, Some, None, is_some, refl, sym, ap, ◌∙◌}
use Rattle.std.proofs.lemmas.List.{append_assoc}
use Rattle.std.proofs.lemmas.List.Elements.{All-nil, All-cons, All-append}
use Rattle.lf_meaning.specs.Terms.{Constant, Object, Lam, At, Atomic, Var, Con, App, Family, Pi, AtFamily, AtomicFamily, FamilyCon, FamilyApp, Kind, Ty, PiKind}
use Rattle.lf_meaning.specs.Signatures.{Class, FamilyClass, KindClass, Value, SameAs, TermValue, FamilyValue}
use Rattle.lf_meaning.specs.HeadMaps.{Image, HeadMap, image_of}
use Rattle.translation_meaning.specs.FirstUnmapped.{constants_of_object, constants_of_atomic, constants_of_atomic_family, constants_of_family, constants_of_kind, constants_of_class, constants_of_value, constants_of_map, IsMapped, IsUnmapped}
use Rattle.translation_meaning.specs.Unmapped.{first_of, without_image, unmapped_object, unmapped_atomic, unmapped_atomic_family, unmapped_family, unmapped_kind, unmapped_class, unmapped_value, unmapped_map}
use Rattle.translation_laws.specs.TranslationLaws.{FirstIsFound}

module _ (along : HeadMap) where
  joined : (xs ys : List Constant) (o p : Option Constant) → IsUnmapped along xs o → IsUnmapped along ys p → IsUnmapped along (xs ++ ys) (first_of o p)
  joined xs ys None None f g = All-append (IsMapped along) xs ys f g
  joined xs ys None (Some c) f g = record {
    before = xs ++ g.before;
    after = g.after;
    order = ap (λ zs. xs ++ zs) g.order ∙ sym (append_assoc xs g.before (c ∷ g.after));
    mapped = All-append (IsMapped along) xs g.before f g.mapped;
    unmapped = g.unmapped;
  }
  joined xs ys (Some c) p f g = record {
    before = f.before;
    after = f.after ++ ys;
    order = ap (λ zs. zs ++ ys) f.order ∙ append_assoc f.before (c ∷ f.after) ys;
    mapped = f.mapped;
    unmapped = f.unmapped;
  }

  one : (c : Constant) (o : Option Image) → image_of along c ≡ o → IsUnmapped along (c ∷ []) (without_image c o)
  one c None e = record { before = []; after = []; order = refl; mapped = All-nil (IsMapped along); unmapped = e }
  one c (Some image) e = All-cons (IsMapped along) c [] (ap is_some e) (All-nil (IsMapped along))

  mutual
    unfolding unmapped_object

    object : (m : Object) → IsUnmapped along (constants_of_object m) (unmapped_object along m)
    object (Lam body) = object body
    object (At r) = atomic r

    atomic : (r : Atomic) → IsUnmapped along (constants_of_atomic r) (unmapped_atomic along r)
    atomic (Var index) = All-nil (IsMapped along)
    atomic (Con c) = one c (image_of along c) refl
    atomic (App r argument) = joined (constants_of_atomic r) (constants_of_object argument) (unmapped_atomic along r) (unmapped_object along argument) (atomic r) (object argument)

  atomic_family : (p : AtomicFamily) → IsUnmapped along (constants_of_atomic_family p) (unmapped_atomic_family along p)
  unfolding unmapped_atomic_family
  atomic_family (FamilyCon c) = one c (image_of along c) refl
  atomic_family (FamilyApp p argument) = joined (constants_of_atomic_family p) (constants_of_object argument) (unmapped_atomic_family along p) (unmapped_object along argument) (atomic_family p) (object argument)

  family : (a : Family) → IsUnmapped along (constants_of_family a) (unmapped_family along a)
  unfolding unmapped_family
  family (Pi domain body) = joined (constants_of_family domain) (constants_of_family body) (unmapped_family along domain) (unmapped_family along body) (family domain) (family body)
  family (AtFamily p) = atomic_family p

  kind : (k : Kind) → IsUnmapped along (constants_of_kind k) (unmapped_kind along k)
  unfolding unmapped_kind
  kind Ty = All-nil (IsMapped along)
  kind (PiKind domain body) = joined (constants_of_family domain) (constants_of_kind body) (unmapped_family along domain) (unmapped_kind along body) (family domain) (kind body)

  class : (class : Class) → IsUnmapped along (constants_of_class class) (unmapped_class along class)
  class (FamilyClass a) = family a
  class (KindClass k) = kind k

  value : (v : Value) → IsUnmapped along (constants_of_value v) (unmapped_value along v)
  value (SameAs c) = one c (image_of along c) refl
  value (TermValue m) = object m
  value (FamilyValue binders body) = family body

  mappings : (ms : HeadMap) → IsUnmapped along (constants_of_map ms) (unmapped_map along ms)
  unfolding unmapped_map
  mappings [] = All-nil (IsMapped along)
  mappings (first ∷ ms) =
      let classes = constants_of_class first.image.class in
      let values = constants_of_value first.image.value in
      let here = joined classes values (unmapped_class along first.image.class) (unmapped_value along first.image.value) (class first.image.class) (value first.image.value) in
      joined (classes ++ values) (constants_of_map ms) (first_of (unmapped_class along first.image.class) (unmapped_value along first.image.value)) (unmapped_map along ms) here (mappings ms)

pub first_is_found : FirstIsFound
first_is_found = record { object = object; family = family; kind = kind; class = class; value = value; map = mappings }
