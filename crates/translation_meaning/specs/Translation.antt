-- Translation along a head map (Rabe and Kohlhase 2013, section 4: the homomorphic extension of a morphism; here the result
-- is brought to canonical form hereditarily).
use Rattle.std.specs.Prelude.{ℕ, zero, suc, Option, Some, None, map}
use Rattle.eta_meaning.specs.Below.Terms.{Constant, Object, Lam, At, Var, Con, App, Family, Pi, AtFamily, AtomicFamily, FamilyCon, FamilyApp, Kind, Ty, PiKind}
use Rattle.eta_meaning.specs.Below.Erasure.{erase}
use Rattle.eta_meaning.specs.Below.Replacement.{Headed, Kept, Replaced, replace_constants}
use Rattle.eta_meaning.specs.Below.Substitution.{action}
use Rattle.eta_meaning.specs.Below.Signatures.{Class, FamilyClass, KindClass, Value, SameAs, TermValue, FamilyValue}
use Rattle.translation_meaning.specs.Heads.{Head, ObjectHead, FamilyHead, head_takes}
use Rattle.eta_meaning.specs.Below.HeadMaps.{Image, Mapping, HeadMap, image_of}

-- What stands in place of an object constant with this image. The same constant d is d; a term is itself, at the
-- erasure of the image's classifier. An image of another level leaves the constant: no checked map has one.
abbrev pub object_image : Constant → Class → Value → Headed
object_image constant class (SameAs d) = Kept (Con d)
object_image constant (FamilyClass family) (TermValue object) = Replaced object (action (erase family))
object_image constant (KindClass kind) (TermValue object) = Kept (Con constant)
object_image constant class (FamilyValue binders body) = Kept (Con constant)

-- A constant without an image stays.
abbrev pub headed_image : Constant → Option Image → Headed
headed_image constant None = Kept (Con constant)
headed_image constant (Some image) = object_image constant image.class image.value

-- The object with each constant replaced by its image. A variable stays; an argument is taken hereditarily.
unfoldable pub translate_object : HeadMap → Object → Object
translate_object along object = replace_constants (λ (constant : Constant). headed_image constant (image_of along constant)) object

-- The kind of an image that is a family; of another image `type`.
abbrev pub image_kind : Class → Kind
image_kind (FamilyClass family) = Ty
image_kind (KindClass kind) = kind

-- What stands in place of a family constant with this image, at the kind of the image.
abbrev pub family_image : Constant → Class → Value → Head
family_image constant class (SameAs d) = FamilyHead zero (AtFamily (FamilyCon d)) (image_kind class)
family_image constant class (TermValue object) = FamilyHead zero (AtFamily (FamilyCon constant)) (image_kind class)
family_image constant class (FamilyValue binders body) = FamilyHead binders body (image_kind class)

abbrev pub family_head_image : Constant → Option Image → Head
family_head_image constant None = FamilyHead zero (AtFamily (FamilyCon constant)) Ty
family_head_image constant (Some image) = family_image constant image.class image.value

-- The head that stands for a translated atomic family.
unfoldable pub translate_head : HeadMap → AtomicFamily → Head
translate_head along (FamilyCon constant) = family_head_image constant (image_of along constant)
translate_head along (FamilyApp p argument) = head_takes (translate_head along p) (translate_object along argument)

-- The family of a head.
abbrev pub family_of : Head → AtomicFamily → Family
family_of (ObjectHead object classifier) p = AtFamily p
family_of (FamilyHead binders family kind) p = family

unfoldable pub translate_family : HeadMap → Family → Family
translate_family along (Pi domain body) = Pi (translate_family along domain) (translate_family along body)
translate_family along (AtFamily p) = family_of (translate_head along p) p

unfoldable pub translate_kind : HeadMap → Kind → Kind
translate_kind along Ty = Ty
translate_kind along (PiKind domain kind) = PiKind (translate_family along domain) (translate_kind along kind)

abbrev pub translate_class : HeadMap → Class → Class
translate_class along (FamilyClass family) = FamilyClass (translate_family along family)
translate_class along (KindClass kind) = KindClass (translate_kind along kind)

-- The value of an object, or of a family with so many binders. A bare constant is the same as that constant.
abbrev pub object_value : Object → Value
object_value (Lam body) = TermValue (Lam body)
object_value (At (Var index)) = TermValue (At (Var index))
object_value (At (Con constant)) = SameAs constant
object_value (At (App head argument)) = TermValue (At (App head argument))

abbrev pub family_value : ℕ → Family → Value
family_value zero (Pi domain body) = FamilyValue zero (Pi domain body)
family_value zero (AtFamily (FamilyCon constant)) = SameAs constant
family_value zero (AtFamily (FamilyApp p argument)) = FamilyValue zero (AtFamily (FamilyApp p argument))
family_value (suc binders) body = FamilyValue (suc binders) body

-- The value of the image, or the same constant where it has none.
abbrev pub same_image : Constant → Option Image → Value
same_image constant None = SameAs constant
same_image constant (Some image) = image.value

-- The translated value. That of a constant is the value of its image.
unfoldable pub translate_value : HeadMap → Value → Value
translate_value along (SameAs constant) = same_image constant (image_of along constant)
translate_value along (TermValue object) = object_value (translate_object along object)
translate_value along (FamilyValue binders body) = family_value binders (translate_family along body)

abbrev pub translate_image : HeadMap → Image → Image
translate_image along image = record { class = translate_class along image.class; value = translate_value along image.value }

-- The composition of two maps: the constants of the first, each with its image translated along the second.
unfoldable pub compose : HeadMap → HeadMap → HeadMap
compose first second = map (λ (mapping : Mapping). record { name = mapping.name; image = translate_image second mapping.image }) first
