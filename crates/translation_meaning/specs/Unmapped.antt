-- The first constant without an image in what is to be translated (this profile). Parts are taken from left to right, and a
-- head before its arguments.
use Rattle.std.specs.Prelude.{[], ◌∷◌, Option, Some, None}
use Rattle.eta_meaning.specs.Below.Terms.{Constant, Object, Lam, At, Atomic, Var, Con, App, Family, Pi, AtFamily, AtomicFamily, FamilyCon, FamilyApp, Kind, Ty, PiKind}
use Rattle.eta_meaning.specs.Below.Signatures.{Class, FamilyClass, KindClass, Value, SameAs, TermValue, FamilyValue}
use Rattle.eta_meaning.specs.Below.HeadMaps.{Image, HeadMap, image_of}

-- The first of the two, if there is one.
abbrev pub first_of : Option Constant → Option Constant → Option Constant
first_of None second = second
first_of (Some constant) second = Some constant

-- The constant, where it has no image.
abbrev pub without_image : Constant → Option Image → Option Constant
without_image constant None = Some constant
without_image constant (Some image) = None

unfoldable mutual
  pub unmapped_object : HeadMap → Object → Option Constant
  unmapped_object along (Lam body) = unmapped_object along body
  unmapped_object along (At r) = unmapped_atomic along r

  pub unmapped_atomic : HeadMap → Atomic → Option Constant
  unmapped_atomic along (Var index) = None
  unmapped_atomic along (Con constant) = without_image constant (image_of along constant)
  unmapped_atomic along (App r argument) = first_of (unmapped_atomic along r) (unmapped_object along argument)

unfoldable pub unmapped_atomic_family : HeadMap → AtomicFamily → Option Constant
unmapped_atomic_family along (FamilyCon constant) = without_image constant (image_of along constant)
unmapped_atomic_family along (FamilyApp p argument) = first_of (unmapped_atomic_family along p) (unmapped_object along argument)

unfoldable pub unmapped_family : HeadMap → Family → Option Constant
unmapped_family along (Pi domain body) = first_of (unmapped_family along domain) (unmapped_family along body)
unmapped_family along (AtFamily p) = unmapped_atomic_family along p

unfoldable pub unmapped_kind : HeadMap → Kind → Option Constant
unmapped_kind along Ty = None
unmapped_kind along (PiKind domain kind) = first_of (unmapped_family along domain) (unmapped_kind along kind)

abbrev pub unmapped_class : HeadMap → Class → Option Constant
unmapped_class along (FamilyClass family) = unmapped_family along family
unmapped_class along (KindClass kind) = unmapped_kind along kind

abbrev pub unmapped_value : HeadMap → Value → Option Constant
unmapped_value along (SameAs constant) = without_image constant (image_of along constant)
unmapped_value along (TermValue object) = unmapped_object along object
unmapped_value along (FamilyValue binders body) = unmapped_family along body

-- That of the first mapping of a map which has one, its class before its value.
unfoldable pub unmapped_map : HeadMap → HeadMap → Option Constant
unmapped_map along [] = None
unmapped_map along (first ∷ mappings) =
    first_of (first_of (unmapped_class along first.image.class) (unmapped_value along first.image.value)) (unmapped_map along mappings)
