-- What it means that a constant is the first one without an image (this profile): beside the function that finds it.
use Rattle.std.specs.Prelude.{◌≡◌, List, [], ◌∷◌, ◌++◌, Option, Some, None, IsSome, All}
use Rattle.eta_meaning.specs.Below.Terms.{Constant, Object, Lam, At, Atomic, Var, Con, App, Family, Pi, AtFamily, AtomicFamily, FamilyCon, FamilyApp, Kind, Ty, PiKind}
use Rattle.eta_meaning.specs.Below.Signatures.{Class, FamilyClass, KindClass, Value, SameAs, TermValue, FamilyValue}
use Rattle.eta_meaning.specs.Below.HeadMaps.{HeadMap, image_of}

-- The constants that stand in a term, from left to right.
abbrev mutual
  pub constants_of_object : Object → List Constant
  constants_of_object (Lam body) = constants_of_object body
  constants_of_object (At r) = constants_of_atomic r

  pub constants_of_atomic : Atomic → List Constant
  constants_of_atomic (Var index) = []
  constants_of_atomic (Con constant) = constant ∷ []
  constants_of_atomic (App r argument) = constants_of_atomic r ++ constants_of_object argument

abbrev pub constants_of_atomic_family : AtomicFamily → List Constant
constants_of_atomic_family (FamilyCon constant) = constant ∷ []
constants_of_atomic_family (FamilyApp p argument) = constants_of_atomic_family p ++ constants_of_object argument

abbrev pub constants_of_family : Family → List Constant
constants_of_family (Pi domain body) = constants_of_family domain ++ constants_of_family body
constants_of_family (AtFamily p) = constants_of_atomic_family p

abbrev pub constants_of_kind : Kind → List Constant
constants_of_kind Ty = []
constants_of_kind (PiKind domain kind) = constants_of_family domain ++ constants_of_kind kind

abbrev pub constants_of_class : Class → List Constant
constants_of_class (FamilyClass family) = constants_of_family family
constants_of_class (KindClass kind) = constants_of_kind kind

abbrev pub constants_of_value : Value → List Constant
constants_of_value (SameAs constant) = constant ∷ []
constants_of_value (TermValue object) = constants_of_object object
constants_of_value (FamilyValue binders body) = constants_of_family body

-- The class of an image before its value.
abbrev pub constants_of_map : HeadMap → List Constant
constants_of_map [] = []
constants_of_map (first ∷ mappings) = (constants_of_class first.image.class ++ constants_of_value first.image.value) ++ constants_of_map mappings

abbrev pub IsMapped : HeadMap → Constant → Type 0
IsMapped along constant = IsSome (image_of along constant)

-- The constant has no image, and all before it have one.
pub record IsFirstWithoutImage (along : HeadMap) (constants : List Constant) (constant : Constant) : Type 0 where
  pub before : List Constant
  pub after : List Constant
  pub order : constants ≡ before ++ constant ∷ after
  pub mapped : All (IsMapped along) before
  pub unmapped : image_of along constant ≡ None

-- There is none where all have an image.
abbrev pub IsUnmapped : HeadMap → List Constant → Option Constant → Type 0
IsUnmapped along constants None = All (IsMapped along) constants
IsUnmapped along constants (Some constant) = IsFirstWithoutImage along constants constant
