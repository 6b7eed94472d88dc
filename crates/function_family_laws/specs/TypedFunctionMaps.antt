-- Typed maps between signatures, where the image of a family constant may be any family (Rabe and Kohlhase 2013, section 4:
-- well-formed morphisms).
use Rattle.std.specs.Prelude.{◌≡◌, ℕ, Option, Some, None, slice_get, ⊤}
use Rattle.lf_meaning.specs.Signatures.{Class, Value, Declaration, Signature}
use Rattle.lf_meaning.specs.Judgements.{Fits, IsSignature}
use Rattle.lf_meaning.specs.HeadMaps.{Image, HeadMap, image_of}
use Rattle.eta_meaning.specs.LongValues.{Agree}
use Rattle.translation_meaning.specs.FunctionFamilies.{translate_class, translate_value}

-- The image of a defined constant agrees with the constant's translated value, at the translated class; of an undefined one nothing
-- is said.
abbrev pub AgreesWithValue : HeadMap → Class → Option Value → Image → Type 0
AgreesWithValue along class None image = ⊤
AgreesWithValue along class (Some value) image = Agree class image.value (translate_value along class value)

-- The constant of this declaration has an image of its translated class, whose value fits that class over the target, and agrees
-- with the translated value where the constant is defined.
pub record IsTypedFunctionAt (to : Signature) (along : HeadMap) (declaration : Declaration) : Type 0 where
  pub image : Image
  pub mapped : image_of along declaration.name ≡ Some image
  pub class : image.class ≡ translate_class along declaration.class
  pub fits : Fits to image.value image.class
  pub agrees : AgreesWithValue along (translate_class along declaration.class) declaration.value image

-- The map is typed from one signature to the other.
abbrev pub IsTypedFunctionMap : Signature → Signature → HeadMap → Type 0
IsTypedFunctionMap from to along = (place : ℕ) (declaration : Declaration) → slice_get from place ≡ Some declaration → IsTypedFunctionAt to along declaration

-- The map is typed from a well-typed signature to a well-typed one. Nothing is said of the images of other constants.
pub record IsTypedFunctionTranslation (from to : Signature) (along : HeadMap) : Type 0 where
  pub source : IsSignature from
  pub target : IsSignature to
  pub typed : IsTypedFunctionMap from to along
