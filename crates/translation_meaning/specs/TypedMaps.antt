-- Typed maps between signatures (Rabe and Kohlhase 2013, section 4: well-formed morphisms).
use Rattle.std.specs.Prelude.{◌≡◌, ℕ, Option, Some, None, slice_get, ⊤}
use Rattle.eta_meaning.specs.Below.Signatures.{Value, Declaration, Signature}
use Rattle.eta_meaning.specs.Below.Judgements.{Fits}
use Rattle.eta_meaning.specs.Below.HeadMaps.{Image, HeadMap, image_of}
use Rattle.translation_meaning.specs.Translation.{translate_class, translate_value}

-- The image has the translated value of a defined constant; of an undefined one nothing is said.
abbrev pub KeepsValue : HeadMap → Option Value → Image → Type 0
KeepsValue along None image = ⊤
KeepsValue along (Some value) image = image.value ≡ translate_value along value

-- The constant of this declaration has an image of its translated class, whose value fits that class over the target,
-- and is the translated value where the constant is defined.
pub record IsTypedAt (to : Signature) (along : HeadMap) (declaration : Declaration) : Type 0 where
  pub image : Image
  pub mapped : image_of along declaration.name ≡ Some image
  pub class : image.class ≡ translate_class along declaration.class
  pub fits : Fits to image.value image.class
  pub value : KeepsValue along declaration.value image

-- The map is typed from one signature to the other.
abbrev pub IsTypedMap : Signature → Signature → HeadMap → Type 0
IsTypedMap from to along = (place : ℕ) (declaration : Declaration) → slice_get from place ≡ Some declaration → IsTypedAt to along declaration
