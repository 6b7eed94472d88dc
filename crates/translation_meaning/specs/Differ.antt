-- Where two maps differ (this profile).
use Rattle.std.specs.Prelude.{ℕ, zero, suc, Bool, false, [], ◌∷◌, Option, Some, None, option_map, if◌then◌else◌}
use Rattle.eta_meaning.specs.Below.Terms.{Constant}
use Rattle.eta_meaning.specs.Below.Signatures.{Value, Declaration, Signature}
use Rattle.eta_meaning.specs.Below.Equality.{same_value}
use Rattle.eta_meaning.specs.Below.HeadMaps.{Image, HeadMap, image_of}

-- The value of a constant's image, if it has one.
abbrev pub value_in : HeadMap → Constant → Option Value
value_in along constant = option_map (λ (image : Image). image.value) (image_of along constant)

-- Both are there, and they are the same.
abbrev pub agree : Option Value → Option Value → Bool
agree None other = false
agree (Some value) None = false
agree (Some value) (Some other) = same_value value other

-- Both maps give the constant an image, with the same value.
abbrev pub agree_on : HeadMap → HeadMap → Declaration → Bool
agree_on first second declaration = agree (value_in first declaration.name) (value_in second declaration.name)

-- The place of the first declaration, counted from this one on, whose values differ or which one map lacks.
unfoldable pub differ_from : ℕ → HeadMap → HeadMap → Signature → Option ℕ
differ_from place first second [] = None
differ_from place first second (declaration ∷ declarations) =
    if agree_on first second declaration then differ_from (suc place) first second declarations else Some place

-- The place of the first declaration of the signature whose values differ or which one map lacks.
abbrev pub differ : HeadMap → HeadMap → Signature → Option ℕ
differ first second names = differ_from zero first second names
