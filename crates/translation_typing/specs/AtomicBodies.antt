-- Values that are families have atomic ones below their binders (this profile).
use Rattle.std.specs.Prelude.{◌≡◌, ⊤, Some}
use Rattle.lf_meaning.specs.Terms.{Constant}
use Rattle.lf_meaning.specs.Signatures.{Value, SameAs, TermValue, FamilyValue}
use Rattle.translation_meaning.specs.AtomicFamilies.{IsAtomicFamily}
use Rattle.lf_meaning.specs.HeadMaps.{Image, HeadMap, image_of}

-- If the value is a family, it is atomic below its binders.
abbrev pub HasAtomicBody : Value → Type 0
HasAtomicBody (SameAs constant) = ⊤
HasAtomicBody (TermValue object) = ⊤
HasAtomicBody (FamilyValue binders body) = IsAtomicFamily body

-- So is each family that is the value of an image.
abbrev pub BodiesAreAtomic : HeadMap → Type 0
BodiesAreAtomic along = (constant : Constant) (image : Image) → image_of along constant ≡ Some image → HasAtomicBody image.value
