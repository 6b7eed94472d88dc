-- Values in the form in which they are kept: what can be said by naming a constant is said so, and a family value is atomic
-- below its binders (this profile).
use Rattle.std.specs.Prelude.{◌≡◌, ℕ, ◌<◌, Some, ⊤}
use Rattle.eta_meaning.specs.Below.Terms.{Constant, Object, Lam, At, Var, Con, App, Family, Pi, AtFamily, FamilyCon, FamilyApp}
use Rattle.eta_meaning.specs.Below.Signatures.{Value, SameAs, TermValue, FamilyValue}
use Rattle.eta_meaning.specs.Below.HeadMaps.{Image, HeadMap, image_of}

-- The object is no constant without arguments; as a value such a one is the same as the constant.
abbrev pub IsNoConstant : Object → Type 0
IsNoConstant (Lam body) = ⊤
IsNoConstant (At (Var index)) = ⊤
IsNoConstant (At (Con constant)) = ⊥
IsNoConstant (At (App r argument)) = ⊤

-- The body of a family value is atomic and, where there is no binder, no constant without arguments.
abbrev pub IsValueBody : ℕ → Family → Type 0
IsValueBody binders (Pi domain body) = ⊥
IsValueBody binders (AtFamily (FamilyCon constant)) = 0 < binders
IsValueBody binders (AtFamily (FamilyApp p argument)) = ⊤

abbrev pub IsProperValue : Value → Type 0
IsProperValue (SameAs constant) = ⊤
IsProperValue (TermValue object) = IsNoConstant object
IsProperValue (FamilyValue binders body) = IsValueBody binders body

-- The values of all images are such.
abbrev pub ValuesAreProper : HeadMap → Type 0
ValuesAreProper along = (constant : Constant) (image : Image) → image_of along constant ≡ Some image → IsProperValue image.value
