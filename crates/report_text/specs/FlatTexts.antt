-- The flat text of what is known of a module, and the line of a constant's image (this profile).
use Rattle.std.specs.Prelude.{ℕ, List, [], ◌++◌, ⊤, codes}
use Rattle.printing_meaning.specs.Printed.{end_of_line}
use Rattle.name_meaning.specs.Names.{Name}
use Rattle.lf_meaning.specs.Terms.{Constant}
use Rattle.lf_meaning.specs.Signatures.{Value}
use Rattle.library_meaning.specs.Faces.{Known, IsAbsent, IsRefused, IsTheory, IsView, Environment}
use Rattle.printing_meaning.specs.Constants.{Seen, constant_text}
use Rattle.printing_meaning.specs.PrintedTerms.{value_text}
use Rattle.printing_meaning.specs.PrintedTables.{theory_text, view_text}

-- The module is accepted.
abbrev pub IsAccepted : Known → Type 0
IsAccepted IsAbsent = ⊥
IsAccepted IsRefused = ⊥
IsAccepted (IsTheory face) = ⊤
IsAccepted (IsView face) = ⊤

-- The flat text of an accepted module. One that is not accepted has none.
abbrev pub known_text : Environment → Name → ℕ → Known → List ℕ
known_text environment name version IsAbsent = []
known_text environment name version IsRefused = []
known_text environment name version (IsTheory face) = theory_text environment name version face
known_text environment name version (IsView face) = view_text environment name version face

-- `NAME := VALUE.`, the name seen from the domain and the value from the codomain.
abbrev pub image_line : Seen → Seen → Constant → Value → List ℕ
image_line domain codomain name value = constant_text domain name ++ codes " := " ++ value_text codomain value ++ codes "." ++ end_of_line
