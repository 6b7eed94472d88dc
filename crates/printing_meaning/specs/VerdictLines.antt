-- The lines of verdicts (this profile).
use Rattle.std.specs.Prelude.{ℕ, List, ◌++◌, length, codes}
use Rattle.std.specs.Fmt.{decimal}
use Rattle.printing_meaning.specs.Printed.{end_of_line, named_at}
use Rattle.text_meaning.specs.Places.{line_at, column_at}
use Rattle.name_meaning.specs.Names.{Name, Path}
use Rattle.library_meaning.specs.Faces.{TheoryFace, ViewFace, Known, IsRefused, IsTheory, IsView, Environment, flat_signature, flat_of}
use Rattle.printing_meaning.specs.Constants.{path_text}

-- Where a text is refused, counted in bytes from 0; the word of the rule; and what it names.
pub record Refusal : Type 0 where
  pub at : ℕ
  pub rule : List ℕ
  pub label : Path

-- What is judged of a present module: it is refused, or accepted with its face.
pub data Judged : Type 0 where
  Refused : Refusal → Judged
  AcceptedTheory : TheoryFace → Judged
  AcceptedView : ViewFace → Judged

-- What is known of a module that was judged so.
abbrev pub known_by : Judged → Known
known_by (Refused refusal) = IsRefused
known_by (AcceptedTheory face) = IsTheory face
known_by (AcceptedView face) = IsView face

-- `L:C`, counted in the text from 1.
abbrev pub place_text : List ℕ → ℕ → List ℕ
place_text text at = decimal (line_at text at) ++ codes ":" ++ decimal (column_at text at)

-- `N @V refused PLACE RULE LABEL`.
abbrev pub refused_line : Name → ℕ → List ℕ → Refusal → List ℕ
refused_line name version place refusal =
    named_at name version ++ codes " refused " ++ place ++ codes " " ++ refusal.rule ++ codes " " ++ path_text refusal.label ++ end_of_line

-- `N @V accepted theory K`, K being the number of declarations of the flat signature, included and defined ones
-- counted.
abbrev pub theory_line : Environment → Name → ℕ → TheoryFace → List ℕ
theory_line environment name version face =
    named_at name version ++ codes " accepted theory " ++ decimal (length (flat_signature environment face)) ++ end_of_line

-- `N @V accepted view K`, K being the number of constants of the domain's flat signature.
abbrev pub view_line : Environment → Name → ℕ → ViewFace → List ℕ
view_line environment name version face =
    named_at name version ++ codes " accepted view " ++ decimal (length (flat_of environment face.domain)) ++ end_of_line

-- The line of a present module; the place of a refusal is printed by a function of where it is.
abbrev pub judged_line : Environment → Name → ℕ → (ℕ → List ℕ) → Judged → List ℕ
judged_line environment name version place (Refused refusal) = refused_line name version (place refusal.at) refusal
judged_line environment name version place (AcceptedTheory face) = theory_line environment name version face
judged_line environment name version place (AcceptedView face) = view_line environment name version face
