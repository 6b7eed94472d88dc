-- Lines and flat texts of accepted modules, over what is known of some names (this profile).
use Rattle.std.specs.Prelude.{◌≡◌, ℕ, List}
use Rattle.name_meaning.specs.Names.{Name, Text}
use Rattle.edit_log_meaning.specs.Log.{Library}
use Rattle.library_meaning.specs.Faces.{TheoryFace, ViewFace, Environment, IsTheory, IsView}
use Rattle.verdict_meaning.specs.Rounds.{known_of, verdicts, told_by}
use Rattle.printing_meaning.specs.VerdictLines.{theory_line, view_line}
use Rattle.printing_meaning.specs.PrintedTables.{seen_from, theory_text, view_text}
use Rattle.judged_meaning.specs.Carrying.{carry}
use Rattle.carried_typing.specs.CarriedTyping.{HaveReachOf}

-- The theory is known in both environments, and printed alike over them.
pub record TheoryPrintsAlike (first second : Environment) (name : Name) (face : TheoryFace) : Type 0 where
  pub known : first name ≡ IsTheory face
  pub line : (version : ℕ) → theory_line first name version face ≡ theory_line second name version face
  pub text : (version : ℕ) → theory_text first name version face ≡ theory_text second name version face

-- So it is with a view, whose images are seen alike.
pub record ViewPrintsAlike (first second : Environment) (name : Name) (face : ViewFace) : Type 0 where
  pub known : first name ≡ IsView face
  pub line : (version : ℕ) → view_line first name version face ≡ view_line second name version face
  pub text : (version : ℕ) → view_text first name version face ≡ view_text second name version face
  pub seen : seen_from first face.codomain ≡ seen_from second face.codomain

-- Where the verdicts of a library are known of names that have every present name of the reach of this one, whatever other
-- names are among them, an accepted theory is printed as over all that the verdicts tell.
abbrev pub FacesPrintTheories : Type 0
FacesPrintTheories =
    (library : Library) (names : List Name) (name : Name) (face : TheoryFace) → HaveReachOf library names name → told_by library name ≡ IsTheory face
    → TheoryPrintsAlike (known_of names (verdicts library)) (told_by library) name face

-- So is an accepted view.
abbrev pub FacesPrintViews : Type 0
FacesPrintViews =
    (library : Library) (names : List Name) (name : Name) (face : ViewFace) → HaveReachOf library names name → told_by library name ≡ IsView face
    → ViewPrintsAlike (known_of names (verdicts library)) (told_by library) name face

-- What carrying a text along a name comes to over such names is what it comes to over all that the verdicts tell, faults included.
abbrev pub FacesCarryTheSame : Type 0
FacesCarryTheSame =
    (library : Library) (names : List Name) (name : Name) (text : Text) → HaveReachOf library names name
    → carry (known_of names (verdicts library)) name text ≡ carry (told_by library) name text
