-- What makes a module refused (this profile).
use Rattle.std.specs.Prelude.{◌≡◌, ◌↔◌, ℕ, true, Some}
use Rattle.name_meaning.specs.Names.{Name}
use Rattle.edit_log_meaning.specs.Log.{Library, is_present}
use Rattle.library_meaning.specs.Faces.{TheoryFace, ViewFace, Environment}
use Rattle.link_meaning.specs.Refusals.{Refusal}
use Rattle.verdict_meaning.specs.Verdicts.{Refused}
use Rattle.verdict_meaning.specs.Rounds.{verdict_of, told_by, known_to}
use Rattle.acceptance_laws.specs.ViewLaws.{IsAcceptedView}
use Rattle.acceptance_laws.specs.TheoryLaws.{IsAcceptedTheory}

-- The name is present, and over what is known no face makes it an accepted theory or an accepted view.
pub record HasNoFace (library : Library) (environment : Environment) (name : Name) : Type 0 where
  pub present : is_present library name ≡ true
  pub theories : (face : TheoryFace) (size : ℕ) → IsAcceptedTheory library environment name face size → ⊥
  pub views : (face : ViewFace) → IsAcceptedView library environment name face → ⊥

-- A name is refused exactly where it is present and has no face, over what it knows of others.
abbrev pub RefusedModules : Type 0
RefusedModules =
    (library : Library) (name : Name) → ((refusal : Refusal) × (verdict_of library name ≡ Some (Refused refusal))) ↔ HasNoFace library (known_to library name) name

-- It is all one whether this is over what the module knows, or over all that the library's verdicts tell.
abbrev pub RefusedModulesTold : Type 0
RefusedModulesTold =
    (library : Library) (name : Name) → ((refusal : Refusal) × (verdict_of library name ≡ Some (Refused refusal))) ↔ HasNoFace library (told_by library) name
