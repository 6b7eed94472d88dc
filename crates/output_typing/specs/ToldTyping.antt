-- What is promised of the modules that are told of: accepted theories flatten to well-typed signatures, and accepted views and the
-- structures of accepted theories carry typing (this profile).
use Rattle.std.specs.Prelude.{◌≡◌, ℕ, List, slice_get, take, Some}
use Rattle.name_meaning.specs.Names.{Name}
use Rattle.edit_log_meaning.specs.Log.{Library, Log, library_of}
use Rattle.library_meaning.specs.Faces.{IsTheory, IsView, TheoryFace, ViewFace}
use Rattle.verdict_meaning.specs.Rounds.{told_by}
use Rattle.run_meaning.specs.Parts.{Telling}
use Rattle.face_typing.specs.CarryingMaps.{FlattensTyped, ViewCarriesTyping}

-- Where the library accepts the name as a theory, it flattens to a well-typed signature, and the map of each of its structures is typed
-- and carries every typing judgement of the structure's domain to one of the theory; where it accepts it as a view, the map is typed and
-- carries every typing judgement of the view's domain to one of its codomain.
pub record KeepsTyping (library : Library) (name : Name) : Type 0 where
  pub theory : (face : TheoryFace) → told_by library name ≡ IsTheory face → FlattensTyped (told_by library) face
  pub view : (face : ViewFace) → told_by library name ≡ IsView face → ViewCarriesTyping (told_by library) face

-- So it is with every module that is told of, in the library of the version at which it is.
abbrev pub AreTyped : Log → List Telling → Type 0
AreTyped log tellings =
    (place : ℕ) (telling : Telling) → slice_get tellings place ≡ Some telling → KeepsTyping (library_of (take telling.version log)) telling.name

-- It is so for every log, and whatever is told of it.
abbrev pub AllAreTyped : Type 0
AllAreTyped = (log : Log) (tellings : List Telling) → AreTyped log tellings
