-- Laws of coherence (this profile).
use Rattle.std.specs.Prelude.{◌≡◌, ℕ, true, List, length, Some}
use Rattle.name_meaning.specs.Names.{Name, is_among}
use Rattle.edit_log_meaning.specs.Log.{Library, is_present}
use Rattle.library_meaning.specs.Faces.{TheoryFace, ViewFace, IsView, Environment, flat_signature, flat_of}
use Rattle.library_meaning.specs.Coherence.{IsCoherent}
use Rattle.text_meaning.specs.Dependencies.{dependencies}
use Rattle.verdict_meaning.specs.Verdicts.{Theory, Accepted}
use Rattle.verdict_meaning.specs.Rounds.{known_of, others_reached, verdicts, verdict_of, told_by, known_to}
use Rattle.module_graph_meaning.specs.Walks.{is_grounded}
use Rattle.module_graph_meaning.specs.Reach.{reach}

-- The faces of all accepted modules of a library are coherent.
abbrev pub FacesAreCoherent : Type 0
FacesAreCoherent = (library : Library) → IsCoherent (told_by library)

-- So is all that a grounded module knows of others.
abbrev pub GroundedKnowCoherent : Type 0
GroundedKnowCoherent = (library : Library) (name : Name) → is_grounded dependencies library name ≡ true → IsCoherent (known_to library name)

-- With each of these names they have every present name of its reach.
abbrev pub AreClosed : Library → List Name → Type 0
AreClosed library names =
    (name other : Name) → is_among names name ≡ true → is_among (reach dependencies library name) other ≡ true
    → is_present library other ≡ true → is_among names other ≡ true

-- So is what the verdicts of a library tell of such names, where of all others nothing is known.
abbrev pub ClosedAreCoherent : Type 0
ClosedAreCoherent = (library : Library) (names : List Name) → AreClosed library names → IsCoherent (known_of names (verdicts library))

-- The size that an accepted theory shows is the length of its flat signature, over all that the verdicts tell.
abbrev pub SizesAreLengths : Type 0
SizesAreLengths =
    (library : Library) (name : Name) (face : TheoryFace) (size : ℕ) → verdict_of library name ≡ Some (Accepted (Theory face size))
    → size ≡ length (flat_signature (told_by library) face)

-- So it is over what a grounded module knows of others.
abbrev pub GroundedKnowSizes : Type 0
GroundedKnowSizes =
    (library : Library) (name other : Name) (face : TheoryFace) (size : ℕ) → is_grounded dependencies library name ≡ true
    → is_among (others_reached library name) other ≡ true → verdict_of library other ≡ Some (Accepted (Theory face size))
    → size ≡ length (flat_signature (known_to library name) face)

-- So it is over what the verdicts tell of such names.
abbrev pub ClosedHaveSizes : Type 0
ClosedHaveSizes =
    (library : Library) (names : List Name) (name : Name) (face : TheoryFace) (size : ℕ) → AreClosed library names → is_among names name ≡ true
    → verdict_of library name ≡ Some (Accepted (Theory face size)) → size ≡ length (flat_signature (known_of names (verdicts library)) face)

-- The map of a view is as long as the flat signature of its domain, where all that is known is coherent.
abbrev pub MapsHaveLengths : Type 0
MapsHaveLengths = (environment : Environment) (name : Name) (face : ViewFace) → IsCoherent environment → environment name ≡ IsView face → length face.map ≡ length (flat_of environment face.domain)
