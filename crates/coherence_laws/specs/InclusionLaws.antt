-- Laws of the inclusion closure over a library (this profile). They speak of accepted theories: no other module shows a
-- closure, and a theory that includes what is absent, refused or a view is not accepted.
use Rattle.std.specs.Prelude.{◌≡◌, ◌↔◌, true, IsSome}
use Rattle.name_meaning.specs.Names.{Name}
use Rattle.edit_log_meaning.specs.Log.{Library}
use Rattle.library_meaning.specs.Faces.{TheoryFace, IsTheory, theory_of}
use Rattle.library_meaning.specs.Closure.{sees, closure_of}
use Rattle.library_meaning.specs.Coherence.{IsClosure}
use Rattle.verdict_meaning.specs.Inclusions.{inclusions_in, ReachesByInclusions}
use Rattle.verdict_meaning.specs.Rounds.{told_by}

-- What an accepted theory shows as its closure is the closure of the inclusions of its text, in their order, over what
-- the library's verdicts tell.
abbrev pub ClosureIsOfText : Type 0
ClosureIsOfText =
    (library : Library) (name : Name) (face : TheoryFace) → told_by library name ≡ IsTheory face
    → face.includes ≡ closure_of (told_by library) (inclusions_in library name)

-- It lists each theory once, and behind what that theory includes.
abbrev pub AcceptedHasClosure : Type 0
AcceptedHasClosure =
    (library : Library) (name : Name) (face : TheoryFace) → told_by library name ≡ IsTheory face → IsClosure (told_by library) face.includes

-- It has exactly the theories that the accepted theory reaches by inclusions alone.
abbrev pub ClosureIsReached : Type 0
ClosureIsReached =
    (library : Library) (name : Name) (face : TheoryFace) (other : Name) → told_by library name ≡ IsTheory face
    → (sees face.includes other ≡ true) ↔ ReachesByInclusions library name other

-- All these are accepted theories.
abbrev pub ReachedAreAccepted : Type 0
ReachedAreAccepted =
    (library : Library) (name : Name) (face : TheoryFace) (other : Name) → told_by library name ≡ IsTheory face
    → ReachesByInclusions library name other → IsSome (theory_of (told_by library) other)

-- No accepted theory reaches itself so.
abbrev pub AcceptedNotReachedByItself : Type 0
AcceptedNotReachedByItself =
    (library : Library) (name : Name) (face : TheoryFace) → told_by library name ≡ IsTheory face → ReachesByInclusions library name name → ⊥
