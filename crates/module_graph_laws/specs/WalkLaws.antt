-- Laws of walks and of the reach (this profile).
use Rattle.std.specs.Prelude.{◌≡◌, ℕ, true, List, length, Decides}
use Rattle.name_meaning.specs.Names.{Name, is_among, is_ascending}
use Rattle.edit_log_meaning.specs.Log.{Library, is_present}
use Rattle.module_graph_meaning.specs.Walks.{Dependencies, direct, IsWalk, Ungrounded, walking, is_ungrounded, is_grounded}
use Rattle.module_graph_meaning.specs.Reach.{IsReached, reach, AgreesOn}

-- A walk from this name has so many names behind its first.
abbrev pub WalksOn : Dependencies → Library → Name → ℕ → Type 0
WalksOn dependencies library name more = (rest : List Name) × IsWalk dependencies library name rest × (length rest ≡ more)

-- The list of names that walk on has those at which such a walk begins, and no others.
abbrev pub WalkingListsWalks : Type 0
WalkingListsWalks =
    (dependencies : Dependencies) (library : Library) (more : ℕ) (name : Name)
    → Decides (is_among (walking dependencies library more) name) (WalksOn dependencies library name more)

-- The test of ungrounded names decides whether a walk with more names than the library begins.
abbrev pub UngroundedIsDecided : Type 0
UngroundedIsDecided =
    (dependencies : Dependencies) (library : Library) (name : Name)
    → Decides (is_ungrounded dependencies library name) (Ungrounded dependencies library name)

-- Walks of every length begin at an ungrounded name.
abbrev pub UngroundedWalksOn : Type 0
UngroundedWalksOn =
    (dependencies : Dependencies) (library : Library) (name : Name) → is_ungrounded dependencies library name ≡ true
    → (more : ℕ) → WalksOn dependencies library name more

-- The present dependencies of a grounded name are grounded.
abbrev pub GroundedRestsOnGrounded : Type 0
GroundedRestsOnGrounded =
    (dependencies : Dependencies) (library : Library) (name other : Name) → is_grounded dependencies library name ≡ true
    → is_among (direct dependencies library name) other ≡ true → is_present library other ≡ true
    → is_grounded dependencies library other ≡ true

-- An ungrounded name has an ungrounded dependency.
abbrev pub UngroundedRestsOnUngrounded : Type 0
UngroundedRestsOnUngrounded =
    (dependencies : Dependencies) (library : Library) (name : Name) → is_ungrounded dependencies library name ≡ true
    → (other : Name) × (is_among (direct dependencies library name) other ≡ true) × (is_ungrounded dependencies library other ≡ true)

-- The list of the reach has the names that are reached, and no others.
abbrev pub ReachIsReached : Type 0
ReachIsReached =
    (dependencies : Dependencies) (library : Library) (name other : Name)
    → Decides (is_among (reach dependencies library name) other) (IsReached dependencies library name other)

-- The reach stands in byte order, each name once.
abbrev pub ReachIsAscending : Type 0
ReachIsAscending =
    (dependencies : Dependencies) (library : Library) (name : Name) → is_ascending (reach dependencies library name) ≡ true

-- Where two libraries agree on the reach of a name, it has the same reach in both, and is grounded in both or in
-- neither.
abbrev pub ReachDecidesItself : Type 0
ReachDecidesItself =
    (dependencies : Dependencies) (library other : Library) (name : Name) → AgreesOn library other (reach dependencies library name)
    → reach dependencies other name ≡ reach dependencies library name

abbrev pub ReachDecidesGrounds : Type 0
ReachDecidesGrounds =
    (dependencies : Dependencies) (library other : Library) (name : Name) → AgreesOn library other (reach dependencies library name)
    → is_grounded dependencies other name ≡ is_grounded dependencies library name
