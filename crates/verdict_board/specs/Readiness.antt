-- Which modules are ready by the tables of stages and of dependencies, and which of them may be (this profile). Modules are given by
-- their names, and by the places of these in the table of stages.
use Rattle.std.specs.Prelude.{◌≡◌, ◌⊎◌, ℕ, ◌<◌, Bool, true, false, not, List, length, slice_get, Option, Some, None, is_some}
use Rattle.name_meaning.specs.Names.{Name}
use Rattle.name_meaning.specs.Rows.{Rows, row_names, row_of, IsTable}
use Rattle.module_graph_meaning.specs.Graphs.{Graph}
use Rattle.list_laws.proofs.Members.{Member}
use Rattle.verdict_board.specs.declared.stage.Stage.{Stage}
use Rattle.verdict_board.specs.Stages.{is_waiting, standing_in}

-- A module that is present with this stage waits for a claim.
abbrev pub awaits_claim : {Answer : Type 0} → Option (Stage Answer) → Bool
awaits_claim None = false
awaits_claim (Some stage) = is_waiting stage

-- A module is present with this stage, and has no standing verdict.
abbrev pub lacks_verdict : {Answer : Type 0} → Option (Stage Answer) → Bool
lacks_verdict None = false
lacks_verdict (Some stage) = not (is_some (standing_in stage))

module _ {Answer : Type 0} (stages : Rows (Stage Answer)) where
  -- One of these names stands at this place, and has no standing verdict.
  pub record IsLacking (names : List Name) (place : ℕ) : Type 0 where
    pub name : Name
    pub named : slice_get (row_names stages) place ≡ Some name
    pub among : Member name names
    pub lacks : lacks_verdict (row_of stages name) ≡ true

  -- Each of these names is absent or has a standing verdict.
  abbrev pub NoneLacks : List Name → Type 0
  NoneLacks names = (name : Name) → Member name names → lacks_verdict (row_of stages name) ≡ false

  module _ (graph : Graph) where
    -- The module waits for a claim, and each of its present direct dependencies has a standing verdict.
    pub record IsReady (name : Name) : Type 0 where
      pub waits : awaits_claim (row_of stages name) ≡ true
      pub dependencies : List Name
      pub row : row_of graph name ≡ Some dependencies
      pub rests : NoneLacks dependencies

    -- This direct dependency of the module is present without a standing verdict.
    pub record IsBlocked (name other : Name) : Type 0 where
      pub dependencies : List Name
      pub row : row_of graph name ≡ Some dependencies
      pub depends : Member other dependencies
      pub lacks : lacks_verdict (row_of stages other) ≡ true

    -- The module does not wait for a claim, or is blocked.
    abbrev pub IsUnready : Name → Type 0
    IsUnready name = (awaits_claim (row_of stages name) ≡ false) ⊎ ((other : Name) × IsBlocked name other)

    -- The module at this place is ready.
    abbrev pub IsReadyAt : ℕ → Type 0
    IsReadyAt place = (name : Name) × (slice_get (row_names stages) place ≡ Some name) × IsReady name

    -- No module is ready at this place.
    abbrev pub IsUnreadyAt : ℕ → Type 0
    IsUnreadyAt place = (name : Name) → slice_get (row_names stages) place ≡ Some name → IsUnready name

    -- The module at this place is ready, and none before it is.
    pub record IsFirstReady (place : ℕ) : Type 0 where
      pub ready : IsReadyAt place
      pub before : (other : ℕ) → other < place → IsUnreadyAt other

    -- No module is ready.
    abbrev pub NoneIsReady : Type 0
    NoneIsReady = (place : ℕ) → IsUnreadyAt place

    -- The module at this place is blocked by one at which it is parked.
    pub record IsParked {W : Type 0} (items : W → List ℕ) (parked : List W) (place : ℕ) (name : Name) : Type 0 where
      pub other : Name
      pub blocked : IsBlocked name other
      pub at : ℕ
      pub named : slice_get (row_names stages) at ≡ Some other
      pub list : W
      pub lists : slice_get parked at ≡ Some list
      pub waits : Member place (items list)

    -- A module that is no candidate does not wait for a claim, or is parked.
    pub record AreCandidates {W : Type 0} (items : W → List ℕ) (candidate : List Bool) (parked : List W) : Type 0 where
      pub table : IsTable stages
      pub names : row_names stages ≡ row_names graph
      pub each_candidate : length candidate ≡ length stages
      pub each_parked : length parked ≡ length stages
      pub within : (at place : ℕ) (list : W) → slice_get parked at ≡ Some list → Member place (items list) → place < length stages
      pub closed : (place : ℕ) (name : Name) → slice_get (row_names stages) place ≡ Some name → slice_get candidate place ≡ Some false
          → (awaits_claim (row_of stages name) ≡ false) ⊎ IsParked items parked place name

-- So many modules, of which each is a candidate.
pub record AreAll {W : Type 0} (items : W → List ℕ) (count : ℕ) (candidate : List Bool) (parked : List W) : Type 0 where
  pub each_candidate : length candidate ≡ count
  pub each_parked : length parked ≡ count
  pub all : (place : ℕ) → slice_get candidate place ≡ Some false → ⊥
  pub none_parked : (at place : ℕ) (list : W) → slice_get parked at ≡ Some list → Member place (items list) → ⊥

-- A module that is no candidate now was none before, and is not at one of these places.
abbrev pub AreMarked : (before now : List Bool) (places : List ℕ) → Type 0
AreMarked before now places = (place : ℕ) → slice_get now place ≡ Some false → (slice_get before place ≡ Some false) × (Member place places → ⊥)
