-- How a module stands after a history (this profile).
use Rattle.std.specs.Prelude.{◌≡◌, ℕ, suc, [], ◌∷◌, ◌++◌, Bool, true, false, List, map, Option, Some, None, if◌then◌else◌}
use Rattle.name_meaning.specs.Names.{Name, is_among, is_ascending}
use Rattle.name_meaning.specs.Rows.{Rows, row_names, row_of}
use Rattle.edit_log_meaning.specs.Log.{Edit, names_of}
use Rattle.module_graph_meaning.specs.Walks.{Dependencies, is_grounded, is_ungrounded}
use Rattle.module_graph_meaning.specs.Reach.{reach}
use Rattle.module_graph_meaning.specs.Subject.{Subject}
use Rattle.board_meaning.specs.Events.{EditMade, History, library_after, version_after}
use Rattle.verdict_board.specs.Entries.{entry}
use Rattle.board_meaning.specs.Claims.{claim_at, is_open}
use Rattle.board_meaning.specs.Standing.{is_unedited, stands}
use Rattle.verdict_board.specs.declared.stage.Stage.{Stage}
use Rattle.verdict_board.specs.declared.stage.Stage.TheVariants.{Waiting, Claimed, Standing, Cyclic}

-- The answer, if it may be told.
abbrev pub answer_in : {Answer : Type 0} → Stage Answer → Option Answer
answer_in Waiting = None
answer_in (Claimed claim inputs) = None
answer_in (Standing answer inputs) = Some answer
answer_in (Cyclic answer) = Some answer

-- It waits for a claim.
abbrev pub is_waiting : {Answer : Type 0} → Stage Answer → Bool
is_waiting Waiting = true
is_waiting (Claimed claim inputs) = false
is_waiting (Standing answer inputs) = false
is_waiting (Cyclic answer) = false

-- The current claim, if there is one.
abbrev pub claim_in : {Answer : Type 0} → Stage Answer → Option ℕ
claim_in Waiting = None
claim_in (Claimed claim inputs) = Some claim
claim_in (Standing answer inputs) = None
claim_in (Cyclic answer) = None

-- The names of the inputs of the standing verdict, if there is one.
abbrev pub standing_in : {Answer : Type 0} → Stage Answer → Option (List Name)
standing_in Waiting = None
standing_in (Claimed claim inputs) = None
standing_in (Standing answer inputs) = Some inputs
standing_in (Cyclic answer) = None

-- How a module stands after an edit of this name, if it is grounded then.
abbrev pub stage_after : {Answer : Type 0} → Name → Stage Answer → Stage Answer
stage_after name Waiting = Waiting
stage_after name (Claimed claim inputs) = if is_among inputs name then Waiting else Claimed claim inputs
stage_after name (Standing answer inputs) = if is_among inputs name then Waiting else Standing answer inputs
stage_after name (Cyclic answer) = Waiting

-- The inputs stand in byte order.
abbrev pub HasSortedInputs : {Answer : Type 0} → Stage Answer → Type 0
HasSortedInputs Waiting = Unit {0}
HasSortedInputs (Claimed claim inputs) = is_ascending inputs ≡ true
HasSortedInputs (Standing answer inputs) = is_ascending inputs ≡ true
HasSortedInputs (Cyclic answer) = Unit {0}

-- The inputs of each stage stand in byte order.
abbrev pub HaveSortedInputs : {Answer : Type 0} → Rows (Stage Answer) → Type 0
HaveSortedInputs {Answer} rows = (name : Name) (stage : Stage Answer) → row_of rows name ≡ Some stage → HasSortedInputs stage

-- The stage of a module does not stay after an edit of this name, if the module is grounded then.
abbrev pub falls : {Answer : Type 0} → Name → Stage Answer → Bool
falls name Waiting = false
falls name (Claimed claim inputs) = is_among inputs name
falls name (Standing answer inputs) = is_among inputs name
falls name (Cyclic answer) = true

-- The stages after an edit of this name, if all modules are grounded then.
abbrev pub fallen : {Answer : Type 0} → Name → Rows (Stage Answer) → Rows (Stage Answer)
fallen {Answer} name rows = map (λ (row : Name × Stage Answer). (row.0, stage_after name row.1)) rows

-- The history with this edit made after it.
abbrev pub after_edit_of : History → Edit → History
after_edit_of history edit = history ++ entry 0 (suc (version_after history)) (EditMade edit) ∷ []

-- An open claim of the name, none of whose inputs was edited after it.
pub record IsCurrent (dependencies : Dependencies) (history : History) (name : Name) (claim : ℕ) : Type 0 where
  pub claimed : claim_at history claim ≡ Some name
  pub opened : is_open history claim ≡ true
  pub unedited : is_unedited dependencies history claim ≡ true

pub record IsWaiting (dependencies : Dependencies) (history : History) (name : Name) : Type 0 where
  pub grounded : is_grounded dependencies (library_after history) name ≡ true
  pub stands_not : stands dependencies history name ≡ false
  pub claimed_not : (claim : ℕ) → IsCurrent dependencies history name claim → ⊥

pub record IsClaimed (dependencies : Dependencies) (history : History) (name : Name) (claim : ℕ) (inputs : List Name) : Type 0 where
  pub current : IsCurrent dependencies history name claim
  pub reached : inputs ≡ reach dependencies (library_after history) name

module _ {Answer Meaning : Type 0} (subject : Subject Meaning) (meaning : Answer → Meaning) (history : History) where
  pub record IsStanding (name : Name) (answer : Answer) (inputs : List Name) : Type 0 where
    pub standing : stands subject.dependencies history name ≡ true
    pub answers : subject.answer (library_after history) name ≡ Some (meaning answer)
    pub reached : inputs ≡ reach subject.dependencies (library_after history) name

  pub record IsRing (name : Name) (answer : Answer) : Type 0 where
    pub ungrounded : is_ungrounded subject.dependencies (library_after history) name ≡ true
    pub answers : subject.answer (library_after history) name ≡ Some (meaning answer)

  -- The module stands so.
  abbrev pub IsStage : Name → Stage Answer → Type 0
  IsStage name Waiting = IsWaiting subject.dependencies history name
  IsStage name (Claimed claim inputs) = IsClaimed subject.dependencies history name claim inputs
  IsStage name (Standing answer inputs) = IsStanding name answer inputs
  IsStage name (Cyclic answer) = IsRing name answer

  -- Each module of the library stands so.
  pub record AreStages (stages : Rows (Stage Answer)) : Type 0 where
    pub names : row_names stages ≡ names_of (library_after history)
    pub staged : (name : Name) (stage : Stage Answer) → row_of stages name ≡ Some stage → IsStage name stage
