-- Laws of standing verdicts, of ready names and of installs (this profile).
use Rattle.std.specs.Prelude.{◌≡◌, ◌≢◌, ℕ, suc, ◌<◌, ◌≤◌, true, false, [], ◌∷◌, ◌++◌, ◌&&◌, ◌||◌, not, take, slice_get, length, Some, None, is_some, Decides}
use Rattle.std.specs.List.{list_all}
use Rattle.name_meaning.specs.Names.{Name, comes_before, is_among}
use Rattle.edit_log_meaning.specs.Log.{Edit, edited_name, names_of, is_present}
use Rattle.module_graph_meaning.specs.Walks.{Dependencies, is_grounded}
use Rattle.module_graph_meaning.specs.Reach.{reach}
use Rattle.module_graph_meaning.specs.Subject.{Subject, AnswersPresent, KeepsToReach}
use Rattle.board_meaning.specs.Events.{EditMade, Install, Entry, History, edit_in, library_after, version_after, stamp_after}
use Rattle.board_meaning.specs.Claims.{claim_at, open_claims, Input, inputs_of, input_names, is_unchanged, is_claim_of}
use Rattle.board_meaning.specs.Standing.{installed_claim, is_unedited, stands, Stands, standing_names, standing_count}
use Rattle.board_meaning.specs.Ready.{is_closed, is_ready, least_ready}
use Rattle.board_meaning.specs.Machine.{IsInstalled, IsStale, install_reply, claim_reply, IsVerdict, IsPending, IsAbsent, is_known, report_reply}
use Rattle.board_meaning.specs.Legal.{MayFollow, IsLegal}

-- The test of standing verdicts decides what it means.
abbrev pub StandingIsDecided : Type 0
StandingIsDecided =
    (dependencies : Dependencies) (history : History) (name : Name) → Decides (stands dependencies history name) (Stands dependencies history name)

-- A standing verdict, which is the answer at its claim, is the answer at the present library.
abbrev pub StandingIsPresentAnswer : Type 0 → Type 0
StandingIsPresentAnswer Answer =
    (subject : Subject Answer) → KeepsToReach subject
    → (history : History) (name : Name) → IsLegal subject.dependencies history → (standing : Stands subject.dependencies history name)
    → subject.answer (library_after (take standing.claim history)) name ≡ subject.answer (library_after history) name

-- The inputs of its claim are the reach that the name has now.
abbrev pub InputsArePresentReach : Type 0
InputsArePresentReach =
    (dependencies : Dependencies) (history : History) (name : Name) → IsLegal dependencies history → (standing : Stands dependencies history name)
    → input_names (inputs_of dependencies history standing.claim) ≡ reach dependencies (library_after history) name

-- A name with a standing verdict is present and grounded.
abbrev pub StandingIsGrounded : Type 0
StandingIsGrounded =
    (dependencies : Dependencies) (history : History) (name : Name) → IsLegal dependencies history
    → stands dependencies history name ≡ true → is_grounded dependencies (library_after history) name ≡ true

-- Where a name has a standing verdict, so has each present name of its reach.
abbrev pub StandingRestsOnStanding : Type 0
StandingRestsOnStanding =
    (dependencies : Dependencies) (history : History) (name other : Name) → IsLegal dependencies history
    → stands dependencies history name ≡ true → is_among (reach dependencies (library_after history) name) other ≡ true
    → is_present (library_after history) other ≡ true → stands dependencies history other ≡ true

-- Where a name is ready, each other present name of its reach has a standing verdict.
abbrev pub ReadyRestsOnStanding : Type 0
ReadyRestsOnStanding =
    (dependencies : Dependencies) (history : History) (name other : Name) → IsLegal dependencies history
    → is_ready dependencies history name ≡ true → is_among (reach dependencies (library_after history) name) other ≡ true
    → other ≢ name → is_present (library_after history) other ≡ true → stands dependencies history other ≡ true

-- An edit leaves exactly the verdicts that stood and whose inputs, which are the reach, lack the edited name.
abbrev pub EditLeavesStanding : Type 0
EditLeavesStanding =
    (dependencies : Dependencies) (history : History) (entry : Entry) (edit : Edit) (name : Name) → IsLegal dependencies history → entry.event ≡ EditMade edit
    → stands dependencies (history ++ entry ∷ []) name ≡ (stands dependencies history name && not (is_among (reach dependencies (library_after history) name) (edited_name edit)))

-- An install makes the verdict of its claim's name stand, and leaves the others.
abbrev pub InstallMakesStanding : Type 0
InstallMakesStanding =
    (dependencies : Dependencies) (history : History) (entry : Entry) (claim : ℕ) (name : Name) → IsLegal dependencies history
    → MayFollow dependencies history entry → entry.event ≡ Install claim
    → stands dependencies (history ++ entry ∷ []) name ≡ (stands dependencies history name || is_claim_of history name claim)

-- A verdict is installed for a name that had none, so each install raises the number of standing verdicts.
abbrev pub InstallIsOfWaiting : Type 0
InstallIsOfWaiting =
    (dependencies : Dependencies) (history : History) (entry : Entry) (claim : ℕ) (name : Name) → IsLegal dependencies history
    → MayFollow dependencies history entry → entry.event ≡ Install claim → is_claim_of history name claim ≡ true
    → stands dependencies history name ≡ false

-- Other entries leave the standing verdicts as they are.
abbrev pub OthersLeaveStanding : Type 0
OthersLeaveStanding =
    (dependencies : Dependencies) (history : History) (entry : Entry) (name : Name) → IsLegal dependencies history
    → edit_in entry ≡ None → installed_claim entry.event ≡ None
    → stands dependencies (history ++ entry ∷ []) name ≡ stands dependencies history name

-- Where the board is not closed, a grounded present name does not stand and no claim is open, some name is ready.
abbrev pub SomeNameIsReady : Type 0
SomeNameIsReady =
    (dependencies : Dependencies) (history : History) (name : Name) → is_closed history ≡ false
    → is_grounded dependencies (library_after history) name ≡ true → stands dependencies history name ≡ false
    → open_claims history ≡ [] → is_some (least_ready dependencies history) ≡ true

-- A claim is of the least name that is ready before it.
abbrev pub ClaimsAreOfLeastReady : Type 0
ClaimsAreOfLeastReady =
    (dependencies : Dependencies) (history : History) (place : ℕ) (name : Name) → IsLegal dependencies history
    → claim_at history place ≡ Some name → least_ready dependencies (take place history) ≡ Some name

-- The least ready name is ready, and present names before it in byte order are not.
abbrev pub LeastIsReady : Type 0
LeastIsReady =
    (dependencies : Dependencies) (history : History) (name : Name) → least_ready dependencies history ≡ Some name
    → (is_ready dependencies history name ≡ true)
    × ((other : Name) → comes_before other name ≡ true → is_ready dependencies history other ≡ false)

-- This input, at this place, is the first of the claim whose stamp has changed. The present stamp is greater than the
-- one that was used.
pub record IsFirstChanged (dependencies : Dependencies) (history : History) (claim : ℕ) (name : Name) (newer : ℕ) : Type 0 where
  pub place : ℕ
  pub input : Input
  pub stands_there : slice_get (inputs_of dependencies history claim) place ≡ Some input
  pub named : input.name ≡ name
  pub present : newer ≡ stamp_after history name
  pub greater : input.stamp < newer
  pub first : list_all (is_unchanged history) (take place (inputs_of dependencies history claim)) ≡ true

-- A stale install tells the first input that has changed, with its present stamp.
abbrev pub StaleTellsFirstChanged : Type 0
StaleTellsFirstChanged =
    (dependencies : Dependencies) (history : History) (claim : ℕ) (name : Name) (newer : ℕ)
    → install_reply dependencies history claim ≡ IsStale name newer → IsFirstChanged dependencies history claim name newer

-- A verdict is installed exactly where no input of its claim was edited after it. Then every stamp is the one of
-- the claim.
abbrev pub InstalledIsUnedited : Type 0
InstalledIsUnedited =
    (dependencies : Dependencies) (history : History) (claim : ℕ)
    → Decides (is_unedited dependencies history claim) (install_reply dependencies history claim ≡ IsInstalled)

abbrev pub InstalledIsUnchanged : Type 0
InstalledIsUnchanged =
    (dependencies : Dependencies) (history : History) (claim : ℕ)
    → Decides (list_all (is_unchanged history) (inputs_of dependencies history claim)) (install_reply dependencies history claim ≡ IsInstalled)

-- A report that tells this verdict at this version: the name is present, its answer may be told, it is the answer at
-- the present library, and the version is the present one.
pub record IsToldVerdict {Answer : Type 0} (subject : Subject Answer) (history : History) (name : Name) (answer : Answer) (version : ℕ) : Type 0 where
  pub present : is_present (library_after history) name ≡ true
  pub known : is_known subject.dependencies history name ≡ true
  pub told : subject.answer (library_after history) name ≡ Some answer
  pub now : version ≡ version_after history

-- A report tells no other verdict, and where there is one to tell it tells it.
abbrev pub ReportTellsAnswer : Type 0 → Type 0
ReportTellsAnswer Answer =
    (subject : Subject Answer) (history : History) (name : Name) (answer : Answer) (version : ℕ)
    → (report_reply subject history name ≡ IsVerdict answer version → IsToldVerdict subject history name answer version)
    × (IsToldVerdict subject history name answer version → report_reply subject history name ≡ IsVerdict answer version)

-- A claim gives a job exactly where some name is ready.
abbrev pub ClaimGivesJob : Type 0 → Type 0
ClaimGivesJob Answer =
    (subject : Subject Answer) (history : History) → is_some (claim_reply subject history) ≡ is_some (least_ready subject.dependencies history)

-- A report tells that a name is absent exactly where it is; and of a subject that answers of the present names that a
-- verdict is to come exactly where it is so.
abbrev pub ReportTellsOthers : Type 0 → Type 0
ReportTellsOthers Answer =
    (subject : Subject Answer) (history : History) (name : Name)
    → Decides (not (is_present (library_after history) name)) (report_reply subject history name ≡ IsAbsent (version_after history))
    × (AnswersPresent subject
    → Decides (is_present (library_after history) name && not (is_known subject.dependencies history name)) (report_reply subject history name ≡ IsPending (version_after history)))

-- The list of standing names has those with a standing verdict, and no others.
abbrev pub StandingNamesStand : Type 0
StandingNamesStand =
    (dependencies : Dependencies) (history : History) (name : Name) → IsLegal dependencies history
    → is_among (standing_names dependencies history) name ≡ stands dependencies history name

-- An install raises the number of standing verdicts by one.
abbrev pub InstallRaisesCount : Type 0
InstallRaisesCount =
    (dependencies : Dependencies) (history : History) (entry : Entry) (claim : ℕ) → IsLegal dependencies history
    → MayFollow dependencies history entry → entry.event ≡ Install claim
    → standing_count dependencies (history ++ entry ∷ []) ≡ suc (standing_count dependencies history)

-- An entry that is neither an edit nor an install leaves it.
abbrev pub OthersKeepCount : Type 0
OthersKeepCount =
    (dependencies : Dependencies) (history : History) (entry : Entry) → IsLegal dependencies history
    → edit_in entry ≡ None → installed_claim entry.event ≡ None
    → standing_count dependencies (history ++ entry ∷ []) ≡ standing_count dependencies history

-- No more verdicts stand than the library has names.
abbrev pub CountIsWithinNames : Type 0
CountIsWithinNames =
    (dependencies : Dependencies) (history : History)
    → standing_count dependencies history ≤ length (names_of (library_after history))
