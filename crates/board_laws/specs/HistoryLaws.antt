-- Laws of legal histories (this profile).
use Rattle.std.specs.Prelude.{◌≡◌, ℕ, suc, Bool, true, false, List, [], ◌∷◌, ◌++◌, take, slice_get, Option, Some, None}
use Rattle.edit_log_meaning.specs.Log.{Edit, Log}
use Rattle.name_meaning.specs.Names.{Name}
use Rattle.edit_log_meaning.specs.Append.{Made, append_answer, appended, IsWithinLimits}
use Rattle.module_graph_meaning.specs.Walks.{Dependencies}
use Rattle.board_meaning.specs.Events.{Install, Stale, Close, Entry, History, edit_in, log_of, version_after}
use Rattle.board_meaning.specs.Claims.{ends_claim, is_open}
use Rattle.board_meaning.specs.Ready.{is_closed}
use Rattle.board_meaning.specs.Machine.{IsInstalled, IsStale, install_reply, Call, EditCall, ClaimCall, InstallCall, ReleaseCall, CloseCall, is_by, may_call, after_call}
use Rattle.board_meaning.specs.Legal.{IsLegal, PassCall, after_calls, may_make_all}

-- The history without entries is legal.
abbrev pub EmptyIsLegal : Type 0
EmptyIsLegal = (dependencies : Dependencies) → IsLegal dependencies []

-- A call that its pass may make leaves a legal history legal.
abbrev pub CallsKeepLegal : Type 0
CallsKeepLegal =
    (dependencies : Dependencies) (history : History) (pass : ℕ) (call : Call) → IsLegal dependencies history
    → may_call history pass call ≡ true → IsLegal dependencies (after_call dependencies history pass call)

-- So do calls one after another.
abbrev pub RunsKeepLegal : Type 0
RunsKeepLegal =
    (dependencies : Dependencies) (history : History) (calls : List PassCall) → IsLegal dependencies history
    → may_make_all dependencies history calls ≡ true → IsLegal dependencies (after_calls dependencies history calls)

-- A beginning of a legal history is legal.
abbrev pub BeginningsAreLegal : Type 0
BeginningsAreLegal =
    (dependencies : Dependencies) (history later : History) → IsLegal dependencies (history ++ later) → IsLegal dependencies history

-- One more entry adds its edit to the log, or leaves the log as it is.
abbrev pub log_with : Log → Option Edit → Log
log_with log None = log
log_with log (Some edit) = log ++ edit ∷ []

abbrev pub EntriesDetermineLog : Type 0
EntriesDetermineLog = (history : History) (entry : Entry) → log_of (history ++ entry ∷ []) ≡ log_with (log_of history) (edit_in entry)

-- An edit in a legal history was one that the log took, and it was made by pass 0.
abbrev pub EditsWereMade : Type 0
EditsWereMade =
    (dependencies : Dependencies) (history : History) (place : ℕ) (entry : Entry) (edit : Edit) → IsLegal dependencies history
    → slice_get history place ≡ Some entry → edit_in entry ≡ Some edit
    → (append_answer (log_of (take place history)) edit ≡ Made (suc (version_after (take place history)))) × (entry.pass ≡ 0)

-- The version of an entry counts the edits up to and with itself.
abbrev pub VersionsCountEdits : Type 0
VersionsCountEdits =
    (dependencies : Dependencies) (history : History) (place : ℕ) (entry : Entry) → IsLegal dependencies history
    → slice_get history place ≡ Some entry → entry.version ≡ version_after (take (suc place) history)

-- The log of a legal history keeps to all limits.
abbrev pub LegalLogsAreWithinLimits : Type 0
LegalLogsAreWithinLimits = (dependencies : Dependencies) (history : History) → IsLegal dependencies history → IsWithinLimits (log_of history)

-- An edit call leaves the log that the log's own rules give, and any other call leaves the log as it was.
abbrev pub EditsAreAppended : Type 0
EditsAreAppended =
    (dependencies : Dependencies) (history : History) (pass : ℕ) (edit : Edit)
    → log_of (after_call dependencies history pass (EditCall edit)) ≡ appended (log_of history) edit

abbrev pub is_edit_call : Call → Bool
is_edit_call (EditCall edit) = true
is_edit_call ClaimCall = false
is_edit_call (InstallCall claim) = false
is_edit_call (ReleaseCall claim) = false
is_edit_call CloseCall = false

abbrev pub OthersLeaveLog : Type 0
OthersLeaveLog =
    (dependencies : Dependencies) (history : History) (pass : ℕ) (call : Call) → is_edit_call call ≡ false
    → log_of (after_call dependencies history pass call) ≡ log_of history

-- An install, a stale install or a release in a legal history is of a claim that was open, and made by the same pass.
abbrev pub EndsAreOfClaimants : Type 0
EndsAreOfClaimants =
    (dependencies : Dependencies) (history : History) (place claim : ℕ) (entry : Entry) → IsLegal dependencies history
    → slice_get history place ≡ Some entry → ends_claim claim entry.event ≡ true
    → (is_open (take place history) claim ≡ true) × (is_by entry.pass (slice_get history claim) ≡ true)

-- A stale install in a legal history tells what the machine replied to it, and an install was replied to as installed.
abbrev pub StaleEntriesTellReply : Type 0
StaleEntriesTellReply =
    (dependencies : Dependencies) (history : History) (place claim : ℕ) (name : Name) (newer : ℕ) (entry : Entry) → IsLegal dependencies history
    → slice_get history place ≡ Some entry → entry.event ≡ Stale claim name newer
    → install_reply dependencies (take place history) claim ≡ IsStale name newer

abbrev pub InstallEntriesTellReply : Type 0
InstallEntriesTellReply =
    (dependencies : Dependencies) (history : History) (place claim : ℕ) (entry : Entry) → IsLegal dependencies history
    → slice_get history place ≡ Some entry → entry.event ≡ Install claim
    → install_reply dependencies (take place history) claim ≡ IsInstalled

-- A close in a legal history is of pass 0, and the board was not closed before it.
abbrev pub ClosesAreOfFront : Type 0
ClosesAreOfFront =
    (dependencies : Dependencies) (history : History) (place : ℕ) (entry : Entry) → IsLegal dependencies history
    → slice_get history place ≡ Some entry → entry.event ≡ Close → (entry.pass ≡ 0) × (is_closed (take place history) ≡ false)
