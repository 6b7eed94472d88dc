-- The board as a machine: the reply and the entry of each call, from the history alone (this profile).
use Rattle.module_graph_meaning.specs.Subject.{answers_of, Subject}
use Rattle.std.specs.Prelude.{ℕ, Bool, true, false, List, ◌++◌, ◌&&◌, ◌||◌, take, length, nat_eq, slice_get, Option, Some, None, option_map, option_and_then, option_to_list, if◌then◌else◌}
use Rattle.name_meaning.specs.Names.{Name, Text}
use Rattle.edit_log_meaning.specs.Log.{Edit, text_of, is_present}
use Rattle.edit_log_meaning.specs.Append.{Edited, Made, Same, Absent, Full, TooLong, TooMany, append_answer}
use Rattle.module_graph_meaning.specs.Walks.{Dependencies, is_grounded, is_ungrounded}
use Rattle.board_meaning.specs.Events.{Event, EditMade, Claim, Install, Stale, Release, Close, Entry, History, log_of, library_after, version_after, entry_of}
use Rattle.board_meaning.specs.Claims.{Input, claim_at, is_open, inputs_after, inputs_of, first_changed}
use Rattle.board_meaning.specs.Standing.{stands}
use Rattle.board_meaning.specs.Ready.{is_closed, least_ready}

-- What a worker is handed: the place of its claim, the name and its text, the inputs with their stamps, and the
-- answers of the reach.
pub record Job (Answer : Type 0) : Type 0 where
  pub claim : ℕ
  pub name : Name
  pub text : Text
  pub inputs : List Input
  pub answers : List (Name × Option Answer)

-- The job of a claim of this name that is made after this history. There is one where the name is present.
unfoldable pub job_after : {Answer : Type 0} → Subject Answer → History → Name → Option (Job Answer)
job_after subject history name =
    option_map (λ (text : Text). record { claim = length history; name = name; text = text; inputs = inputs_after subject.dependencies history name; answers = answers_of subject (library_after history) name }) (text_of (library_after history) name)

-- The job of the claim at this place.
unfoldable pub job_of : {Answer : Type 0} → Subject Answer → History → ℕ → Option (Job Answer)
job_of subject history place = option_and_then (job_after subject (take place history)) (claim_at history place)

-- The reply to an edit is the log's.
abbrev pub edit_reply : History → Edit → Edited
edit_reply history edit = append_answer (log_of history) edit

-- The reply to a claim is the job of the least ready name, if one is ready.
abbrev pub claim_reply : {Answer : Type 0} → Subject Answer → History → Option (Job Answer)
claim_reply subject history = option_and_then (job_after subject history) (least_ready subject.dependencies history)

-- The verdict was installed; or an input has changed, which is named with its present stamp.
pub data Installed : Type 0 where
  IsInstalled : Installed
  IsStale : Name → ℕ → Installed

-- Installed where no input has changed.
abbrev pub installed_by : Option Input → Installed
installed_by None = IsInstalled
installed_by (Some input) = IsStale input.name input.stamp

-- The reply to an install of the claim at this place.
unfoldable pub install_reply : Dependencies → History → ℕ → Installed
install_reply dependencies history place = installed_by (first_changed history (inputs_of dependencies history place))

-- The verdict of a name, that it is to come, or that the name is absent, each with the version.
pub data Told (Answer : Type 0) : Type 0 where
  IsVerdict : Answer → ℕ → Told Answer
  IsPending : ℕ → Told Answer
  IsAbsent : ℕ → Told Answer

-- What is told of a name by whether it is present, whether its answer may be told, and the answer. A subject answers
-- of each present name; where one did not, the verdict would be to come.
abbrev pub told_by : {Answer : Type 0} → ℕ → (present known : Bool) → Option Answer → Told Answer
told_by version false known answer = IsAbsent version
told_by version true false answer = IsPending version
told_by version true true None = IsPending version
told_by version true true (Some answer) = IsVerdict answer version

-- The answer of this name may be told: it is ungrounded, or has a standing verdict.
abbrev pub is_known : Dependencies → History → Name → Bool
is_known dependencies history name =
    is_ungrounded dependencies (library_after history) name || stands dependencies history name

-- The reply to a report: that the name is absent; or its verdict, where that may be told; else that it is to come.
unfoldable pub report_reply : {Answer : Type 0} → Subject Answer → History → Name → Told Answer
report_reply subject history name =
    told_by (version_after history) (is_present (library_after history) name) (is_known subject.dependencies history name) (subject.answer (library_after history) name)

-- The answers of the reach of a grounded name with a standing verdict.
unfoldable pub answers_reply : {Answer : Type 0} → Subject Answer → History → Name → Option (List (Name × Option Answer))
answers_reply subject history name =
    if is_grounded subject.dependencies (library_after history) name && stands subject.dependencies history name
    then Some (answers_of subject (library_after history) name) else None

-- The calls that may make an entry. An install or release is of the claim at a place.
pub data Call : Type 0 where
  EditCall : Edit → Call
  ClaimCall : Call
  InstallCall : ℕ → Call
  ReleaseCall : ℕ → Call
  CloseCall : Call

-- The event of an edit that was answered so: one that was made.
abbrev pub edit_event : Edit → Edited → Option Event
edit_event edit (Made version) = Some (EditMade edit)
edit_event edit (Same version) = None
edit_event edit (Absent version) = None
edit_event edit Full = None
edit_event edit TooLong = None
edit_event edit TooMany = None

-- The event of an install of this claim that was replied to so.
abbrev pub install_event : ℕ → Installed → Event
install_event place IsInstalled = Install place
install_event place (IsStale name newer) = Stale place name newer

-- What the call adds to the history, if it adds anything.
unfoldable pub event_of : Dependencies → History → Call → Option Event
event_of dependencies history (EditCall edit) = edit_event edit (edit_reply history edit)
event_of dependencies history ClaimCall = option_map Claim (least_ready dependencies history)
event_of dependencies history (InstallCall place) = Some (install_event place (install_reply dependencies history place))
event_of dependencies history (ReleaseCall place) = Some (Release place)
event_of dependencies history CloseCall = if is_closed history then None else Some Close

-- The entry at this place, if there is one, is of this pass.
abbrev pub is_by : ℕ → Option Entry → Bool
is_by pass None = false
is_by pass (Some entry) = nat_eq pass entry.pass

-- The pass may make the call. Edits and the close are for pass 0 alone; a claim is ended by the pass that made it,
-- and once.
unfoldable pub may_call : History → ℕ → Call → Bool
may_call history pass (EditCall edit) = nat_eq pass 0
may_call history pass ClaimCall = true
may_call history pass (InstallCall place) = is_open history place && is_by pass (slice_get history place)
may_call history pass (ReleaseCall place) = is_open history place && is_by pass (slice_get history place)
may_call history pass CloseCall = nat_eq pass 0

-- The entry of the call, if it makes one.
abbrev pub entry_by : Dependencies → History → ℕ → Call → Option Entry
entry_by dependencies history pass call = option_map (entry_of history pass) (event_of dependencies history call)

-- The history after the call.
unfoldable pub after_call : Dependencies → History → ℕ → Call → History
after_call dependencies history pass call = history ++ option_to_list (entry_by dependencies history pass call)
