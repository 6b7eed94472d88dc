-- What a pass has seen of a board that several threads share, and the point at which a call of it happens (this profile).
use Rattle.std.specs.Prelude.{◌≡◌, ℕ, Bool, true, false, List, [], ◌++◌, Option, option_to_list}
use Rattle.name_meaning.specs.Names.{Name}
use Rattle.edit_log_meaning.specs.Append.{Edited, Made, Same, Absent, Full, TooLong, TooMany}
use Rattle.module_graph_meaning.specs.Walks.{Dependencies}
use Rattle.module_graph_meaning.specs.Subject.{Subject}
use Rattle.turn_meaning.specs.Numbers as numbers
use Rattle.turn_meaning.specs.Passes.{GoesOn}
use Rattle.board_meaning.specs.Events.{Entry, History}
use Rattle.board_meaning.specs.Ready.{is_closed}
use Rattle.board_meaning.specs.Machine.{Job, Installed, Told, IsVerdict, IsPending, IsAbsent, Call, EditCall, ClaimCall, InstallCall, ReleaseCall, CloseCall, edit_reply, claim_reply, install_reply, report_reply, answers_reply, may_call, entry_by}
use Rattle.board_meaning.specs.Legal.{IsLegal}

-- What an entry carries: the number of its pass.
abbrev pub number_of : Entry → ℕ
number_of entry = entry.pass

-- No entry is of this pass.
abbrev pub are_of_others : ℕ → History → Bool
are_of_others pass history = numbers.are_of_others number_of pass history

-- Each entry is of a pass with a number below this one.
abbrev pub are_below : ℕ → History → Bool
are_below made history = numbers.are_below number_of made history

-- The entries of this pass, in order.
abbrev pub entries_of : ℕ → History → History
entries_of pass history = numbers.entries_of number_of pass history

-- The point of a call through a pass that has seen these entries: a legal history that begins with them, all
-- later entries being those of other passes.
pub record IsPoint (dependencies : Dependencies) (seen : History) (pass : ℕ) (point : History) : Type 0 where
  pub goes_on : GoesOn number_of pass seen point
  pub legal : IsLegal dependencies point

-- Any call of a board: one that may make an entry, or one that asks for a verdict, for the answers of a reach, or
-- whether the board is closed.
pub data BoardCall : Type 0 where
  Makes : Call → BoardCall
  Reports : Name → BoardCall
  AsksAnswers : Name → BoardCall
  AsksClosed : BoardCall

-- The reply to a call. A release and a close have none.
pub data Reply (Answer : Type 0) : Type 0 where
  EditReply : Edited → Reply Answer
  ClaimReply : Option (Job Answer) → Reply Answer
  InstallReply : Installed → Reply Answer
  ReportReply : Told Answer → Reply Answer
  AnswersReply : Option (List (Name × Option Answer)) → Reply Answer
  ClosedReply : Bool → Reply Answer
  NoReply : Reply Answer

abbrev pub reply_to : {Answer : Type 0} → Subject Answer → History → Call → Reply Answer
reply_to subject history (EditCall edit) = EditReply (edit_reply history edit)
reply_to subject history ClaimCall = ClaimReply (claim_reply subject history)
reply_to subject history (InstallCall claim) = InstallReply (install_reply subject.dependencies history claim)
reply_to subject history (ReleaseCall claim) = NoReply
reply_to subject history CloseCall = NoReply

-- The machine's reply to a call after this history.
abbrev pub reply_of : {Answer : Type 0} → Subject Answer → History → BoardCall → Reply Answer
reply_of subject history (Makes call) = reply_to subject history call
reply_of subject history (Reports name) = ReportReply (report_reply subject history name)
reply_of subject history (AsksAnswers name) = AnswersReply (answers_reply subject history name)
reply_of subject history AsksClosed = ClosedReply (is_closed history)

-- The pass may make the call after this history. Any pass may ask.
abbrev pub may_ask : History → ℕ → BoardCall → Bool
may_ask history pass (Makes call) = may_call history pass call
may_ask history pass (Reports name) = true
may_ask history pass (AsksAnswers name) = true
may_ask history pass AsksClosed = true

-- What the call adds to the history.
abbrev pub added_by : Dependencies → History → ℕ → BoardCall → History
added_by dependencies history pass (Makes call) = option_to_list (entry_by dependencies history pass call)
added_by dependencies history pass (Reports name) = []
added_by dependencies history pass (AsksAnswers name) = []
added_by dependencies history pass AsksClosed = []

-- A call through a pass that has seen these entries happens at a point: the pass may make it there, its reply is the
-- machine's there, and the pass has then seen the point, with the call's entry, if it makes one, at its end.
pub record Happens {Answer : Type 0} (subject : Subject Answer) (seen : History) (pass : ℕ) (call : BoardCall) (reply : Reply Answer) (after : History) : Type 0 where
  pub point : History
  pub at_point : IsPoint subject.dependencies seen pass point
  pub may : may_ask point pass call ≡ true
  pub replies : reply ≡ reply_of subject point call
  pub sees : after ≡ point ++ added_by subject.dependencies point pass call

-- The edit was made.
abbrev pub is_made : Edited → Bool
is_made (Made version) = true
is_made (Same version) = false
is_made (Absent version) = false
is_made Full = false
is_made TooLong = false
is_made TooMany = false

-- A verdict is told.
abbrev pub is_verdict : {Answer : Type 0} → Told Answer → Bool
is_verdict (IsVerdict answer version) = true
is_verdict (IsPending version) = false
is_verdict (IsAbsent version) = false

-- The call may find no memory: an edit where it would be made, and a claim. The others find room that was taken before.
abbrev pub call_takes_memory : History → Call → Bool
call_takes_memory history (EditCall edit) = is_made (edit_reply history edit)
call_takes_memory history ClaimCall = true
call_takes_memory history (InstallCall claim) = false
call_takes_memory history (ReleaseCall claim) = false
call_takes_memory history CloseCall = false

-- The call may find no memory: also a report where it would tell a verdict, and a question for answers.
abbrev pub takes_memory : {Answer : Type 0} → Subject Answer → History → BoardCall → Bool
takes_memory subject history (Makes call) = call_takes_memory history call
takes_memory subject history (Reports name) = is_verdict (report_reply subject history name)
takes_memory subject history (AsksAnswers name) = true
takes_memory subject history AsksClosed = false

-- A call through a pass that has seen these entries finds no memory: it has a point, at which the pass may make it and it
-- takes memory; it makes no entry there, and the pass has then seen the point.
pub record FindsNoMemory {Answer : Type 0} (subject : Subject Answer) (seen : History) (pass : ℕ) (call : BoardCall) (after : History) : Type 0 where
  pub point : History
  pub at_point : IsPoint subject.dependencies seen pass point
  pub may : may_ask point pass call ≡ true
  pub takes : takes_memory subject point call ≡ true
  pub sees : after ≡ point
