-- Laws of the points of calls (this profile).
use Rattle.std.specs.Prelude.{◌≡◌, ℕ, ◌<◌, true, [], ◌++◌, take, slice_get, Some, Decides}
use Rattle.edit_log_meaning.specs.Log.{Edit}
use Rattle.edit_log_meaning.specs.Append.{Made}
use Rattle.turn_meaning.specs.Passes.{Pass, Joins}
use Rattle.name_meaning.specs.Names.{Name}
use Rattle.module_graph_meaning.specs.Walks.{Dependencies}
use Rattle.module_graph_meaning.specs.Subject.{Subject}
use Rattle.board_meaning.specs.Events.{Entry, History, log_of, version_after}
use Rattle.board_meaning.specs.Ready.{is_closed}
use Rattle.board_meaning.specs.Claims.{claim_at}
use Rattle.board_meaning.specs.Machine.{Job, job_of, edit_reply, claim_reply, install_reply, report_reply, answers_reply, IsVerdict, EditCall, ClaimCall, InstallCall, ReleaseCall, CloseCall, may_call, after_call}
use Rattle.board_meaning.specs.Legal.{IsLegal}
use Rattle.board_meaning.specs.Points.{number_of, entries_of, are_below, IsPoint, BoardCall, Makes, Reports, AsksAnswers, AsksClosed, Reply, EditReply, ClaimReply, InstallReply, ReportReply, AnswersReply, ClosedReply, may_ask, added_by, Happens, FindsNoMemory}

-- Where no other pass has made an entry, what a pass has seen is the point.
abbrev pub SeenIsPoint : Type 0
SeenIsPoint =
    (dependencies : Dependencies) (seen : History) (pass : ℕ) → IsLegal dependencies seen → IsPoint dependencies seen pass seen

-- A claim that a pass may end by what it has seen, by an install or a release, it may end so at the point: other passes
-- do not end it.
abbrev pub OthersEndNoClaim : Type 0
OthersEndNoClaim =
    (dependencies : Dependencies) (seen : History) (pass : ℕ) (point : History) (claim : ℕ) → IsPoint dependencies seen pass point
    → (may_call seen pass (InstallCall claim) ≡ true → may_call point pass (InstallCall claim) ≡ true)
    × (may_call seen pass (ReleaseCall claim) ≡ true → may_call point pass (ReleaseCall claim) ≡ true)

-- The job of a claim that the pass has seen, and what stood before that claim, are the same at the point.
abbrev pub PointKeepsJob : Type 0 → Type 0
PointKeepsJob Answer =
    (subject : Subject Answer) (seen : History) (pass : ℕ) (point : History) (claim : ℕ) (name : Name) → IsPoint subject.dependencies seen pass point
    → claim_at seen claim ≡ Some name
    → (job_of subject point claim ≡ job_of subject seen claim) × (take claim point ≡ take claim seen)

-- Of a pass's own entries the point has just those that it has seen, in their order.
abbrev pub PointHasOwnEntries : Type 0
PointHasOwnEntries =
    (dependencies : Dependencies) (seen : History) (pass : ℕ) (point : History) → IsPoint dependencies seen pass point
    → entries_of pass point ≡ entries_of pass seen

-- After a call that added these entries the pass has seen a legal history, which begins with what it had seen; and its
-- own entries are those that it had made, and then these.
pub record IsSeenAfter (dependencies : Dependencies) (seen : History) (pass : ℕ) (added after : History) : Type 0 where
  pub legal : IsLegal dependencies after
  pub later : History
  pub begins : after ≡ seen ++ later
  pub own : entries_of pass after ≡ entries_of pass seen ++ added

-- A call that happens at a point adds its entry, if it makes one.
abbrev pub CallsAreSeen : Type 0 → Type 0
CallsAreSeen Answer =
    (subject : Subject Answer) (seen : History) (pass : ℕ) (call : BoardCall) (reply : Reply Answer) (after : History)
    → (happens : Happens subject seen pass call reply after)
    → IsSeenAfter subject.dependencies seen pass (added_by subject.dependencies happens.point pass call) after

-- A call that finds no memory adds nothing, and leaves its pass each claim that it could end.
abbrev pub WantsAreSeen : Type 0 → Type 0
WantsAreSeen Answer =
    (subject : Subject Answer) (seen : History) (pass : ℕ) (call : BoardCall) (after : History)
    → FindsNoMemory subject seen pass call after
    → IsSeenAfter subject.dependencies seen pass [] after
    × ((claim : ℕ) → may_call seen pass (InstallCall claim) ≡ true → may_call after pass (InstallCall claim) ≡ true)

-- What a call that finds no memory would have done: an edit would have been made, a report would have told a verdict; or
-- it is a claim, or asks for answers. No other call finds none.
abbrev pub WouldTake : {Answer : Type 0} → Subject Answer → History → BoardCall → Type 0
WouldTake subject history (Makes (EditCall edit)) = (version : ℕ) × (edit_reply history edit ≡ Made version)
WouldTake subject history (Makes ClaimCall) = Unit {0}
WouldTake subject history (Makes (InstallCall claim)) = ⊥
WouldTake subject history (Makes (ReleaseCall claim)) = ⊥
WouldTake subject history (Makes CloseCall) = ⊥
WouldTake {Answer} subject history (Reports name) = (answer : Answer) × (version : ℕ) × (report_reply subject history name ≡ IsVerdict answer version)
WouldTake subject history (AsksAnswers name) = Unit {0}
WouldTake subject history AsksClosed = ⊥

abbrev pub WantsAreOfThese : Type 0 → Type 0
WantsAreOfThese Answer =
    (subject : Subject Answer) (seen : History) (pass : ℕ) (call : BoardCall) (after : History)
    → (FindsNoMemory subject seen pass call after → WouldTake subject after call)
    × (IsPoint subject.dependencies seen pass after → may_ask after pass call ≡ true → WouldTake subject after call → FindsNoMemory subject seen pass call after)

-- Through a pass, an edit, a claim and an install are told what the machine replies at the point.
abbrev pub CallsAreTold : Type 0 → Type 0
CallsAreTold Answer =
    (subject : Subject Answer) (seen : History) (pass : ℕ) (reply : Reply Answer) (after : History)
    → ((edit : Edit) (happens : Happens subject seen pass (Makes (EditCall edit)) reply after) → reply ≡ EditReply (edit_reply happens.point edit))
    × ((happens : Happens subject seen pass (Makes ClaimCall) reply after) → reply ≡ ClaimReply (claim_reply subject happens.point))
    × ((claim : ℕ) (happens : Happens subject seen pass (Makes (InstallCall claim)) reply after) → reply ≡ InstallReply (install_reply subject.dependencies happens.point claim))

-- A report, a question for answers and a question whether the board is closed are told what the machine replies after
-- all that the pass has then seen.
abbrev pub QuestionsAreTold : Type 0 → Type 0
QuestionsAreTold Answer =
    (subject : Subject Answer) (seen : History) (pass : ℕ) (name : Name) (reply : Reply Answer) (after : History)
    → (Happens subject seen pass (Reports name) reply after → reply ≡ ReportReply (report_reply subject after name))
    × (Happens subject seen pass (AsksAnswers name) reply after → reply ≡ AnswersReply (answers_reply subject after name))
    × (Happens subject seen pass AsksClosed reply after → reply ≡ ClosedReply (is_closed after))

-- All entries are of passes below a number exactly where the pass of each entry is less than it.
abbrev pub BelowIsLess : Type 0
BelowIsLess =
    (made : ℕ) (history : History)
    → Decides (are_below made history) ((place : ℕ) (entry : Entry) → slice_get history place ≡ Some entry → entry.pass < made)

-- At a point of pass 0 the log, the version, and whether the board is closed are as the pass has seen them: no other pass
-- edits or closes.
abbrev pub FrontKnowsLog : Type 0
FrontKnowsLog =
    (dependencies : Dependencies) (seen point : History) → IsPoint dependencies seen 0 point
    → (log_of point ≡ log_of seen) × (version_after point ≡ version_after seen) × (is_closed point ≡ is_closed seen)

-- Where two passes have seen legal histories and one takes in the other, it has then seen a legal history, which is a point
-- for both.
abbrev pub JoinsAreSeen : Type 0 → Type 0
JoinsAreSeen Lock =
    (dependencies : Dependencies) (before other after : Pass Lock Entry) → IsLegal dependencies before.seen → IsLegal dependencies other.seen
    → Joins number_of before other after
    → IsPoint dependencies before.seen before.number after.seen × IsPoint dependencies other.seen other.number after.seen

-- The pass that was handed a job by a claim may end that claim, by an install or a release, and the job is that of the
-- claim.
abbrev pub JobsMayBeEnded : Type 0 → Type 0
JobsMayBeEnded Answer =
    (subject : Subject Answer) (history : History) (pass : ℕ) (job : Job Answer) → IsLegal subject.dependencies history
    → claim_reply subject history ≡ Some job
    → (job_of subject (after_call subject.dependencies history pass ClaimCall) job.claim ≡ Some job)
    × (may_call (after_call subject.dependencies history pass ClaimCall) pass (InstallCall job.claim) ≡ true)
    × (may_call (after_call subject.dependencies history pass ClaimCall) pass (ReleaseCall job.claim) ≡ true)
