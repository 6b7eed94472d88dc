-- What calls through a pass are told, and which of them find no memory.
use Rattle.std.proofs.Common.{◌≡◌, ℕ, true, [], ◌++◌, refl, sym, ap, ◌∙◌, true≢false, append-nil}
use Rattle.name_meaning.specs.Names.{Name}
use Rattle.edit_log_meaning.specs.Log.{Edit}
use Rattle.edit_log_meaning.specs.Append.{Edited, Made, Same, Absent, Full, TooLong, TooMany}
use Rattle.module_graph_meaning.specs.Subject.{Subject}
use Rattle.board_meaning.specs.Events.{History}
use Rattle.board_meaning.specs.Ready.{is_closed}
use Rattle.board_meaning.specs.Machine.{Told, IsVerdict, IsPending, IsAbsent, edit_reply, claim_reply, install_reply, report_reply, answers_reply, EditCall, ClaimCall, InstallCall, ReleaseCall, CloseCall}
use Rattle.board_meaning.specs.Points.{IsPoint, BoardCall, Makes, Reports, AsksAnswers, AsksClosed, Reply, EditReply, ClaimReply, InstallReply, ReportReply, AnswersReply, ClosedReply, may_ask, is_made, is_verdict, takes_memory, Happens, FindsNoMemory}
use Rattle.board_laws.specs.PointLaws.{WouldTake}

pub calls_are_told : {Answer : Type 0} (subject : Subject Answer) (seen : History) (pass : ℕ) (reply : Reply Answer) (after : History)
    → ((edit : Edit) (happens : Happens subject seen pass (Makes (EditCall edit)) reply after) → reply ≡ EditReply (edit_reply happens.point edit))
    × ((happens : Happens subject seen pass (Makes ClaimCall) reply after) → reply ≡ ClaimReply (claim_reply subject happens.point))
    × ((claim : ℕ) (happens : Happens subject seen pass (Makes (InstallCall claim)) reply after) → reply ≡ InstallReply (install_reply subject.dependencies happens.point claim))
calls_are_told subject seen pass reply after = (λ edit h. h.replies, λ h. h.replies, λ claim h. h.replies)

pub questions_are_told : {Answer : Type 0} (subject : Subject Answer) (seen : History) (pass : ℕ) (n : Name) (reply : Reply Answer) (after : History)
    → (Happens subject seen pass (Reports n) reply after → reply ≡ ReportReply (report_reply subject after n))
    × (Happens subject seen pass (AsksAnswers n) reply after → reply ≡ AnswersReply (answers_reply subject after n))
    × (Happens subject seen pass AsksClosed reply after → reply ≡ ClosedReply (is_closed after))
questions_are_told {Answer = Answer} subject seen pass n reply after = (
  λ h. h.replies ∙ ap (λ (H : History). ReportReply (report_reply subject H n)) (same h.point h.sees),
  λ h. h.replies ∙ ap (λ (H : History). AnswersReply (answers_reply subject H n)) (same h.point h.sees),
  λ h. h.replies ∙ ap (λ (H : History). ClosedReply (is_closed H)) (same h.point h.sees),
)
  where
    same : (point : History) → after ≡ point ++ [] → point ≡ after
    same point e = sym (e ∙ append-nil point)

made_by : (a : Edited) → is_made a ≡ true → (version : ℕ) × (a ≡ Made version)
made_by (Made v) h = (v, refl)
made_by (Same v) h = absurd (true≢false (sym h))
made_by (Absent v) h = absurd (true≢false (sym h))
made_by Full h = absurd (true≢false (sym h))
made_by TooLong h = absurd (true≢false (sym h))
made_by TooMany h = absurd (true≢false (sym h))

verdict_by : {Answer : Type 0} (t : Told Answer) → is_verdict t ≡ true → (answer : Answer) × (version : ℕ) × (t ≡ IsVerdict answer version)
verdict_by (IsVerdict a v) h = (a, v, refl)
verdict_by (IsPending v) h = absurd (true≢false (sym h))
verdict_by (IsAbsent v) h = absurd (true≢false (sym h))

would_take : {Answer : Type 0} (subject : Subject Answer) (H : History) (call : BoardCall) → takes_memory subject H call ≡ true → WouldTake subject H call
would_take subject H (Makes (EditCall edit)) h = made_by (edit_reply H edit) h
would_take subject H (Makes ClaimCall) h = tt
would_take subject H (Makes (InstallCall c)) h = absurd (true≢false (sym h))
would_take subject H (Makes (ReleaseCall c)) h = absurd (true≢false (sym h))
would_take subject H (Makes CloseCall) h = absurd (true≢false (sym h))
would_take subject H (Reports n) h = verdict_by (report_reply subject H n) h
would_take subject H (AsksAnswers n) h = tt
would_take subject H AsksClosed h = absurd (true≢false (sym h))

takes_by : {Answer : Type 0} (subject : Subject Answer) (H : History) (call : BoardCall) → WouldTake subject H call → takes_memory subject H call ≡ true
takes_by subject H (Makes (EditCall edit)) w = ap is_made w.1
takes_by subject H (Makes ClaimCall) w = refl
takes_by subject H (Makes (InstallCall c)) w = absurd w
takes_by subject H (Makes (ReleaseCall c)) w = absurd w
takes_by subject H (Makes CloseCall) w = absurd w
takes_by subject H (Reports n) w = ap is_verdict w.2
takes_by subject H (AsksAnswers n) w = refl
takes_by subject H AsksClosed w = absurd w

pub wants_are_of_these : {Answer : Type 0} (subject : Subject Answer) (seen : History) (pass : ℕ) (call : BoardCall) (after : History)
    → (FindsNoMemory subject seen pass call after → WouldTake subject after call)
    × (IsPoint subject.dependencies seen pass after → may_ask after pass call ≡ true → WouldTake subject after call → FindsNoMemory subject seen pass call after)
wants_are_of_these subject seen pass call after = (
  λ w. would_take subject after call (ap (λ (H : History). takes_memory subject H call) w.sees ∙ w.takes),
  λ p m w. record { point = after; at_point = p; may = m; takes = takes_by subject after call w; sees = refl },
)
