-- What the front's calls on the shared board leave, from the points of the calls.
use Rattle.std.proofs.Common.{◌≡◌, ℕ, Bool, true, not, List, ◌++◌, append-nil, Option, Some, None, Result, Ok, Err, refl, sym, ap, ◌∙◌, subst, true≢false}
use Rattle.std.specs.Prelude.{IfOk, OnErr, option_map}
use Rattle.name_meaning.specs.Names.{Name}
use Rattle.turn_meaning.specs.Passes.{Pass}
use Rattle.edit_log_meaning.specs.Log.{Edit, Log}
use Rattle.edit_log_meaning.specs.Append.{append_answer, appended}
use Rattle.edit_log_meaning.specs.Append as answers
use Rattle.text_meaning.specs.Dependencies.{dependencies}
use Rattle.board_meaning.specs.Events.{Entry, History, log_of}
use Rattle.board_meaning.specs.Machine.{EditCall, ClaimCall, InstallCall, ReleaseCall, CloseCall, after_call, edit_reply, report_reply, answers_reply, Told}
use Rattle.board_meaning.specs.Points.{BoardCall, Makes, Reports, AsksAnswers, AsksClosed, Reply, EditReply, ReportReply, AnswersReply, Happens, FindsNoMemory, added_by}
use Rattle.board_meaning.specs.Turns.{TurnEnd, Worked, Idle, Closed, Turns, TurnFindsNoMemory, ForClaim, ForJob}
use Rattle.board_laws.specs.HistoryLaws.{is_edit_call}
use Rattle.board_laws.proofs.Entries.{edits_are_appended, others_leave_log}
use Rattle.board_laws.proofs.Passing.{front_knows}
use Rattle.board_laws.proofs.Pointing.{calls_are_seen, wants_are_seen}
use Rattle.board_laws.proofs.Replying.{calls_are_told, questions_are_told, wants_are_of_these}
use Rattle.verdict_meaning.specs.Rounds.{modules}
use Rattle.verdict_meaning.specs.Verdicts.{Verdict}
use Rattle.edit_log.specs.Readings.{IsAnswer}
use Rattle.edit_log.specs.declared.answers.Edited.{Edited}
use Rattle.edit_log.specs.declared.answers.EditFault.{EditFault}
use Rattle.edit_log.specs.declared.answers.EditFault.TheVariants.{Full, TooLong, TooMany, Memory}
use Rattle.module_graph.specs.Subjects.{read_answers}
use Rattle.verdict_board.specs.Readings.{read_told}
use Rattle.verdict_board.specs.declared.replies.Told as told
use Rattle.mmt_interface.specs.Readings.{read_verdict}
use Rattle.mmt_interface.specs.declared.verdict.Verdict as verdict
use Rattle.worker_loop.specs.Ends.{read_end}
use Rattle.worker_loop.specs.declared.one_turn.TurnEnd as ends
use Rattle.board_seats.specs.Replies.{read_edit_reply, read_question, read_report}
use Rattle.board_seats.specs.Seats.{IsCalled, IsRepliedTo, Keeps}
use Rattle.board_front.specs.Staying.{EditGoes, Edits, Stays}
use Rattle.board_front.proofs.Histories.{stays_on}

-- The call makes no edit.
abbrev pub makes_no_edit : BoardCall → Bool
makes_no_edit (Makes call) = not (is_edit_call call)
makes_no_edit (Reports name) = true
makes_no_edit (AsksAnswers name) = true
makes_no_edit AsksClosed = true

log_added : (point : History) (call : BoardCall) → makes_no_edit call ≡ true → log_of (point ++ added_by dependencies point 0 call) ≡ log_of point
unfolding after_call
log_added point (Makes (EditCall edit)) h = absurd (true≢false (sym h))
log_added point (Makes ClaimCall) h = others_leave_log dependencies point 0 ClaimCall refl
log_added point (Makes (InstallCall claim)) h = others_leave_log dependencies point 0 (InstallCall claim) refl
log_added point (Makes (ReleaseCall claim)) h = others_leave_log dependencies point 0 (ReleaseCall claim) refl
log_added point (Makes CloseCall) h = others_leave_log dependencies point 0 CloseCall refl
log_added point (Reports name) h = ap log_of (append-nil point)
log_added point (AsksAnswers name) h = ap log_of (append-nil point)
log_added point AsksClosed h = ap log_of (append-nil point)

-- A call that makes no edit.
pub happens_stays : (seen after : History) (call : BoardCall) (reply : Reply Verdict) → makes_no_edit call ≡ true → Happens modules seen 0 call reply after → Stays seen after
happens_stays seen after call reply no_edit h =
    let s = calls_are_seen modules seen 0 call reply after h in
    record {
      legal = s.legal;
      later = s.later;
      begins = s.begins;
      logged = ap log_of h.sees ∙ log_added h.point call no_edit ∙ (front_knows dependencies seen h.point h.at_point).0;
    }

-- A call that finds no memory.
pub finds_stays : (seen after : History) (call : BoardCall) → FindsNoMemory modules seen 0 call after → Stays seen after
finds_stays seen after call w =
    let s = (wants_are_seen modules seen 0 call after w).0 in
    record {
      legal = s.legal;
      later = s.later;
      begins = s.begins;
      logged = ap log_of w.sees ∙ (front_knows dependencies seen w.point w.at_point).0;
    }

-- An edit: where it was answered, the log is as its rules leave it.
pub happens_edits : (seen after : History) (edit : Edit) (reply : Reply Verdict) → Happens modules seen 0 (Makes (EditCall edit)) reply after → Edits edit seen after
unfolding after_call
happens_edits seen after edit reply h =
    let s = calls_are_seen modules seen 0 (Makes (EditCall edit)) reply after h in
    record {
      legal = s.legal;
      later = s.later;
      begins = s.begins;
      logged = ap log_of h.sees ∙ edits_are_appended dependencies h.point 0 edit ∙ ap (λ (l : Log). appended l edit) (front_knows dependencies seen h.point h.at_point).0;
    }

-- The answer is the log's.
pub edit_told : (seen after : History) (edit : Edit) (answer : answers.Edited) → Happens modules seen 0 (Makes (EditCall edit)) (EditReply answer) after → append_answer (log_of seen) edit ≡ answer
edit_told seen after edit answer h =
    let q = (calls_are_told modules seen 0 (EditReply answer) after).0 edit h in
    let e : answer ≡ edit_reply h.point edit = same _ _ refl refl q in
    ap (λ (l : Log). append_answer l edit) (sym (front_knows dependencies seen h.point h.at_point).0) ∙ sym e
  where
    same : (r s : Reply Verdict) {a b : answers.Edited} → r ≡ EditReply a → s ≡ EditReply b → r ≡ s → a ≡ b
    same r s e f q = cc

-- An edit that was refused leaves the log.
pub refused_stays : (edit : Edit) (seen after : History) → Edits edit seen after → appended (log_of seen) edit ≡ log_of seen → Stays seen after
refused_stays edit seen after e same = record { legal = e.legal; later = e.later; begins = e.begins; logged = e.logged ∙ same }

-- ---- turns

pub turn_stays : (seen after : History) (end : TurnEnd) → Turns modules seen 0 end after → Stays seen after
unfolding Turns
turn_stays seen after (Worked name how) w =
    stays_on (log_of seen) seen w.between after (happens_stays seen w.between _ _ refl w.claims) (happens_stays w.between after _ _ refl w.brings)
turn_stays seen after Idle f = stays_on (log_of seen) seen f.between after (happens_stays seen f.between _ _ refl f.claims) (happens_stays f.between after _ _ refl f.asks)
turn_stays seen after Closed f = stays_on (log_of seen) seen f.between after (happens_stays seen f.between _ _ refl f.claims) (happens_stays f.between after _ _ refl f.asks)

pub wants_stays : (seen after : History) → TurnFindsNoMemory modules seen 0 after → Stays seen after
wants_stays seen after (ForClaim w) = finds_stays seen after _ w
wants_stays seen after (ForJob job between claims ends) =
    stays_on (log_of seen) seen between after (happens_stays seen between _ _ refl claims) (happens_stays between after _ _ refl ends)

-- ---- what the calls returned

module _ {Lock : Type 0} (before after : Pass Lock Entry) (first : before.number ≡ 0) where
  at_front : (call : BoardCall) (reply : Reply Verdict) → Happens modules before.seen before.number call reply after.seen → Happens modules before.seen 0 call reply after.seen
  at_front call reply h = subst (λ (n : ℕ). Happens modules before.seen n call reply after.seen) first h

  wants_at_front : (call : BoardCall) → FindsNoMemory modules before.seen before.number call after.seen → FindsNoMemory modules before.seen 0 call after.seen
  wants_at_front call w = subst (λ (n : ℕ). FindsNoMemory modules before.seen n call after.seen) first w

  pub called_keeps : (call : BoardCall) (o : Option (Reply Verdict)) → IsCalled modules before call o after → Keeps before after
  called_keeps call (Some reply) r = r.keeps
  called_keeps call None w = w.keeps

  pub called_stays : (call : BoardCall) (o : Option (Reply Verdict)) → makes_no_edit call ≡ true → IsCalled modules before call o after → Stays before.seen after.seen
  called_stays call (Some reply) no_edit r = happens_stays before.seen after.seen call reply no_edit (at_front call reply r.happens)
  called_stays call None no_edit w = finds_stays before.seen after.seen call (wants_at_front call w.finds)

  pub report_told : {E : Type 0} (name : Name) (result : Result (told.Told verdict.Verdict) E) → IsCalled modules before (Reports name) (read_report read_verdict result) after
      → IfOk result (λ told. read_told read_verdict told ≡ report_reply modules after.seen name)
  report_told name (Ok told) r = same ((questions_are_told modules before.seen before.number name _ after.seen).0 r.happens)
    where
      same : {a b : Told Verdict} → ReportReply a ≡ ReportReply b → a ≡ b
      same q = cc
  report_told name (Err fault) w = tt

  pub answers_told : {E : Type 0} (name : Name) (result : Result (Option (List (Name × Option verdict.Verdict))) E) → IsCalled modules before (AsksAnswers name) (read_question read_verdict result) after
      → IfOk result (λ answers. option_map (read_answers read_verdict) answers ≡ answers_reply modules after.seen name)
  answers_told name (Ok answers) r = same ((questions_are_told modules before.seen before.number name _ after.seen).1 r.happens)
    where
      same : {a b : Option (List (Name × Option Verdict))} → AnswersReply a ≡ AnswersReply b → a ≡ b
      same q = cc
  answers_told name (Err fault) w = tt

  replied_edits : (edit : Edit) (reply : Reply Verdict) → IsRepliedTo modules before (Makes (EditCall edit)) reply after → Edits edit before.seen after.seen
  replied_edits edit reply r = happens_edits before.seen after.seen edit reply (at_front _ reply r.happens)

  pub edit_goes : (edit : Edit) (result : Result Edited EditFault) → IsCalled modules before (Makes (EditCall edit)) (read_edit_reply result) after → EditGoes result edit before.seen after.seen
  edit_goes edit (Ok edited) r = replied_edits edit _ r
  edit_goes edit (Err Full) r = replied_edits edit _ r
  edit_goes edit (Err TooLong) r = replied_edits edit _ r
  edit_goes edit (Err TooMany) r = replied_edits edit _ r
  edit_goes edit (Err Memory) w = finds_stays before.seen after.seen _ (wants_at_front _ w.finds)

  replied_answer : (edit : Edit) (answer : answers.Edited) → IsRepliedTo modules before (Makes (EditCall edit)) (EditReply answer) after → append_answer (log_of before.seen) edit ≡ answer
  replied_answer edit answer r = edit_told before.seen after.seen edit answer (at_front _ _ r.happens)

  pub edit_answer : (edit : Edit) (result : Result Edited EditFault) → IsCalled modules before (Makes (EditCall edit)) (read_edit_reply result) after → IsAnswer result (append_answer (log_of before.seen) edit)
  edit_answer edit (Ok edited) r = replied_answer edit _ r
  edit_answer edit (Err Full) r = replied_answer edit _ r
  edit_answer edit (Err TooLong) r = replied_answer edit _ r
  edit_answer edit (Err TooMany) r = replied_answer edit _ r
  edit_answer edit (Err Memory) w =
      let q = (wants_are_of_these modules before.seen 0 (Makes (EditCall edit)) after.seen).0 (wants_at_front _ w.finds) in
      (q.0, ap (λ (l : Log). append_answer l edit) (sym (finds_stays before.seen after.seen _ (wants_at_front _ w.finds)).logged) ∙ q.1)

  -- A turn of pass 0.
  pub ended_stays : {E : Type 0} (result : Result ends.TurnEnd E) → IfOk result (λ end. Turns modules before.seen before.number (read_end end) after.seen)
      → OnErr result (TurnFindsNoMemory modules before.seen before.number after.seen) → Stays before.seen after.seen
  ended_stays (Ok end) t w = turn_stays before.seen after.seen (read_end end) (subst (λ (n : ℕ). Turns modules before.seen n (read_end end) after.seen) first t)
  ended_stays (Err fault) t w = wants_stays before.seen after.seen (subst (λ (n : ℕ). TurnFindsNoMemory modules before.seen n after.seen) first w)
