-- Calls of the board that may find no memory, from what they returned.
use Rattle.std.proofs.Common.{◌≡◌, ℕ, List, ◌++◌, take, true, false, Option, Some, None, option_map, option_to_list, Result, Ok, Err, IfOk, IfSome, OnOk, OnErr, refl, sym, ap, ◌∙◌, subst, append-nil}
use Rattle.name_meaning.specs.Names.{Name}
use Rattle.edit_log_meaning.specs.Log.{Edit}
use Rattle.edit_log_meaning.specs.Append as log
use Rattle.module_graph_meaning.specs.Walks.{Dependencies}
use Rattle.module_graph_meaning.specs.Subject.{Subject}
use Rattle.turn_meaning.specs.Passes.{Pass, Takes, MayGive, after_turn}
use Rattle.board_meaning.specs.Events.{Event, Entry, History, library_after, entry_of}
use Rattle.board_meaning.specs.Machine.{Job, edit_event, edit_reply, claim_reply, report_reply, answers_reply, event_of, Call, EditCall, ClaimCall, may_call, after_call}
use Rattle.board_meaning.specs.Legal.{IsLegal}
use Rattle.board_meaning.specs.Points.{number_of, are_below, IsPoint, is_made, is_verdict, Makes, Reports, AsksAnswers, EditReply, ClaimReply, ReportReply, AnswersReply}
use Rattle.edit_log.specs.Readings.{read_edited, IsAnswer}
use Rattle.edit_log.specs.declared.answers.Edited.{Edited}
use Rattle.edit_log.specs.declared.answers.EditFault.{EditFault}
use Rattle.edit_log.specs.declared.answers.EditFault.TheVariants.{Full, TooLong, TooMany, Memory}
use Rattle.module_graph.specs.Subjects.{IsGiven, read_answers}
use Rattle.verdict_board.specs.Readings.{read_told, read_job}
use Rattle.verdict_board.specs.declared.replies.Told.{Told}
use Rattle.board_seats.specs.Replies.{read_edit_reply, read_claim, read_report, read_question}
use Rattle.board_seats.specs.Seats.{IsRepliedTo, IsCalled, LooksAt, MayEnd, IsGivenAtClaim}
use Rattle.board_seats.proofs.Turns.{may_edit, may_claim, may_give, may_give_same, sees, keeps, made, told, wanted}
use Rattle.board_seats.proofs.Ending.{handed_out, before_claim}

module _ {Lock : Type 0} (before : Pass Lock Entry) (point : History) (taken : Pass Lock Entry) (takes : Takes number_of before point taken) (number : ℕ) (same : number ≡ taken.number) (after : History) where
  -- a call that made its entry, or left the board as it was at an error
  pub may_give_result : {Value Error : Type 0} (dependencies : Dependencies) (call : Call) (result : Result Value Error)
      → OnOk result (after ≡ after_call dependencies point number call) → OnErr result (after ≡ point) → MayGive number_of taken after
  may_give_result dependencies call (Ok value) a left = may_give before point taken takes dependencies call number same after a
  may_give_result dependencies call (Err error) a left = may_give_same before point taken takes after left

  module _ (given : Pass Lock Entry) (idle : before.has_turn ≡ false) (gives : given ≡ after_turn taken after) {Meaning : Type 0} (subject : Subject Meaning) (legal : IsLegal subject.dependencies point) where
    -- an edit that the log refuses makes no entry
    refused : (edit : Edit) → edit_event edit (edit_reply point edit) ≡ None → after ≡ point → after ≡ after_call subject.dependencies point number (EditCall edit)
    unfolding after_call event_of
    refused edit h a = a ∙ sym (ap (λ (o : Option Event). point ++ option_to_list (option_map (entry_of point number) o)) h ∙ append-nil point)

    pub edited : (edit : Edit) (result : Result Edited EditFault) → before.number ≡ 0
        → IsAnswer result (edit_reply point edit) → OnOk result (after ≡ after_call subject.dependencies point number (EditCall edit)) → OnErr result (after ≡ point)
        → IsCalled subject before (Makes (EditCall edit)) (read_edit_reply result) given
    edited edit result zero r a left = by result r a left
      where
        may : may_call point before.number (EditCall edit) ≡ true
        may = may_edit point before.number edit zero

        told_so : (answer : log.Edited) → edit_reply point edit ≡ answer → after ≡ after_call subject.dependencies point number (EditCall edit)
            → IsRepliedTo subject before (Makes (EditCall edit)) (EditReply answer) given
        told_so answer e h = made before point taken takes after given idle gives subject legal (EditCall edit) (EditReply answer) number same may (ap EditReply (sym e)) h

        by : (result : Result Edited EditFault) → IsAnswer result (edit_reply point edit) → OnOk result (after ≡ after_call subject.dependencies point number (EditCall edit)) → OnErr result (after ≡ point)
            → IsCalled subject before (Makes (EditCall edit)) (read_edit_reply result) given
        by (Ok value) r a left = told_so (read_edited value) r a
        by (Err Full) r a left = told_so log.Full r (refused edit (ap (edit_event edit) r) left)
        by (Err TooLong) r a left = told_so log.TooLong r (refused edit (ap (edit_event edit) r) left)
        by (Err TooMany) r a left = told_so log.TooMany r (refused edit (ap (edit_event edit) r) left)
        by (Err Memory) r a left = wanted before point taken takes after given idle gives subject legal (Makes (EditCall edit)) may (ap is_made r.1) left

    module _ {Answer Error : Type 0} (meaning : Answer → Meaning) where
      pub claimed : (result : Result (Option (Job Answer)) Error) → IfOk result (λ job. option_map (read_job meaning) job ≡ claim_reply subject point)
          → OnOk result (after ≡ after_call subject.dependencies point number ClaimCall) → OnErr result (after ≡ point)
          → IsCalled subject before (Makes ClaimCall) (read_claim meaning result) given
      claimed (Ok job) r a left =
          made before point taken takes after given idle gives subject legal ClaimCall (ClaimReply (option_map (read_job meaning) job)) number same (may_claim point before.number) (ap ClaimReply r) a
      claimed (Err error) r a left = wanted before point taken takes after given idle gives subject legal (Makes ClaimCall) (may_claim point before.number) refl left

      -- the job that was claimed may be ended, and was given with the library that the claim found
      pub handed : (result : Result (Option (Job Answer)) Error) → IfOk result (λ job. option_map (read_job meaning) job ≡ claim_reply subject point)
          → OnOk result (after ≡ after_call subject.dependencies point number ClaimCall)
          → IfOk result (λ job. IfSome job (λ j. MayEnd subject given.seen given.number (read_job meaning j)))
      handed (Ok None) r a = tt
      handed (Ok (Some job)) r a =
          subst (λ (pass : ℕ). MayEnd subject given.seen pass (read_job meaning job)) (same ∙ sym (ap (λ (p : Pass Lock Entry). p.number) gives))
          (subst (λ (h : History). MayEnd subject h number (read_job meaning job)) (sym (sees before point taken takes after given idle gives ∙ a))
          (handed_out subject point number (read_job meaning job) legal (sym r)))
      handed (Err error) r a = tt

      pub given_then : (result : Result (Option (Job Answer)) Error) → IfOk result (λ job. option_map (read_job meaning) job ≡ claim_reply subject point)
          → OnOk result (after ≡ after_call subject.dependencies point number ClaimCall)
          → IfOk result (λ job. IfSome job (λ j. IsGiven subject j.name j.text (read_job meaning j).answers (library_after point)))
          → IfOk result (λ job. IfSome job (λ j. IsGivenAtClaim subject given.seen (read_job meaning j)))
      given_then (Ok None) r a g = tt
      given_then (Ok (Some job)) r a g =
          subst (λ (h : History). IsGiven subject job.name job.text (read_job meaning job).answers (library_after h))
          (sym (ap (take job.claim) (sees before point taken takes after given idle gives ∙ a) ∙ before_claim subject point number (read_job meaning job) (sym r))) g
      given_then (Err error) r a g = tt

module _ {Lock : Type 0} (before : Pass Lock Entry) (point : History) (taken : Pass Lock Entry) (takes : Takes number_of before point taken) (after : History) (given : Pass Lock Entry) (idle : before.has_turn ≡ false) (gives : given ≡ after_turn taken after) where
  module _ {Meaning : Type 0} (subject : Subject Meaning) (legal : IsLegal subject.dependencies point) {Answer Error : Type 0} (meaning : Answer → Meaning) (same : after ≡ point) where
    pub reported : (name : Name) (result : Result (Told Answer) Error) → IfOk result (λ told. read_told meaning told ≡ report_reply subject point name)
        → OnErr result (is_verdict (report_reply subject point name) ≡ true) → IsCalled subject before (Reports name) (read_report meaning result) given
    reported name (Ok value) r m = told before point taken takes after given idle gives subject legal (Reports name) (ReportReply (read_told meaning value)) refl (ap ReportReply r) refl same
    reported name (Err error) r m = wanted before point taken takes after given idle gives subject legal (Reports name) refl m same

    pub asked : (name : Name) (result : Result (Option (List (Name × Option Answer))) Error) → IfOk result (λ answers. option_map (read_answers meaning) answers ≡ answers_reply subject point name)
        → IsCalled subject before (AsksAnswers name) (read_question meaning result) given
    asked name (Ok answers) r = told before point taken takes after given idle gives subject legal (AsksAnswers name) (AnswersReply (option_map (read_answers meaning) answers)) refl (ap AnswersReply r) refl same
    asked name (Err error) r = wanted before point taken takes after given idle gives subject legal (AsksAnswers name) refl refl same

  -- the pass has looked at the board, which is given back as it was
  pub looked : (dependencies : Dependencies) → IsLegal dependencies point → after ≡ point → LooksAt dependencies before given
  looked dependencies legal same =
      let at = sees before point taken takes after given idle gives ∙ same in
      record {
        keeps = keeps before point taken takes after given idle gives;
        at_point = subst (IsPoint dependencies before.seen before.number) (sym at) (record { goes_on = takes.goes_on; legal = legal });
        below = λ zero. subst (λ (h : History). are_below before.made h ≡ true) (sym at) (takes.below zero);
      }
