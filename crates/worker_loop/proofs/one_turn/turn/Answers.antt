use Rattle.std.proofs.Common.{sym, ◌∙◌, subst}
use Rattle.board_meaning.specs.Turns.{Turns}
use Rattle.verdict_board.specs.Readings.{read_installed}
use Rattle.worker_loop.specs.declared.one_turn.TurnEnd.{TurnEnd}
use Rattle.worker_loop.specs.Ends.{read_end}
use Rattle.worker_loop.proofs.Steps.{ends_closed, ends_idle, ends_worked, ends_released, judged}
use Rattle.worker_loop.proofs.one_turn.turn.Goals.{then-closed, else-closed}
use Rattle.worker_loop.proofs.one_turn.turn.Goals as goal

pub returns-in-None-clause-ends : goal.returns-in-None-clause-ends
returns-in-None-clause-ends g c =
    elim c.if-closed.branch [
      | then-closed w ↦ subst (λ (end : TurnEnd). Turns g.S.Subject.subject c.args.pass.now.seen c.args.pass.now.number (read_end end) c.closed.new.pass.seen) (sym w.result-is)
          (ends_closed g.S.Subject.subject g.S.Subject.meaning c.args.pass.now c.claim.new.pass c.closed.new.pass c.in_ok-job.field-0 c.in_ok-job.ensures.called c.closed.result w.if-closed.true c.in-None.is c.closed.ensures)
      | else-closed w ↦ subst (λ (end : TurnEnd). Turns g.S.Subject.subject c.args.pass.now.seen c.args.pass.now.number (read_end end) c.closed.new.pass.seen) (sym w.result-is)
          (ends_idle g.S.Subject.subject g.S.Subject.meaning c.args.pass.now c.claim.new.pass c.closed.new.pass c.in_ok-job.field-0 c.in_ok-job.ensures.called c.closed.result w.if-closed.false c.in-None.is c.closed.ensures)
    ]

pub returns-in-Err-clause-wants : goal.returns-in-Err-clause-wants
returns-in-Err-clause-wants g c =
    ends_released g.S.Subject.subject g.S.Subject.meaning c.args.pass.now c.claim.new.pass c.release.new.pass c.in_ok-job.field-0 c.in_ok-job.ensures.called c.in-Some.job c.in-Some.is c.release.ensures

pub returns-in-Err-judge-clause-wants : goal.returns-in-Err-judge-clause-wants
returns-in-Err-judge-clause-wants g c =
    ends_released g.S.Subject.subject g.S.Subject.meaning c.args.pass.now c.claim.new.pass c.release-in-Err-judge.new.pass c.in_ok-job.field-0 c.in_ok-job.ensures.called c.in-Some.job c.in-Some.is c.release-in-Err-judge.ensures

pub install-how-requires-clause-verdict : goal.install-how-requires-clause-verdict
install-how-requires-clause-verdict g c κs within =
    judged g.S.Subject.subject g.S.Subject.meaning c.in-Some.job.name c.in-Ok.name c.in-Some.job.text c.text.result.now c.in-Some.job.answers c.answers.result.now c.in-Ok-judge.verdict
    (c.in-Ok.ensures ∙ c.name.ensures) c.text.ensures.text c.answers.ensures c.in-Ok-judge.ensures.answer

pub returns-clause-ends : goal.returns-clause-ends
returns-clause-ends g c =
    ends_worked g.S.Subject.subject g.S.Subject.meaning c.args.pass.now c.claim.new.pass c.install-how.new.pass c.in_ok-job.field-0 c.in_ok-job.ensures.called c.in-Some.job c.in-Some.is
    c.in-Ok.name (read_installed c.install-how.result) (c.in-Ok.ensures ∙ c.name.ensures) c.install-how.ensures.called
