use Rattle.std.proofs.Common.{◌≡◌, IfOk, Result, Ok, ap, ◌∙◌, subst}
use Rattle.lf_terms.specs.declared.Memory.{Memory}
use Rattle.board_meaning.specs.Machine.{report_reply}
use Rattle.verdict_meaning.specs.Rounds.{modules}
use Rattle.mmt_interface.specs.Readings.{read_verdict}
use Rattle.mmt_interface.specs.declared.verdict.Verdict.{Verdict}
use Rattle.verdict_board.specs.Readings.{read_told}
use Rattle.verdict_board.specs.declared.replies.Told.{Told}
use Rattle.board_front.proofs.Tellings.{absent_stands, absent_told, verdict_stands, verdict_told}
use Rattle.board_front.proofs.verdict.told_now.Goals as goal

pub returns-in-Verdict-clause-told : goal.returns-in-Verdict-clause-told
returns-in-Verdict-clause-told g c =
    let told = subst (λ (r : Result (Told Verdict) Memory). IfOk r (λ told. read_told read_verdict told ≡ report_reply modules c.report.new.pass.seen c.args.name.now)) (c.in_ok-answer.was ∙ ap Ok c.in-Verdict.is) c.report.ensures.told in (
      verdict_told c.report.new.pass.seen c.args.name.now c.in-Verdict.answer c.in-Verdict.version told,
      verdict_stands c.report.new.pass.seen c.args.name.now c.in-Verdict.answer c.in-Verdict.version told,
    )

pub returns-in-Absent-clause-told : goal.returns-in-Absent-clause-told
returns-in-Absent-clause-told g c =
    let told = subst (λ (r : Result (Told Verdict) Memory). IfOk r (λ told. read_told read_verdict told ≡ report_reply modules c.report.new.pass.seen c.args.name.now)) (c.in_ok-answer.was ∙ ap Ok c.in-Absent.is) c.report.ensures.told in (
      absent_told c.report.new.pass.seen c.args.name.now c.in-Absent.version told,
      absent_stands c.report.new.pass.seen c.args.name.now c.in-Absent.version told,
    )
