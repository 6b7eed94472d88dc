use Rattle.std.proofs.Common.{false}
use Rattle.std.proofs.lemmas.Result.{IfOk-weaker}
use Rattle.text_meaning.specs.Reading.{ModuleText}
use Rattle.text_meaning.specs.TextAnswers as texts
use Rattle.verdict_meaning.specs.Verdicts as meaning
use Rattle.mmt_interface.specs.Readings.{environment_of, read_verdict}
use Rattle.module_check.proofs.Judged.{judged_text}
use Rattle.module_check.proofs.verdicts.verdict.Goals as goal

pub returns : goal.returns
returns c =
    let environment = environment_of c.args.faces.now in
    IfOk-weaker c.verdict_by.result _ _
    (λ v h ungrounded e. judged_text environment ungrounded c.args.name.now c.args.text.now (read_verdict v) e (h (meaning.judge_answer environment (λ other. false) c.args.name.now (texts.read ModuleText c.args.text.now)) c.interface.ensures))
    c.verdict_by.ensures
