use Rattle.std.proofs.Common.{false, sym, ap, subst}
use Rattle.text_meaning.specs.Reading.{ModuleText}
use Rattle.text_meaning.specs.TextAnswers as texts
use Rattle.verdict_meaning.specs.Verdicts as meaning
use Rattle.mmt_interface.specs.Readings.{environment_of, read_interface}
use Rattle.link_setting.specs.Answers.{Links}
use Rattle.module_check.proofs.Judged.{unread_refused}
use Rattle.module_check.proofs.verdicts.interface.Goals as goal

pub returns-in-Ok : goal.returns-in-Ok
returns-in-Ok c = subst (Links read_interface c.tested.result) (sym (ap (meaning.judge_answer (environment_of c.args.faces.now) (λ other. false) c.args.name.now) c.in-Ok.ensures)) c.tested.ensures

pub returns-in-Err : goal.returns-in-Err
returns-in-Err c = unread_refused (environment_of c.args.faces.now) (λ other. false) c.args.name.now c.in-Err.fault c.unread.result (texts.read ModuleText c.args.text.now) c.in-Err.ensures c.unread.ensures
