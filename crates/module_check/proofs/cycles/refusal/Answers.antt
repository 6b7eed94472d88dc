use Rattle.std.proofs.Common.{◌∙◌, sym, ap, subst}
use Rattle.name_meaning.specs.Names.{is_among}
use Rattle.text_meaning.specs.Reading.{ModuleText}
use Rattle.text_meaning.specs.TextAnswers as texts
use Rattle.library_meaning.specs.Faces.{IsAbsent}
use Rattle.verdict_meaning.specs.Verdicts.{judge_answer, judge_tree}
use Rattle.mmt_syntax.specs.Readings.{read_module}
use Rattle.link_setting.specs.Answers.{IsFirstRefusal}
use Rattle.module_check.proofs.Judged.{unread_refused}
use Rattle.module_check.proofs.cycles.refusal.Goals as goal

pub returns-in-Ok : goal.returns-in-Ok
returns-in-Ok c =
    subst (IsFirstRefusal c.cycle.result)
    (sym (ap (judge_answer (λ other. IsAbsent) (is_among c.args.bad.now) c.args.name.now) c.in-Ok.ensures
    ∙ ap (judge_tree (λ other. IsAbsent) (is_among c.args.bad.now) c.args.name.now (read_module c.in-Ok.module)) c.requires.among))
    c.cycle.ensures

pub returns-in-Err : goal.returns-in-Err
returns-in-Err c = unread_refused (λ other. IsAbsent) (is_among c.args.bad.now) c.args.name.now c.in-Err.fault c.unread.result (texts.read ModuleText c.args.text.now) c.in-Err.ensures c.unread.ensures
