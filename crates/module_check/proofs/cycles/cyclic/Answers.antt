use Rattle.std.proofs.lemmas.Result.{IfOk-weaker}
use Rattle.name_meaning.specs.Names.{is_among}
use Rattle.text_meaning.specs.Reading.{ModuleText}
use Rattle.text_meaning.specs.TextAnswers as texts
use Rattle.library_meaning.specs.Faces.{IsAbsent}
use Rattle.verdict_meaning.specs.Verdicts.{judge_answer}
use Rattle.mmt_interface.specs.Readings.{read_verdict}
use Rattle.module_check.proofs.Cyclic.{bad_ascending, among_bad, cyclic_given}
use Rattle.module_check.proofs.cycles.cyclic.Goals as goal

pub refusal-fault-requires-clause-ascending : goal.refusal-fault-requires-clause-ascending
refusal-fault-requires-clause-ascending c = bad_ascending c.args.name.now c.args.text.now c.args.bad.now c.requires.given.0 c.requires.given.1

pub refusal-fault-requires-clause-among : goal.refusal-fault-requires-clause-among
refusal-fault-requires-clause-among c = among_bad c.args.name.now c.args.text.now c.args.bad.now c.requires.given.0 c.requires.given.1

pub returns : goal.returns
returns c =
    IfOk-weaker c.verdict_by.result _ _
    (λ v h library given. cyclic_given c.args.name.now c.args.text.now c.args.bad.now library given (read_verdict v)
    (h (judge_answer (λ other. IsAbsent) (is_among c.args.bad.now) c.args.name.now (texts.read ModuleText c.args.text.now)) c.refusal-fault.ensures))
    c.verdict_by.ensures
