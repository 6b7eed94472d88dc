use Rattle.std.proofs.Common.{◌∙◌, sym, ap, subst}
use Rattle.std.proofs.lemmas.Result.{IfOk-weaker}
use Rattle.name_meaning.specs.Rows.{row_of}
use Rattle.verdict_meaning.specs.Verdicts.{judge}
use Rattle.mmt_interface.specs.CoherentFaces.{AreCoherent}
use Rattle.mmt_interface.specs.Readings.{environment_of, read_verdict}
use Rattle.module_check.proofs.AnsweredFaces.{answered_coherent, itself_absent}
use Rattle.module_check.proofs.Judged.{judged_given}
use Rattle.module_check.proofs.judging.judged.Goals as goal

pub verdict-requires-clause-coherent : goal.verdict-requires-clause-coherent
verdict-requires-clause-coherent c = subst AreCoherent (sym c.in_ok-faces.ensures) (answered_coherent c.requires.given.0 c.args.name.now c.args.text.now c.args.answers.now c.requires.given.1)

pub verdict-requires-clause-absent : goal.verdict-requires-clause-absent
verdict-requires-clause-absent c = ap (λ rows. row_of rows c.args.name.now) c.in_ok-faces.ensures ∙ itself_absent c.requires.given.0 c.args.name.now c.args.text.now c.args.answers.now c.requires.given.1

pub returns : goal.returns
returns c =
    let name = c.args.name.now in
    let text = c.args.text.now in
    IfOk-weaker c.verdict.result _ _
    (λ v h. judged_given name text c.args.answers.now (read_verdict v) (λ u e. h u e ∙ ap (λ rows. judge (environment_of rows) u name text) c.in_ok-faces.ensures))
    c.verdict.ensures
