use Rattle.std.proofs.Common.{ap₂, sym, ◌∙◌}
use Rattle.std.proofs.lemmas.Result.{err_from_is_err_and}
use Rattle.judged_meaning.specs.Carrying.{CarriedTo}
use Rattle.term_trees.specs.Readings.{read_family, read_object}
use Rattle.mmt_syntax.specs.Readings.{read_judgement}
use Rattle.mmt_interface.specs.Readings.{environment_of, read_theory, read_view}
use Rattle.judgement_carrying.proofs.CarriedJudgements.{family_ill, object_ill, object_carried, family_images, object_images}
use Rattle.judgement_carrying.proofs.carrying.carried.Goals as goal

pub returns-in_err-family : goal.returns-in_err-family
returns-in_err-family c =
    let environment = environment_of c.args.faces.now in
    let p = err_from_is_err_and c.from_residual.result c.from_residual.ensures.1 in
    rw (p.1, p.2) (family_ill environment (read_view c.args.view.now) (read_theory c.args.source.now) (read_judgement c.args.judgement.now) c.in_err-family.field-0.0 c.in_err-family.ensures)

pub returns-in_err-object : goal.returns-in_err-object
returns-in_err-object c =
    let environment = environment_of c.args.faces.now in
    let p = err_from_is_err_and c.from_residual-in_err-object.result c.from_residual-in_err-object.ensures.1 in
    rw (p.1, p.2) (object_ill environment (read_view c.args.view.now) (read_theory c.args.source.now) (read_judgement c.args.judgement.now) (read_family c.in_ok-family.family) c.in_ok-family.ensures c.in_err-object.field-0.0 c.in_err-object.ensures)

pub translated-requires-clause-object : goal.translated-requires-clause-object
translated-requires-clause-object c =
    object_images (environment_of c.args.faces.now) (read_view c.args.view.now) (read_theory c.args.source.now) (read_judgement c.args.judgement.now) (read_family c.in_ok-family.family) c.in_ok-family.ensures
    c.requires.scope c.requires.map (read_object c.in_ok-object.object) c.in_ok-object.ensures

pub translated-requires-clause-family : goal.translated-requires-clause-family
translated-requires-clause-family c =
    family_images (environment_of c.args.faces.now) (read_view c.args.view.now) (read_theory c.args.source.now) (read_judgement c.args.judgement.now) (read_family c.in_ok-family.family) c.in_ok-family.ensures
    c.requires.scope c.requires.map

pub returns : goal.returns
returns c =
    object_carried (environment_of c.args.faces.now) (read_view c.args.view.now) (read_theory c.args.source.now) (read_judgement c.args.judgement.now) (read_family c.in_ok-family.family) c.in_ok-family.ensures
    (read_object c.in_ok-object.object) c.in_ok-object.ensures
    ∙ ap₂ CarriedTo (sym c.in_ok-translated.ensures.object) (sym c.in_ok-translated.ensures.family)
