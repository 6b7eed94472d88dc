use Rattle.term_trees.specs.Readings.{read_context, read_family, read_map, read_object, read_signature}
use Rattle.translation_typing.proofs.Laws.{typing_is_carried}
use Rattle.lf_laws.proofs.translation.law_translate.Goals as goal

pub returns : goal.returns
returns c = λ typed judgement.
    typing_is_carried (read_signature c.args.from.now) (read_signature c.args.to.now) (read_map c.args.map.now) (read_context c.args.ctx.now) (read_object c.args.obj.now) (read_family c.args.fam.now) typed judgement
