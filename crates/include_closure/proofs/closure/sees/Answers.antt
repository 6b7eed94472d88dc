use Rattle.std.proofs.Common.{◌∙◌}
use Rattle.name_laws.proofs.Contained.{contained_among}
use Rattle.include_closure.proofs.closure.sees.Goals as goal

pub returns : goal.returns
returns c = rw (← c.as_slice.ensures) (c.contains.ensures.value ∙ contained_among c.as_slice.result.now c.args.theory.now)
