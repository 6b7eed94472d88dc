use Rattle.std.proofs.Common.{◌∙◌}
use Rattle.mmt_syntax.specs.Readings.{read_module}
use Rattle.mmt_syntax.proofs.Unlabelled.{left_unlabelled}
use Rattle.mmt_syntax.proofs.dep_iter.deps.Goals as goal

pub returns : goal.returns
returns c = c.all_deps.ensures ∙ left_unlabelled (read_module c.args.«module».now)
