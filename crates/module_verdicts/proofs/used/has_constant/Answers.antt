use Rattle.std.proofs.Common.{◌∙◌}
use Rattle.module_verdicts.proofs.NamesUsed.{found_constant}
use Rattle.module_verdicts.proofs.used.has_constant.Goals as goal

pub returns : goal.returns
returns c = c.is_some.ensures ∙ found_constant c.args.here.now c.in_ok-constant.constant c.args.name.now c.get.result c.requires c.in_ok-constant.ensures c.get.ensures.meaning
