use Rattle.board_front.proofs.Checked.{within_limit}
use Rattle.generator_front.proofs.settle.most_modules.Goals as goal

pub returns : goal.returns
returns c = within_limit c.args.log.now c.version.ensures.limits
