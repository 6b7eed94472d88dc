use Rattle.term_trees.specs.Readings.{read_kind}
use Rattle.elaborate.proofs.OutcomesStand.{product_left}
use Rattle.elaborate.proofs.outcomes.long_family.Goals as goal

pub returns-in-Pi : goal.returns-in-Pi
returns-in-Pi c = product_left (read_kind c.args.kind.now) c.args.outcome c.in-Pi.field-0 c.in-Pi.field-1 c.in-Pi.is
