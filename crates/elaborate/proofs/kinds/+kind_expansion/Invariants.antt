use Rattle.std.proofs.Common.{◌+◌, ◌*◌}
use Rattle.mmt_syntax.specs.Readings.{read_expr}
use Rattle.mmt_syntax.proofs.Nodes.{size}
use Rattle.elaborate.proofs.kinds.+kind_expansion.Given as goal

-- Twice the size, and a rank among the calls on one expression.
abbrev pub decreases-kind : goal.decreases-kind
decreases-kind l = 2 * size (read_expr l.expr.now) + 1

abbrev pub decreases-product : goal.decreases-product
decreases-product l = 2 * (size (read_expr l.dom.now) + size (read_expr l.body.now)) + 2
