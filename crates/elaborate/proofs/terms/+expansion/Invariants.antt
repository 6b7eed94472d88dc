use Rattle.std.proofs.Common.{◌≡◌, ◌+◌, ◌*◌, take, Ok}
use Rattle.translation_meaning.specs.Heads.{Head}
use Rattle.elaborate_meaning.specs.Expansion.{expand_arguments}
use Rattle.mmt_syntax.specs.Readings.{read_expr, read_arguments}
use Rattle.elaborate.specs.Contexts.{locals_of, scope_of}
use Rattle.elaborate.specs.HeadStates.{Stands}
use Rattle.elaborate.specs.Steps.{written_of}
use Rattle.mmt_syntax.proofs.Nodes.{size, args_size, written_size}
use Rattle.elaborate.proofs.terms.+expansion.Given as goal

-- The head so far is what the arguments so far give.
abbrev pub invariant-with_arguments-loop-argument : goal.invariant-with_arguments-loop-argument
invariant-with_arguments-loop-argument l =
    (begun : Head) → Stands l.fn.first begun
    → (now : Head) × (expand_arguments (scope_of l.context) (locals_of l.context) (read_arguments (take l.argument-index l.args)) begun ≡ Ok now) × Stands l.head now

-- Four times the size, and a rank among the calls on one expression.
abbrev pub decreases-object : goal.decreases-object
decreases-object l = 4 * size (read_expr l.expr.now) + 3

abbrev pub decreases-applied : goal.decreases-applied
decreases-applied l = 4 * size (read_expr l.expr.now) + 1

abbrev pub decreases-written_domain : goal.decreases-written_domain
decreases-written_domain l = 4 * written_size (written_of l.written.now) + 4

abbrev pub decreases-head : goal.decreases-head
decreases-head l = 4 * size (read_expr l.expr.now)

abbrev pub decreases-with_arguments : goal.decreases-with_arguments
decreases-with_arguments l = 4 * args_size (read_arguments l.args.now) + 1

abbrev pub decreases-with_argument : goal.decreases-with_argument
decreases-with_argument l = 4 * size (read_expr l.argument.now) + 4

abbrev pub decreases-family : goal.decreases-family
decreases-family l = 4 * size (read_expr l.expr.now) + 3

abbrev pub decreases-applied_family : goal.decreases-applied_family
decreases-applied_family l = 4 * size (read_expr l.expr.now) + 1

abbrev pub decreases-product : goal.decreases-product
decreases-product l = 4 * (size (read_expr l.dom.now) + size (read_expr l.body.now)) + 4
