use Rattle.std.proofs.Common.{◌≡◌, ◌+◌, ◌++◌, take, false}
use Rattle.mmt_syntax.specs.Readings.{read_expr, read_arguments, expressions_of}
use Rattle.print_meaning.specs.PrintedItems.{space, text_of}
use Rattle.print_meaning.specs.PrintedExpressions.{args_items}
use Rattle.mmt_syntax.proofs.Nodes.{size, args_size}
use Rattle.twelf_print.proofs.expressions.+printing.Given as goal

-- the arguments so far, each with a space behind it
abbrev pub invariant-arguments-loop-arg : goal.invariant-arguments-loop-arg
invariant-arguments-loop-arg l = l.out ≡ l.initial.out ++ text_of (args_items false (read_arguments (take l.arg-index l.others)) space)

-- the size of what is written
abbrev pub decreases-expression : goal.decreases-expression
decreases-expression l = size (read_expr l.expr.now)

abbrev pub decreases-application : goal.decreases-application
decreases-application l = 1 + (size (read_expr l.head.now) + args_size (read_arguments (expressions_of l.args.now)))

abbrev pub decreases-arguments : goal.decreases-arguments
decreases-arguments l = args_size (read_arguments (expressions_of l.args.now))

abbrev pub decreases-product : goal.decreases-product
decreases-product l = 1 + (size (read_expr l.dom.now) + size (read_expr l.body.now))

abbrev pub decreases-lambda : goal.decreases-lambda
decreases-lambda l = 1 + size (read_expr l.body.now)

abbrev pub decreases-typed_lambda : goal.decreases-typed_lambda
decreases-typed_lambda l = 1 + (size (read_expr l.dom.now) + size (read_expr l.body.now))

abbrev pub decreases-arrow : goal.decreases-arrow
decreases-arrow l = 1 + (size (read_expr l.dom.now) + size (read_expr l.body.now))

abbrev pub decreases-back_arrow : goal.decreases-back_arrow
decreases-back_arrow l = 1 + (size (read_expr l.body.now) + size (read_expr l.dom.now))
