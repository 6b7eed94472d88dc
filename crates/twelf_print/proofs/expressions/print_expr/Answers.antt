use Rattle.std.proofs.Common.{◌∙◌, ap, ◌++◌, true}
use Rattle.mmt_syntax.specs.Readings.{read_expr}
use Rattle.print_meaning.specs.PrintedItems.{tight, text_of}
use Rattle.print_meaning.specs.PrintedExpressions.{expr_items}
use Rattle.print_meaning.specs.PrintedModules.{expr_text}
use Rattle.twelf_print.proofs.PublicClauses.{expr_spells, expr_within, expr_fewest}
use Rattle.twelf_print.proofs.expressions.print_expr.Goals as goal

pub returns-clause-text : goal.returns-clause-text
unfolding expr_text
returns-clause-text c = c.in_ok-expression.ensures.ok ∙ ap (λ t. t ++ text_of (expr_items true (read_expr c.args.expr.now) tight)) c.new-out.ensures

pub returns-clause-spells : goal.returns-clause-spells
unfolding expr_text
returns-clause-spells c = expr_spells (c.in_ok-expression.ensures.ok ∙ ap (λ t. t ++ text_of (expr_items true (read_expr c.args.expr.now) tight)) c.new-out.ensures)

pub returns-clause-within : goal.returns-clause-within
unfolding expr_text
returns-clause-within c = expr_within (c.in_ok-expression.ensures.ok ∙ ap (λ t. t ++ text_of (expr_items true (read_expr c.args.expr.now) tight)) c.new-out.ensures)

pub returns-clause-fewest : goal.returns-clause-fewest
unfolding expr_text
returns-clause-fewest c = expr_fewest (c.in_ok-expression.ensures.ok ∙ ap (λ t. t ++ text_of (expr_items true (read_expr c.args.expr.now) tight)) c.new-out.ensures)
