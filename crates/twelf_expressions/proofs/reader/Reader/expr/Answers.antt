use Rattle.std.proofs.Common.{◌≤◌, subst, sym, ap, length, ◌∙◌}
use Rattle.std.specs.Result.{OnOk}
use Rattle.text_meaning.specs.Parsing.{Ends, answer_on, at_expr, purpose_ends}
use Rattle.mmt_syntax.specs.Readings.{read_expr}
use Rattle.twelf_expressions.specs.Left.{left}
use Rattle.twelf_expressions.specs.Going.{Goes, answer_with}
use Rattle.twelf_expressions.proofs.Moves.{goes_from}
use Rattle.twelf_expressions.proofs.reader.Reader.expr.Goals as goal

pub returns-clause-goes : goal.returns-clause-goes
returns-clause-goes c = λ p.
    let before = answer_on (at_expr 1 (Ends p)) (left c.args.self.now) in
    let same = ap (answer_on (at_expr 1 (Ends p))) (sym c.stack-stack.ensures.same) ∙ ap (λ s. answer_on s (left c.stack-stack.new.self)) (sym (c.stack-stack.ensures.begins (Ends p))) in
    subst (λ ts. Goes before c.tree-tree.result (λ e. answer_with (λ t. purpose_ends p (read_expr e) t.kind) ts)) (sym c.put_back.ensures)
    (goes_from c.tree-tree.result _ _ _ same (c.tree-tree.ensures.goes p))

pub returns-clause-less : goal.returns-clause-less
returns-clause-less c =
    subst (λ ts. OnOk c.tree-tree.result (length ts ≤ length (left c.args.self.now))) (sym c.put_back.ensures)
    (subst (λ ts. OnOk c.tree-tree.result (length (left c.tree-tree.new.self) ≤ length ts)) c.stack-stack.ensures.same c.tree-tree.ensures.less)
