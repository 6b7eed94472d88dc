use Rattle.std.proofs.Common.{◌≤◌, subst, sym, length}
use Rattle.std.specs.Result.{OnOk}
use Rattle.text_meaning.specs.Parsing.{Ends, answer_on, at_expr}
use Rattle.twelf_expressions.specs.Left.{left}
use Rattle.twelf_expressions.specs.Outlines.{IsBehind, Passes, Stands, at_operand}
use Rattle.twelf_expressions.proofs.reader.Reader.pass_expr.Goals as goal

pub returns-clause-goes : goal.returns-clause-goes
returns-clause-goes c = λ p.
    let before = answer_on (at_expr 1 (Ends p)) (left c.args.self.now) in
    let begins = subst (Stands p at_operand before c.nothing_open-stack.result) (sym c.nothing_open-stack.ensures.same) (c.nothing_open-stack.ensures.begins p) in
    subst (λ ts. Passes before c.pass_operands-passed.result (λ _. IsBehind p before ts)) (sym c.keep_room.ensures) (c.pass_operands-passed.ensures.goes p before begins)

pub returns-clause-less : goal.returns-clause-less
returns-clause-less c =
    subst (λ ts. OnOk c.pass_operands-passed.result (length ts ≤ length (left c.args.self.now))) (sym c.keep_room.ensures)
    (subst (λ ts. OnOk c.pass_operands-passed.result (length (left c.pass_operands-passed.new.self) ≤ length ts)) c.nothing_open-stack.ensures.same c.pass_operands-passed.ensures.less)
