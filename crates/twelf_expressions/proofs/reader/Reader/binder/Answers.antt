use Rattle.std.proofs.Common.{refl, ap, ◌∙◌}
use Rattle.text_meaning.specs.Parsing.{AfterVariable, Square, answer_on}
use Rattle.mmt_syntax.specs.Readings.{read_span, read_binder}
use Rattle.twelf_expressions.specs.Left.{left}
use Rattle.twelf_expressions.specs.Frames.{of_stack, read_atoms, read_brace, read_row, waiting}
use Rattle.twelf_expressions.proofs.Moves.{goes_from, took}
use Rattle.twelf_expressions.proofs.reader.Reader.binder.Goals as goal

pub returns-in-Colon-default-clause-goes : goal.returns-in-Colon-default-clause-goes
returns-in-Colon-default-clause-goes c = λ k.
    let s = c.args.stack.now in
    let o = s.operand in
    let b = read_brace c.args.brace in
    let l = read_span c.args.opening in
    goes_from c.open.result _ _ _
    (c.in_ok-name.ensures.goes b l o.level.n (read_row o.row) (read_atoms o.atoms) (waiting k s.frames.items)
    ∙ took (of_stack (AfterVariable b l (read_binder c.in_ok-name.name)) s k) _ c.take.ensures.takes refl refl refl)
    (c.open.ensures k)

pub returns-in-RBracket-Square-clause-goes : goal.returns-in-RBracket-Square-clause-goes
returns-in-RBracket-Square-clause-goes c = λ k.
    let s = c.args.stack.now in
    let o = s.operand in
    let l = read_span c.args.opening in
    let x = read_binder c.in_ok-name.name in
    let square = ap (λ b. answer_on (of_stack (AfterVariable (read_brace b) l x) s k) (left c.variable.new.self)) c.in-RBracket-Square.is-1 in
    goes_from c.open-in-RBracket-Square.result _ _ _
    (c.in_ok-name.ensures.goes (read_brace c.args.brace) l o.level.n (read_row o.row) (read_atoms o.atoms) (waiting k s.frames.items)
    ∙ square ∙ took (of_stack (AfterVariable Square l x) s k) _ c.take-in-RBracket-Square.ensures.takes refl refl refl)
    (c.open-in-RBracket-Square.ensures k)
