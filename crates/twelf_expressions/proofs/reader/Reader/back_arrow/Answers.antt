use Rattle.std.proofs.Common.{◌+◌, refl, sym, ap, ◌∙◌, true≢false}
use Rattle.text_meaning.specs.Parsing.{AtOperand, NoAtoms, Ends, ObjectOf, answer_on, back_move, is_refused}
use Rattle.twelf_expressions.specs.Left.{left}
use Rattle.twelf_expressions.specs.Frames.{read_row, read_atoms, waiting}
use Rattle.twelf_expressions.proofs.Moves.{stopped, took_operand}
use Rattle.twelf_expressions.proofs.Frames.{back_moves, back_row, back_row_is, spelled_in_row, same_state}
use Rattle.twelf_expressions.proofs.reader.Reader.back_arrow.Goals as goal

pub returns-in_err-level-clause-goes : goal.returns-in_err-level-clause-goes
returns-in_err-level-clause-goes c = λ k.
    let o = c.args.stack.now.operand in
    let w = waiting k c.args.stack.now.frames.items in
    let xs = read_atoms o.atoms in
    let u = AtOperand (o.level.n + 1) (back_row (read_row o.row) xs) NoAtoms w in
    let taken = took_operand o.level.n (read_row o.row) xs w u o.level.within c.take.ensures.takes
    (back_moves o.level.n (read_row o.row) xs w (c.if-not-takes_back_arrow.ensures o.level.n w)) refl in
    stopped c.from_residual.result _ _ c.from_residual.ensures.1 taken (c.in_err-level.ensures.fault (back_row (read_row o.row) xs) w)

pub unreachable-requires : goal.unreachable-requires
unreachable-requires c =
    let o = c.args.stack.now.operand in
    let none = ap (λ a. is_refused (back_move 0 (read_row o.row) (read_atoms a) (Ends ObjectOf))) (sym c.take-2.ensures.value ∙ c.in-None.is) in
    true≢false (sym none ∙ c.if-not-takes_back_arrow.ensures 0 (Ends ObjectOf))

pub returns-clause-goes : goal.returns-clause-goes
returns-clause-goes c = λ k.
    let o = c.args.stack.now.operand in
    let w = waiting k c.args.stack.now.frames.items in
    let xs = read_atoms o.atoms in
    let u = AtOperand (o.level.n + 1) (back_row (read_row o.row) xs) NoAtoms w in
    let next = c.next.new.self in
    let row = c.in_ok-row-in-Some.row in
    let spelled = spelled_in_row c.replace-so_far.result o.row c.in-Some.atoms c.in_ok-operand-in-Some.operand row c.replace-so_far.ensures.value c.in_ok-operand-in-Some.ensures c.in_ok-row-in-Some.ensures in
    let is = back_row_is o.row o.atoms c.in-Some.atoms row (sym c.take-2.ensures.value ∙ c.in-Some.is) spelled in
    took_operand o.level.n (read_row o.row) xs w u o.level.within c.take.ensures.takes
    (back_moves o.level.n (read_row o.row) xs w (c.if-not-takes_back_arrow.ensures o.level.n w)) refl
    ∙ ap (λ x. answer_on x (left c.take.new.self))
    (same_state (o.level.n + 1) next.level.n (back_row (read_row o.row) xs) (read_row next.row) NoAtoms (read_atoms next.atoms) w w
    (sym (c.next.ensures.level ∙ c.in_ok-level.ensures.ok)) (is ∙ ap read_row (sym c.next.ensures.row)) (ap read_atoms (sym c.next.ensures.atoms)) refl)
