use Rattle.std.proofs.Common.{◌+◌, refl, sym, ap, ◌∙◌, true≢false}
use Rattle.text_meaning.specs.Parsing.{AtOperand, AfterArrow, NoAtoms, Ends, ObjectOf, answer_on, arrow_move, is_refused}
use Rattle.twelf_expressions.specs.Left.{left}
use Rattle.twelf_expressions.specs.Frames.{read_row, read_atoms, waiting}
use Rattle.twelf_expressions.specs.declared.frame.Frame.TheVariants.{Codomain}
use Rattle.twelf_expressions.proofs.Moves.{one_more_waits, stopped, took_operand}
use Rattle.twelf_expressions.proofs.Frames.{arrow_moves, codomain_of, codomain_is, same_state}
use Rattle.twelf_expressions.proofs.reader.Reader.arrow.Goals as goal

pub returns-in_err-level-clause-goes : goal.returns-in_err-level-clause-goes
returns-in_err-level-clause-goes c = λ k.
    let o = c.args.stack.now.operand in
    let w = waiting k c.args.stack.now.frames.items in
    let xs = read_atoms o.atoms in
    let u = AtOperand (o.level.n + 1) AfterArrow NoAtoms (codomain_of xs w) in
    let taken = took_operand o.level.n (read_row o.row) xs w u o.level.within c.take.ensures.takes
    (arrow_moves o.level.n (read_row o.row) xs w (c.if-not-takes_arrow.ensures o.level.n w)) refl in
    stopped c.from_residual.result _ _ c.from_residual.ensures.1 taken (c.in_err-level.ensures.fault AfterArrow (codomain_of xs w))

pub unreachable-requires : goal.unreachable-requires
unreachable-requires c =
    let o = c.args.stack.now.operand in
    let none = ap (λ a. is_refused (arrow_move 0 (read_row o.row) (read_atoms a) (Ends ObjectOf))) (sym c.take-2.ensures.value ∙ c.in-None.is) in
    true≢false (sym none ∙ c.if-not-takes_arrow.ensures 0 (Ends ObjectOf))

pub returns-clause-goes : goal.returns-clause-goes
returns-clause-goes c = λ k.
    let o = c.args.stack.now.operand in
    let w = waiting k c.args.stack.now.frames.items in
    let xs = read_atoms o.atoms in
    let u = AtOperand (o.level.n + 1) AfterArrow NoAtoms (codomain_of xs w) in
    let next = c.next.new.self in
    let dom = c.in_ok-dom-in-Some.dom in
    let is = codomain_is o.atoms c.in-Some.atoms dom w (sym c.take-2.ensures.value ∙ c.in-Some.is) c.in_ok-dom-in-Some.ensures in
    let waits_so = one_more_waits k c.args.stack.now.frames.items c.push.new.self.items (Codomain dom) c.in_ok-push-in-Some.ensures.items in
    took_operand o.level.n (read_row o.row) xs w u o.level.within c.take.ensures.takes
    (arrow_moves o.level.n (read_row o.row) xs w (c.if-not-takes_arrow.ensures o.level.n w)) refl
    ∙ ap (λ x. answer_on x (left c.take.new.self))
    (same_state (o.level.n + 1) next.level.n AfterArrow (read_row next.row) NoAtoms (read_atoms next.atoms) (codomain_of xs w) (waiting k c.push.new.self.items)
    (sym (c.next.ensures.level ∙ c.in_ok-level.ensures.ok)) (ap read_row (sym c.next.ensures.row)) (ap read_atoms (sym c.next.ensures.atoms)) (is ∙ sym waits_so))
