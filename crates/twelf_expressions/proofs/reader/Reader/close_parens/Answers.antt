use Rattle.std.proofs.Common.{refl, sym, ap, ◌∙◌}
use Rattle.text_meaning.specs.Parsing.{InParens, add_atom, resume}
use Rattle.text_meaning.specs.Grammar.{join}
use Rattle.mmt_syntax.specs.Readings.{read_span, read_expr}
use Rattle.twelf_expressions.specs.Left.{left}
use Rattle.twelf_expressions.specs.Frames.{of_stack, read_row, read_atoms, waiting}
use Rattle.twelf_expressions.proofs.Frames.{one_atom_more, parens_refuse, parens_close}
use Rattle.twelf_expressions.proofs.reader.Reader.close_parens.Goals as goal

pub returns-then-not-sees-clause-goes : goal.returns-then-not-sees-clause-goes
returns-then-not-sees-clause-goes c = λ k.
    let o = c.args.stack.now.operand in
    let w = waiting k c.args.stack.now.frames.items in
    let l = read_span c.args.opening in
    let whole = c.args.inside in
    c.refuse_behind.ensures (λ t. resume (of_stack (InParens l) c.args.stack.now k) (read_span whole.span) (read_expr whole.tree) t)
    (parens_refuse c.args.self.now l o.level.n (read_row o.row) (read_atoms o.atoms) w (read_span whole.span) (read_expr whole.tree) (sym c.if-not-sees.ensures))

pub returns-clause-goes : goal.returns-clause-goes
returns-clause-goes c = λ k.
    let o = c.args.stack.now.operand in
    let w = waiting k c.args.stack.now.frames.items in
    let l = read_span c.args.opening in
    let r = read_span c.take-closing.result in
    let e = read_expr c.args.inside.tree in
    let is = c.in_ok-add_atom.ensures.atoms ∙ ap (λ x. add_atom (read_atoms o.atoms) x e) c.join.ensures in
    parens_close l o.level.n (read_row o.row) (read_atoms o.atoms) w c.args.inside r _ (left c.args.self.now) (left c.take-closing.new.self) c.take-closing.ensures.takes
    (one_atom_more o c.add_atom.new.self (join l r) e w is c.in_ok-add_atom.ensures.row c.in_ok-add_atom.ensures.level) refl
