use Rattle.std.proofs.Common.{refl, ap, ◌∙◌}
use Rattle.text_meaning.specs.Trees.{NameExpr}
use Rattle.text_meaning.specs.Parsing.{add_atom, answer_on}
use Rattle.mmt_syntax.specs.Readings.{read_span}
use Rattle.mmt_syntax.proofs.ReadingEquations.{read_node_name}
use Rattle.twelf_expressions.specs.Left.{left}
use Rattle.twelf_expressions.specs.Frames.{read_atoms, waiting}
use Rattle.twelf_expressions.proofs.Frames.{one_atom_more, took_in}
use Rattle.twelf_expressions.proofs.reader.Reader.identifier.Goals as goal

pub returns-clause-goes : goal.returns-clause-goes
returns-clause-goes c = λ k.
    let word = c.in_ok-word.word in
    let s = read_span word.span in
    let e = NameExpr s word.path in
    let is = c.in_ok-add_node.ensures.atoms ∙ ap (add_atom (read_atoms c.args.stack.now.operand.atoms) s) (read_node_name word.path s) in
    took_in c.args.stack.now k _ c.in_ok-word.ensures.takes refl refl
    ∙ ap (λ x. answer_on x (left c.take_path.new.self))
    (one_atom_more c.args.stack.now.operand c.add_node.new.self s e (waiting k c.args.stack.now.frames.items) is c.in_ok-add_node.ensures.row c.in_ok-add_node.ensures.level)
