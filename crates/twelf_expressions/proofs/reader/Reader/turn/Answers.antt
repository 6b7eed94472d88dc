use Rattle.std.proofs.Common.{rules}
use Rattle.text_meaning.specs.Parsing.{operand_ends, answer_on}
use Rattle.twelf_expressions.specs.Left.{left}
use Rattle.twelf_expressions.specs.Going.{answer_with}
use Rattle.twelf_expressions.specs.Frames.{read_row, read_atoms, stands, waiting}
use Rattle.twelf_expressions.proofs.Moves.{ends_operand}
use Rattle.twelf_expressions.proofs.Frames.{turned_from}
use Rattle.twelf_expressions.proofs.reader.Reader.turn.Goals as goal

pub returns-in_default-clause-goes : goal.returns-in_default-clause-goes
returns-in_default-clause-goes c = λ k.
    let o = c.args.stack.now.operand in
    let w = waiting k c.args.stack.now.frames.items in
    let r = c.args.self.now in
    turned_from c.end_operand.result (answer_on (stands c.args.stack.now k) (left r)) (answer_with (λ t. operand_ends (read_row o.row) (read_atoms o.atoms) w t) (left r)) k c.end_operand.new.stack (left c.end_operand.new.self)
    (ends_operand r o.level.n (read_row o.row) (read_atoms o.atoms) w o.level.within (search rules))
    (c.end_operand.ensures.goes k)
