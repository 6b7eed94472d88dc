use Rattle.std.proofs.Common.{sym, ◌∙◌}
use Rattle.text_meaning.specs.Parsing.{operand_ends}
use Rattle.twelf_expressions.specs.Left.{left}
use Rattle.twelf_expressions.specs.Going.{answer_with}
use Rattle.twelf_expressions.specs.Frames.{answer_resumed, read_row, read_atoms, waiting}
use Rattle.twelf_expressions.proofs.Frames.{operand_is, spelled_in_row, turned_from}
use Rattle.twelf_expressions.proofs.reader.Reader.end_operand.Goals as goal

pub returns-in_ok-whole-in-Some-clause-goes : goal.returns-in_ok-whole-in-Some-clause-goes
returns-in_ok-whole-in-Some-clause-goes c = λ k.
    let o = c.args.stack.now.operand in
    let w = waiting k c.args.stack.now.frames.items in
    let whole = c.in_ok-whole-in-Some.whole in
    let spelled = spelled_in_row c.replace-row.result o.row c.in-Some.atoms c.in_ok-operand-in-Some.operand whole c.replace-row.ensures.value c.in_ok-operand-in-Some.ensures c.in_ok-whole-in-Some.ensures in
    let is = operand_is o.row o.atoms c.in-Some.atoms whole w (left c.args.self.now) (sym c.take.ensures.value ∙ c.in-Some.is) spelled in
    turned_from c.resume.result (answer_with (λ t. operand_ends (read_row o.row) (read_atoms o.atoms) w t) (left c.args.self.now)) (answer_resumed w whole (left c.args.self.now)) k c.resume.new.stack (left c.resume.new.self) is
    (c.resume.ensures.goes k)
