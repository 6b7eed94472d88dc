use Rattle.std.proofs.Common.{◌≤◌, length}
use Rattle.text_meaning.specs.Reading.{Answer}
use Rattle.text_meaning.specs.Parsing.{Purpose}
use Rattle.twelf_expressions.specs.Left.{left}
use Rattle.twelf_expressions.specs.Outlines.{Stands, at_operand}
use Rattle.twelf_expressions.proofs.reader.Reader.pass_operands.Given as goal

abbrev pub invariant-loop : goal.invariant-loop
invariant-loop l = record {
  goes : (p : Purpose) (answer : Answer) → Stands p at_operand answer l.fn.stack (left l.fn.self) → Stands p at_operand answer l.stack (left l.self);
  less : length (left l.self) ≤ length (left l.fn.self);
}

abbrev pub decreases-loop : goal.decreases-loop
decreases-loop l = length (left l.self)
