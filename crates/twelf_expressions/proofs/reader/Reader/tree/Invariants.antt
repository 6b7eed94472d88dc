use Rattle.std.proofs.Common.{◌≡◌, ◌≤◌, length}
use Rattle.text_meaning.specs.Parsing.{Waiting, answer_on}
use Rattle.twelf_expressions.specs.Left.{left}
use Rattle.twelf_expressions.specs.Frames.{stands}
use Rattle.twelf_expressions.proofs.reader.Reader.tree.Given as goal

abbrev pub invariant-turns : goal.invariant-turns
invariant-turns l = record {
  goes : (k : Waiting) → answer_on (stands l.fn.stack k) (left l.fn.self) ≡ answer_on (stands l.stack k) (left l.self);
  less : length (left l.self) ≤ length (left l.fn.self);
}

abbrev pub decreases-turns : goal.decreases-turns
decreases-turns l = length (left l.self)
