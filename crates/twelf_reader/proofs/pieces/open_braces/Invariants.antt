use Rattle.std.proofs.Common.{◌≡◌, ◌≤◌, ℕ, length}
use Rattle.text_meaning.specs.Tokens.{Span}
use Rattle.text_meaning.specs.Trees.{Written}
use Rattle.text_meaning.specs.Dividing.{BeforeBody, divide_on}
use Rattle.twelf_expressions.specs.Left.{left}
use Rattle.twelf_reader.proofs.pieces.open_braces.Given as goal

abbrev pub invariant-tokens : goal.invariant-tokens
invariant-tokens l = record {
  goes : (w : Span) (x : Written) (last other : ℕ) → divide_on (BeforeBody w x last) (left l.initial.reader) ≡ divide_on (BeforeBody w x other) (left l.reader);
  less : length (left l.reader) ≤ length (left l.initial.reader);
}

abbrev pub decreases-tokens : goal.decreases-tokens
decreases-tokens l = length (left l.reader)
