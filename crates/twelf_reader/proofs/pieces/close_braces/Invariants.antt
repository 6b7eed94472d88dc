use Rattle.std.proofs.Common.{◌≡◌, ◌≤◌, ℕ, length}
use Rattle.text_meaning.specs.Tokens.{Span}
use Rattle.text_meaning.specs.Trees.{Written}
use Rattle.text_meaning.specs.Dividing.{InBody, divide_on}
use Rattle.twelf_expressions.specs.Left.{left, next_token}
use Rattle.twelf_reader.proofs.pieces.close_braces.Given as goal

abbrev pub invariant-tokens : goal.invariant-tokens
invariant-tokens l = record {
  goes : (w : Span) (x : Written) (last : ℕ) → divide_on (InBody w x 0 last) (left l.initial.reader) ≡ divide_on (InBody w x l.inner 0) (left l.reader);
  within : l.inner ≤ (next_token (left l.reader)).span.from;
  less : length (left l.reader) ≤ length (left l.initial.reader);
}

abbrev pub decreases-tokens : goal.decreases-tokens
decreases-tokens l = length (left l.reader)
