use Rattle.std.proofs.Common.{◌≡◌, length}
use Rattle.text_meaning.specs.Dividing.{AtTop, divide_on}
use Rattle.twelf_expressions.specs.Left.{left}
use Rattle.twelf_reader.specs.Division.{pieces_before, read_pieces}
use Rattle.twelf_reader.proofs.pieces.pieces.Given as goal

abbrev pub invariant-loop-pieces : goal.invariant-loop-pieces
invariant-loop-pieces l = record {
  goes : divide_on AtTop (left l.initial.reader) ≡ pieces_before (read_pieces l.pieces) (divide_on AtTop (left l.reader));
}

abbrev pub decreases-loop-pieces : goal.decreases-loop-pieces
decreases-loop-pieces l = length (left l.reader)
