use Rattle.std.proofs.Common.{◌≡◌, ◌<◌, take}
use Rattle.verdict_board.specs.Marks.{bit_of}
use Rattle.verdict_board.proofs.marked_names.bit_of.Given as goal

abbrev pub invariant-loop-byte : goal.invariant-loop-byte
invariant-loop-byte l = (l.bit ≡ bit_of (take l.byte-index l.byte-items)) × (l.bit < 64)
