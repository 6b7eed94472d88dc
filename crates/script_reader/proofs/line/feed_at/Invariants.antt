use Rattle.std.proofs.Common.{take}
use Rattle.printing_meaning.specs.Lines.{NoFeed}
use Rattle.script_reader.proofs.line.feed_at.Given as goal

abbrev pub invariant-loop-i : goal.invariant-loop-i
invariant-loop-i l = NoFeed (take l.i l.bytes)
