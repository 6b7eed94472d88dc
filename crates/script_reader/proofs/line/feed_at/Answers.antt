use Rattle.std.proofs.Common.{arith}
use Rattle.run_laws.proofs.LineLemmas.{NoFeed-take_more}
use Rattle.script_reader.proofs.line.feed_at.Goals as goal

pub loop-i-preserved : goal.loop-i-preserved
loop-i-preserved c = NoFeed-take_more c.args.bytes.now c.loop-i.i (omega arith) c.loop-i.invariant c.if-byte-eq10.false
