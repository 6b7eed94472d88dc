use Rattle.std.proofs.Common.{arith, length-drop}
use Rattle.std.proofs.lemmas.List.{take_rest}
use Rattle.mmt_outside.proofs.Bytes.{appended-take}
use Rattle.mmt_outside.proofs.writing.write_all.Goals as goal

pub loop-done-preserved : goal.loop-done-preserved
loop-done-preserved g c =
    let wrote = rw (take_rest c.args.bytes.now c.loop-done.done) at c.in_ok-done.ensures in
    record {
      within = omega (arith, wrote.within, length-drop c.loop-done.done c.args.bytes.now);
      taken = rw (← appended-take _ c.loop-done.done c.in_ok-done.field-0 c.args.bytes.now, ← c.loop-done.invariant.taken) wrote.bytes;
      faults = omega (arith, wrote.cause.later);
    }
