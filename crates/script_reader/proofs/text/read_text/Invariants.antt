use Rattle.std.proofs.Common.{◌≤◌, ◌-◌, ◌+◌, ◌^◌}
use Rattle.mmt_outside.specs.Bytes.{preceded, ReadPrefix}
use Rattle.script_reader.proofs.TextSoFar.{HasText}
use Rattle.script_reader.proofs.text.read_text.Given as goal

abbrev pub invariant-loop-buffer : goal.invariant-loop-buffer
invariant-loop-buffer g l = record {
  text : HasText (preceded l.fn.buffer (g.S.Source.left l.fn.source)) (preceded l.buffer (g.S.Source.left l.source)) l.fn.line l.line l.is_begun l.text;
  left : ReadPrefix (preceded l.fn.buffer (g.S.Source.left l.fn.source)) (preceded l.buffer (g.S.Source.left l.source));
  later : g.S.Source.faults l.fn.source ≤ g.S.Source.faults l.source;
}

abbrev pub decreases-loop-buffer : goal.decreases-loop-buffer
decreases-loop-buffer g l = 2 ^ 26 + 1 - l.text.total
