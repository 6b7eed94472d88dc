use Rattle.std.proofs.Common.{◌≡◌, ◌+◌, length, take}
use Rattle.library_meaning.specs.Faces.{own_parts}
use Rattle.mmt_interface.specs.Readings.{environment_of}
use Rattle.report_text.proofs.counts.flat_count.Given as goal

-- The own declarations, and those of the included theories so far.
abbrev pub invariant-loop-included : goal.invariant-loop-included
invariant-loop-included l = l.count ≡ length l.face.own + length (own_parts (environment_of l.faces) (take l.included-index l.included-items))
