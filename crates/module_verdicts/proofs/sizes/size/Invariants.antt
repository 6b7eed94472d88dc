use Rattle.std.proofs.Common.{◌≡◌, ◌+◌, take, length}
use Rattle.library_meaning.specs.Faces.{own_parts}
use Rattle.mmt_interface.specs.Readings.{environment_of}
use Rattle.module_verdicts.proofs.sizes.size.Given as goal

abbrev pub invariant-loop-theory : goal.invariant-loop-theory
invariant-loop-theory l = l.size ≡ length l.here.own + length (own_parts (environment_of l.faces) (take l.theory-index l.theory-items))
