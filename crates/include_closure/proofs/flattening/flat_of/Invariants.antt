use Rattle.std.proofs.Common.{◌≡◌, take}
use Rattle.term_trees.specs.Readings.{read_signature}
use Rattle.library_meaning.specs.Faces.{own_parts}
use Rattle.mmt_interface.specs.Readings.{environment_of}
use Rattle.include_closure.proofs.flattening.flat_of.Given as goal

abbrev pub invariant-loop-included : goal.invariant-loop-included
invariant-loop-included l = read_signature l.signature ≡ own_parts (environment_of l.faces) (take l.included-index l.included-items)
