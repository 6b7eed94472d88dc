use Rattle.std.proofs.Common.{◌≡◌, take, map}
use Rattle.lf_meaning.specs.Raising.{raise}
use Rattle.term_trees.specs.Readings.{read_objects}
use Rattle.term_trees.specs.Changes.{gathered}
use Rattle.term_trees.proofs.shift.+shifting.Given as goal

abbrev pub invariant-raised_spine-loop-i : goal.invariant-raised_spine-loop-i
invariant-raised_spine-loop-i l = gathered l.items l.i l.so_far ≡ map (raise l.by l.from) (read_objects (take l.i l.items))
