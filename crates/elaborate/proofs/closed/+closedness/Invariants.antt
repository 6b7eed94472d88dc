use Rattle.std.proofs.Common.{◌≡◌, take, map}
use Rattle.lf_meaning.specs.Raising.{raise}
use Rattle.term_trees.specs.Readings.{read_objects}
use Rattle.elaborate.proofs.closed.+closedness.Given as goal

abbrev pub invariant-are_closed-loop-item : goal.invariant-are_closed-loop-item
invariant-are_closed-loop-item l = read_objects (take l.item-index l.item-items) ≡ map (raise 1 l.from) (read_objects (take l.item-index l.item-items))
