use Rattle.std.proofs.Common.{◌≡◌, take}
use Rattle.term_trees.specs.Readings.{read_objects}
use Rattle.term_trees.proofs.obj.copies.Given as goal

abbrev pub invariant-loop-item : goal.invariant-loop-item
invariant-loop-item l = read_objects l.copies.items ≡ read_objects (take l.item-index l.items)
