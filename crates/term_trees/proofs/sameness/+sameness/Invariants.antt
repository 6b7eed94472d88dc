use Rattle.std.proofs.Common.{◌≡◌, drop, length}
use Rattle.std.specs.Cmp.Lexicographic.{pointwise}
use Rattle.lf_meaning.specs.Equality.{same_object}
use Rattle.term_trees.specs.Readings.{read_objects}
use Rattle.term_trees.proofs.sameness.+sameness.Given as goal

-- What is left to compare decides.
abbrev pub invariant-same_spine-loop-i : goal.invariant-same_spine-loop-i
invariant-same_spine-loop-i l = record {
  lengths : length l.item-items ≡ length l.others;
  left : pointwise same_object (read_objects l.item-items) (read_objects l.others) ≡ pointwise same_object (read_objects (drop l.i l.item-items)) (read_objects (drop l.i l.others));
}
