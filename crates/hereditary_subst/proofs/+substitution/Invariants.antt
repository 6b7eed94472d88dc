use Rattle.std.proofs.Common.{◌≡◌, ◌+◌, ◌*◌, length, map, take, reverse}
use Rattle.lf_meaning.specs.Substitution.{substitute, reduce}
use Rattle.term_trees.specs.Readings.{read_object, read_objects, read_simple}
use Rattle.term_trees.specs.Changes.{gathered}
use Rattle.hereditary_subst.proofs.+substitution.Given as goal

abbrev pub decreases-substitution::subst_within : goal.decreases-substitution::subst_within
decreases-substitution::subst_within l = 3 * l.left

abbrev pub decreases-reduction::apply : goal.decreases-reduction::apply
decreases-reduction::apply l = 3 * l.left + 1

abbrev pub decreases-substitution::subst_arguments : goal.decreases-substitution::subst_arguments
decreases-substitution::subst_arguments l = 3 * l.left + 2

abbrev pub decreases-reduction::take_all : goal.decreases-reduction::take_all
decreases-reduction::take_all l = 3 * l.left + 2

abbrev pub invariant-reduction::take_all-loop-argument : goal.invariant-reduction::take_all-loop-argument
invariant-reduction::take_all-loop-argument l =
    reduce (read_object l.applied) (read_simple l.current) (reverse (read_objects l.rest.items))
    ≡ reduce (read_object l.fn.value) (read_simple l.fn.simple) (reverse (read_objects l.fn.reversed.items))

abbrev pub decreases-reduction::take_all-loop-argument : goal.decreases-reduction::take_all-loop-argument
decreases-reduction::take_all-loop-argument l = length l.rest.items

abbrev pub invariant-substitution::subst_arguments-loop-i : goal.invariant-substitution::subst_arguments-loop-i
invariant-substitution::subst_arguments-loop-i l =
    gathered l.items l.i l.so_far ≡ map (substitute (read_object l.value) (read_simple l.simple) l.at) (read_objects (take l.i l.items))
