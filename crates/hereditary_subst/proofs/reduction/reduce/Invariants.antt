use Rattle.std.proofs.Common.{◌≡◌, drop}
use Rattle.lf_meaning.specs.Substitution.{reduce}
use Rattle.term_trees.specs.Readings.{read_simple, read_object, read_objects}
use Rattle.hereditary_subst.proofs.reduction.reduce.Given as goal

-- what is left to apply gives what the whole gives
abbrev pub invariant-loop-argument : goal.invariant-loop-argument
invariant-loop-argument l =
    reduce (read_object l.applied) (read_simple l.current) (read_objects (drop l.argument-index l.spine))
    ≡ reduce (read_object l.value) (read_simple l.simple) (read_objects l.spine)
