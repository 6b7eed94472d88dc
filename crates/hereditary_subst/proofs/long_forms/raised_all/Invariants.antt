use Rattle.std.proofs.Common.{◌≡◌, take, map}
use Rattle.lf_meaning.specs.Raising.{raise}
use Rattle.term_trees.specs.Readings.{read_objects}
use Rattle.hereditary_subst.proofs.long_forms.raised_all.Given as goal

abbrev pub invariant-loop-item : goal.invariant-loop-item
invariant-loop-item l = read_objects l.raised.items ≡ map (raise l.by 0) (read_objects (take l.item-index l.items))
