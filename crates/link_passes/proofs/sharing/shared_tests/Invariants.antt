use Rattle.std.proofs.Common.{◌≡◌, drop}
use Rattle.link_meaning.specs.Passes.{shared_test}
use Rattle.link_meaning.specs.Refusals.{each}
use Rattle.term_trees.specs.Readings.{read_map}
use Rattle.link_setting.specs.Readings.{read_all_assigned, read_setting}
use Rattle.link_passes.proofs.sharing.shared_tests.Given as goal

-- The tests that are left decide.
abbrev pub invariant-loop-item : goal.invariant-loop-item
invariant-loop-item l =
    each (shared_test (read_setting l.setting) (read_map l.along)) (read_all_assigned (drop l.item-index l.assigned)) ≡ each (shared_test (read_setting l.setting) (read_map l.along)) (read_all_assigned l.assigned)
