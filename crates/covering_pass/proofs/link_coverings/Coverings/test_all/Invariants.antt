use Rattle.std.proofs.Common.{◌≡◌, drop}
use Rattle.link_meaning.specs.Refusals.{each}
use Rattle.link_meaning.specs.Coverings.{covered_test}
use Rattle.covering_pass.specs.CoverTables.{assigned_of, setting_of}
use Rattle.covering_pass.proofs.link_coverings.Coverings.test_all.Given as goal

-- The tests that are left answer what all do.
abbrev pub invariant-loop-theory : goal.invariant-loop-theory
invariant-loop-theory l =
    each (covered_test (setting_of l.self.covers) (assigned_of l.self.covers)) (drop l.theory-index l.theories)
    ≡ each (covered_test (setting_of l.self.covers) (assigned_of l.self.covers)) l.theories
