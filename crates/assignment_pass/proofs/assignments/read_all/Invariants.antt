use Rattle.std.proofs.Common.{◌≡◌, [], drop}
use Rattle.link_meaning.specs.Assignments as passes
use Rattle.mmt_syntax.specs.Readings as trees
use Rattle.link_setting.specs.Readings.{read_all_assigned, read_setting}
use Rattle.assignment_pass.specs.Steps.{AreTabled, earlier_targets}
use Rattle.assignment_pass.proofs.AssignmentsLeft.{goes_on_with}
use Rattle.assignment_pass.proofs.assignments.read_all.Given as goal

-- What all assignments give is what those so far have given, and what those that are left give behind their targets.
abbrev pub invariant-loop-assign : goal.invariant-loop-assign
invariant-loop-assign l = record {
  given :
      passes.read_assigns (read_setting l.setting) [] (trees.read_assigns l.assigns)
      ≡ goes_on_with (read_setting l.setting) (earlier_targets l.targets) (read_all_assigned l.given.items) (drop l.assign-index l.assigns);
  tabled : AreTabled l.targets;
}
