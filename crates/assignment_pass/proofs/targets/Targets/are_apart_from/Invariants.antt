use Rattle.std.proofs.Common.{◌≡◌, false, take}
use Rattle.std.specs.List.{list_any}
use Rattle.link_setting.specs.PathTrees.{place_along, steps_of}
use Rattle.link_setting.proofs.Beginnings.{begins_before}
use Rattle.assignment_pass.specs.Steps.{earlier_targets}
use Rattle.assignment_pass.proofs.targets.Targets.are_apart_from.Given as goal

-- The names so far lead to this place, if to any, and none of their shorter beginnings is a target.
abbrev pub invariant-loop-name : goal.invariant-loop-name
invariant-loop-name l = record {
  at : place_along (steps_of l.self.tree) (take l.name-index l.name-items) ≡ l.at;
  apart : list_any (begins_before l.name-index l.name-items) (earlier_targets l.self) ≡ false;
}
