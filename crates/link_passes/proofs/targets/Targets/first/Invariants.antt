use Rattle.std.proofs.Common.{◌≡◌, List, take}
use Rattle.link_meaning.specs.Assignments.{Assigned}
use Rattle.link_setting.specs.PathTrees.{place_along, steps_of}
use Rattle.link_passes.specs.Targets.{first_that, shares_before, AreNumbered}
use Rattle.link_passes.proofs.targets.Targets.first.Given as goal

-- The names so far lead to this place, if to any, and this is the first assignment to a structure at one of their shorter beginnings.
abbrev pub invariant-loop-name : goal.invariant-loop-name
invariant-loop-name l = record {
  at : place_along (steps_of l.self.tree) (take l.name-index l.name-items) ≡ l.at;
  first : (items : List Assigned) → AreNumbered l.self items → l.first ≡ first_that (shares_before l.name-index l.name-items) items;
}
