use Rattle.std.proofs.Common.{◌≡◌, Some, take}
use Rattle.link_setting.specs.PathTrees.{place_along, steps_of, AreBegun, Stay}
use Rattle.link_setting.proofs.path_tree.PathTree.add.Given as goal

-- The names so far lead to this place. Of the places that were there all stay, and beginnings of the path lead to those that are new.
abbrev pub invariant-loop-name : goal.invariant-loop-name
invariant-loop-name l = record {
  at : place_along (steps_of l.self) (take l.name-index l.name-items) ≡ Some l.at;
  stay : Stay (steps_of l.initial.self) (steps_of l.self);
  begun : AreBegun (steps_of l.initial.self) (steps_of l.self) l.path;
}
