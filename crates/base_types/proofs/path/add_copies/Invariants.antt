use Rattle.std.proofs.Common.{◌≡◌, ◌++◌, take}
use Rattle.base_types.proofs.path.add_copies.Given as goal

abbrev pub invariant-loop-name : goal.invariant-loop-name
invariant-loop-name l = l.to.items ≡ l.initial.to.items ++ take l.name-index l.names
