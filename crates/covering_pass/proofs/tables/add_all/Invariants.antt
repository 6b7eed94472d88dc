use Rattle.std.proofs.Common.{◌≡◌, ◌||◌, take}
use Rattle.name_meaning.specs.Names.{Name}
use Rattle.library_meaning.specs.Closure.{sees}
use Rattle.covering_pass.proofs.tables.add_all.Given as goal

abbrev pub invariant-loop-name : goal.invariant-loop-name
invariant-loop-name l = (other : Name) → sees l.table.keys other ≡ (sees l.initial.table.keys other || sees (take l.name-index l.names) other)
