use Rattle.std.proofs.Common.{List, take}
use Rattle.name_meaning.specs.Names.{Name}
use Rattle.library_meaning.specs.Closure.{with_all}
use Rattle.include_closure.specs.Additions.{Extends}
use Rattle.include_closure.proofs.additions.Additions.add_all.Given as goal

abbrev pub invariant-loop-name : goal.invariant-loop-name
invariant-loop-name l = (front whole : List Name) → Extends l.initial.self front whole → Extends l.self front (with_all whole (take l.name-index l.names))
