use Rattle.std.proofs.Common.{◌≡◌, take}
use Rattle.indexmap.specs.IndexSet.{IsUnique, insert_all}
use Rattle.name_meaning.specs.Names.{same_name}
use Rattle.module_graph.proofs.reaching.reach_all.Given as goal

abbrev pub invariant-loop-name : goal.invariant-loop-name
invariant-loop-name l = (l.reached.keys ≡ insert_all same_name l.initial.reached.keys (take l.name-index l.names)) × IsUnique same_name l.reached
