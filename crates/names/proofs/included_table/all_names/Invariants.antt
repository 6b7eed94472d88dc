use Rattle.std.proofs.Common.{take}
use Rattle.names.specs.IncludedTables.{HasTheories}
use Rattle.names.proofs.included_table.all_names.Given as goal

abbrev pub invariant-loop-name : goal.invariant-loop-name
invariant-loop-name l = HasTheories l.set.keys (take l.name-index l.names)
