use Rattle.std.proofs.Common.{◌≡◌, ◌++◌, take}
use Rattle.std.specs.Prelude.{flat_map}
use Rattle.mmt_syntax.specs.Readings.{read_assigns}
use Rattle.print_meaning.specs.PrintedItems.{text_of}
use Rattle.print_meaning.specs.PrintedModules.{assign_items}
use Rattle.twelf_print.proofs.modules.assignments.Given as goal

-- the assignments so far
abbrev pub invariant-loop-assign : goal.invariant-loop-assign
invariant-loop-assign l = l.out ≡ l.initial.out ++ text_of (flat_map (assign_items l.gap) (read_assigns (take l.assign-index l.assign-items)))
