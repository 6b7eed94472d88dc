use Rattle.std.proofs.Common.{◌≡◌, ◌++◌, take, flat_map}
use Rattle.printing_meaning.specs.PrintedTables.{mapping_line}
use Rattle.term_trees.specs.Readings.{read_map}
use Rattle.term_text.specs.Readings.{read_seen}
use Rattle.report_text.proofs.declarations.mappings.Given as goal

-- The lines so far.
abbrev pub invariant-loop-index : goal.invariant-loop-index
invariant-loop-index l = l.out ≡ l.initial.out ++ flat_map (mapping_line (read_seen l.domain) (read_seen l.codomain)) (take l.index (read_map l.map))
