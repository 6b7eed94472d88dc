use Rattle.std.proofs.Common.{◌≡◌, ◌++◌, take, flat_map}
use Rattle.printing_meaning.specs.PrintedTables.{declaration_line}
use Rattle.term_trees.specs.Readings.{read_signature}
use Rattle.term_text.specs.Readings.{read_seen}
use Rattle.report_text.proofs.declarations.declarations.Given as goal

-- The lines so far.
abbrev pub invariant-loop-index : goal.invariant-loop-index
invariant-loop-index l = l.out ≡ l.initial.out ++ flat_map (declaration_line (read_seen l.seen)) (take l.index (read_signature l.own))
