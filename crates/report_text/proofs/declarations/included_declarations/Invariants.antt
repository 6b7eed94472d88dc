use Rattle.std.proofs.Common.{◌≡◌, ◌++◌, take, flat_map}
use Rattle.name_meaning.specs.Names.{Name}
use Rattle.library_meaning.specs.Faces.{own_part}
use Rattle.printing_meaning.specs.PrintedTables.{declaration_line}
use Rattle.mmt_interface.specs.Readings.{environment_of}
use Rattle.term_text.specs.Readings.{read_seen}
use Rattle.report_text.proofs.declarations.included_declarations.Given as goal

-- The own declarations of the theories so far.
abbrev pub invariant-loop-theory : goal.invariant-loop-theory
invariant-loop-theory l =
    l.out ≡ l.initial.out ++ flat_map (λ (theory : Name). flat_map (declaration_line (read_seen l.seen)) (own_part (environment_of l.faces) theory)) (take l.theory-index l.theories)
