use Rattle.std.proofs.Common.{◌≡◌, drop}
use Rattle.verdict_meaning.specs.Modules.{declare_all}
use Rattle.mmt_syntax.specs.Readings.{read_decls}
use Rattle.mmt_interface.specs.CoherentFaces.{IsCoherentHere}
use Rattle.mmt_interface.specs.Readings.{environment_of, read_theory}
use Rattle.include_closure.specs.Inclusions.{Knows}
use Rattle.module_verdicts.specs.DueTables.{FitsIncludes}
use Rattle.module_verdicts.proofs.declarations.declare_each.Given as goal

abbrev pub invariant-loop-decl : goal.invariant-loop-decl
invariant-loop-decl l =
    IsCoherentHere l.faces l.here
    × (declare_all (environment_of l.faces) (read_theory l.initial.here) (read_decls l.decls) ≡ declare_all (environment_of l.faces) (read_theory l.here) (read_decls (drop l.decl-index l.decls)))
    × FitsIncludes l.due.table l.here.includes (environment_of l.faces)
    × Knows l.inclusions l.here.includes
