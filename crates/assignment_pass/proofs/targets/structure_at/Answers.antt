use Rattle.std.proofs.Common.{sym, ap, ◌∙◌}
use Rattle.library_meaning.specs.Words.{structures_link, structures_of}
use Rattle.mmt_interface.specs.Readings.{environment_of, read_theory}
use Rattle.link_setting.proofs.Below.CoherentLinks.{structures_of_theory}
use Rattle.link_setting.proofs.Below.RowsOfStructures.{no_structures}
use Rattle.assignment_pass.proofs.targets.structure_at.Goals as goal

pub returns-in-None : goal.returns-in-None
returns-in-None c =
    let setting = c.args.setting.now in
    let environment = environment_of setting.scope.faces.now in
    sym (no_structures environment setting.domain.now c.args.path.now) ∙ ap (λ o. structures_link environment setting.domain.now (structures_of o) c.args.path.now) c.in-None.ensures.meaning

pub structures_link-requires-clause-structures : goal.structures_link-requires-clause-structures
structures_link-requires-clause-structures c =
    structures_of_theory (environment_of c.args.setting.now.scope.faces.now) c.requires c.args.setting.now.domain.now (read_theory c.in-Some.face.now) c.in-Some.ensures.meaning
