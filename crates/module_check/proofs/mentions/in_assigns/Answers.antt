use Rattle.std.proofs.Common.{Some, None, refl}
use Rattle.name_meaning.specs.Names.{is_among}
use Rattle.text_meaning.specs.Dependencies as meaning
use Rattle.mmt_syntax.specs.DependenciesLeft.{own_name}
use Rattle.mmt_syntax.specs.Readings.{read_assign}
use Rattle.module_check.specs.Mentions.{read_mention}
use Rattle.module_check.proofs.FirstAmong.{found_here, none_here}
use Rattle.module_check.proofs.mentions.in_assigns.Goals as goal

pub returns-in-Some : goal.returns-in-Some
returns-in-Some c =
    found_here (λ (d : meaning.Dependency). is_among c.args.names.now d.name) read_assign (meaning.assign_dependencies (own_name c.args.theory) (own_name c.args.structure) c.args.label.now) c.args.assigns.now c.loop-assign.assign-index _ c.loop-assign.invariant
    c.assign-item.result (Some (read_mention c.in-Some.found)) (read_mention c.in-Some.found) c.loop-assign-test.true c.assign-item.is refl c.in-Some.ensures

pub loop-assign-preserved : goal.loop-assign-preserved
loop-assign-preserved c =
    none_here (λ (d : meaning.Dependency). is_among c.args.names.now d.name) read_assign (meaning.assign_dependencies (own_name c.args.theory) (own_name c.args.structure) c.args.label.now) c.args.assigns.now c.loop-assign.assign-index _ c.loop-assign.invariant
    c.assign-item.result None c.loop-assign-test.true c.assign-item.is refl c.in_default.ensures
