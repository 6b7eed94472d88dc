use Rattle.std.proofs.Common.{Some, None, refl}
use Rattle.name_meaning.specs.Names.{is_among}
use Rattle.text_meaning.specs.Dependencies as meaning
use Rattle.mmt_syntax.specs.Readings.{read_decl}
use Rattle.module_check.specs.Mentions.{read_mention}
use Rattle.module_check.proofs.FirstAmong.{found_here, none_here}
use Rattle.module_check.proofs.mentions.in_decls.Goals as goal

pub returns-in-Some : goal.returns-in-Some
returns-in-Some c =
    found_here (λ (d : meaning.Dependency). is_among c.args.names.now d.name) read_decl (meaning.decl_dependencies c.args.theory.now) c.args.decls.now c.loop-decl.decl-index _ c.loop-decl.invariant
    c.decl-item.result (Some (read_mention c.in-Some.found)) (read_mention c.in-Some.found) c.loop-decl-test.true c.decl-item.is refl c.in-Some.ensures

pub loop-decl-preserved : goal.loop-decl-preserved
loop-decl-preserved c =
    none_here (λ (d : meaning.Dependency). is_among c.args.names.now d.name) read_decl (meaning.decl_dependencies c.args.theory.now) c.args.decls.now c.loop-decl.decl-index _ c.loop-decl.invariant
    c.decl-item.result None c.loop-decl-test.true c.decl-item.is refl c.in_default.ensures
