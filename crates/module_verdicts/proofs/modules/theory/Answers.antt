use Rattle.std.proofs.Common.{◌∙◌, ap}
use Rattle.name_meaning.specs.Rows.{row_of}
use Rattle.verdict_meaning.specs.Modules.{empty_theory}
use Rattle.mmt_interface.specs.Readings.{environment_of, read_theory}
use Rattle.module_verdicts.proofs.Built.{empty_coherent, theory_refused}
use Rattle.module_verdicts.proofs.modules.theory.Goals as goal

pub declare_all-requires-clause-here : goal.declare_all-requires-clause-here
declare_all-requires-clause-here c = empty_coherent c.args.faces.now c.in_ok-here.here c.first_name.result.now c.requires.coherent (ap (row_of c.args.faces.now) c.first_name.ensures ∙ c.requires.absent) c.in_ok-here.ensures

pub returns-in-Err : goal.returns-in-Err
returns-in-Err c =
    theory_refused c.in-Err.fault (environment_of c.args.faces.now) _ c.as_slice.result.now c.args.decls.now (read_theory c.in_ok-here.here)
    (c.in_ok-here.ensures ∙ ap empty_theory c.first_name.ensures) c.as_slice.ensures c.in-Err.ensures
