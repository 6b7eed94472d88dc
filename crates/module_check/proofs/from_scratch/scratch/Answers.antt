use Rattle.std.proofs.Common.{sym, ◌∙◌}
use Rattle.edit_log_meaning.specs.Log.{library_of}
use Rattle.module_check.proofs.FromTexts.{all_verdicts}
use Rattle.module_check.proofs.OneLibrary.{coherent_together}
use Rattle.module_check.proofs.from_scratch.scratch.Goals as goal

pub returns-clause-verdicts : goal.returns-clause-verdicts
returns-clause-verdicts c =
    all_verdicts (library_of c.args.log.now) c.in_ok-faces.faces c.in_ok-faces.ensures.verdicts c.in_ok-faces.ensures.all

pub returns-clause-coherent : goal.returns-clause-coherent
returns-clause-coherent c =
    coherent_together c.in_ok-faces.faces (library_of c.args.log.now)
    (record { verdicts = c.in_ok-faces.ensures.verdicts; reach = λ name other there reached present. c.in_ok-faces.ensures.all other present })
