use Rattle.run_laws.proofs.Logs.{commands_tell_all, beginnings_tell}
use Rattle.run_laws.proofs.Generating.{generators_tell_all}
use Rattle.run_laws.proofs.run_laws.law_telling.Goals as goal

pub returns-clause-all : goal.returns-clause-all
returns-clause-all c = commands_tell_all

pub returns-clause-beginnings : goal.returns-clause-beginnings
returns-clause-beginnings c = beginnings_tell

pub returns-clause-generator : goal.returns-clause-generator
returns-clause-generator c = generators_tell_all
