use Rattle.run_laws.proofs.Outputs.{output_is_in_order, longer_begins_with_it}
use Rattle.run_laws.proofs.Logs.{tellings_are_grounded}
use Rattle.run_laws.proofs.run_laws.law_script.Goals as goal

pub returns-clause-order : goal.returns-clause-order
returns-clause-order c = output_is_in_order

pub returns-clause-longer : goal.returns-clause-longer
returns-clause-longer c = longer_begins_with_it

pub returns-clause-told : goal.returns-clause-told
returns-clause-told c = tellings_are_grounded
