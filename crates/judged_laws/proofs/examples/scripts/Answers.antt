use Rattle.judged_laws.proofs.Computed.{natural_numbers, misspelled_name, monoid, assigned_structure, ring}
use Rattle.judged_laws.proofs.examples.scripts.Goals as goal

pub returns-clause-natural_numbers : goal.returns-clause-natural_numbers
returns-clause-natural_numbers c = natural_numbers

pub returns-clause-misspelled_name : goal.returns-clause-misspelled_name
returns-clause-misspelled_name c = misspelled_name

pub returns-clause-monoid : goal.returns-clause-monoid
returns-clause-monoid c = monoid

pub returns-clause-assigned_structure : goal.returns-clause-assigned_structure
returns-clause-assigned_structure c = assigned_structure

pub returns-clause-ring : goal.returns-clause-ring
returns-clause-ring c = ring
