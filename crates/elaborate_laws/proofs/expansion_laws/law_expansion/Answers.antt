use Rattle.elaborate_laws.proofs.Standing.{objects_stand, heads_stand, arguments_stand, families_stand, kinds_stand, classes_stand, family_values_stand, values_stand}
use Rattle.elaborate_laws.proofs.expansion_laws.law_expansion.Goals as goal

pub returns-clause-objects : goal.returns-clause-objects
returns-clause-objects c = objects_stand

pub returns-clause-heads : goal.returns-clause-heads
returns-clause-heads c = heads_stand

pub returns-clause-arguments : goal.returns-clause-arguments
returns-clause-arguments c = arguments_stand

pub returns-clause-families : goal.returns-clause-families
returns-clause-families c = families_stand

pub returns-clause-kinds : goal.returns-clause-kinds
returns-clause-kinds c = kinds_stand

pub returns-clause-classes : goal.returns-clause-classes
returns-clause-classes c = classes_stand

pub returns-clause-family_values : goal.returns-clause-family_values
returns-clause-family_values c = family_values_stand

pub returns-clause-values : goal.returns-clause-values
returns-clause-values c = values_stand
