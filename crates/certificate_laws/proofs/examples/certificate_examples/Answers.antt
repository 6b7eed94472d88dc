use Rattle.certificate_laws.proofs.Computed.{two_declarations, other_premise, step_without_premises, term_twice, step_twice, no_lines, constant_is_no_object, constant_is_no_family}
use Rattle.certificate_laws.proofs.examples.certificate_examples.Goals as goal

pub returns-clause-two : goal.returns-clause-two
returns-clause-two c = two_declarations

pub returns-clause-premise : goal.returns-clause-premise
returns-clause-premise c = other_premise

pub returns-clause-step : goal.returns-clause-step
returns-clause-step c = step_without_premises

pub returns-clause-term_twice : goal.returns-clause-term_twice
returns-clause-term_twice c = term_twice

pub returns-clause-step_twice : goal.returns-clause-step_twice
returns-clause-step_twice c = step_twice

pub returns-clause-none : goal.returns-clause-none
returns-clause-none c = no_lines

pub returns-clause-object : goal.returns-clause-object
returns-clause-object c = constant_is_no_object

pub returns-clause-family : goal.returns-clause-family
returns-clause-family c = constant_is_no_family
