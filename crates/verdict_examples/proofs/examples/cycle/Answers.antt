use Rattle.verdict_examples.proofs.Computed.{cycle_of_a, cycle_of_b, cycle_of_c, a_without_b, b_without_b, c_without_b}
use Rattle.verdict_examples.proofs.examples.cycle.Goals as goal

pub returns-clause-cycle_of_a : goal.returns-clause-cycle_of_a
returns-clause-cycle_of_a c = cycle_of_a

pub returns-clause-cycle_of_b : goal.returns-clause-cycle_of_b
returns-clause-cycle_of_b c = cycle_of_b

pub returns-clause-cycle_of_c : goal.returns-clause-cycle_of_c
returns-clause-cycle_of_c c = cycle_of_c

pub returns-clause-a_without_b : goal.returns-clause-a_without_b
returns-clause-a_without_b c = a_without_b

pub returns-clause-b_without_b : goal.returns-clause-b_without_b
returns-clause-b_without_b c = b_without_b

pub returns-clause-c_without_b : goal.returns-clause-c_without_b
returns-clause-c_without_b c = c_without_b
