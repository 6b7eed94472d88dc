use Rattle.verdict_examples.proofs.Computed.{first_covering, disagreeing_inclusions, nine_are_accepted}
use Rattle.verdict_examples.proofs.examples.coverings.Goals as goal

pub returns-clause-first_covering : goal.returns-clause-first_covering
returns-clause-first_covering c = first_covering

pub returns-clause-disagreeing_inclusions : goal.returns-clause-disagreeing_inclusions
returns-clause-disagreeing_inclusions c = disagreeing_inclusions

pub returns-clause-nine_are_accepted : goal.returns-clause-nine_are_accepted
returns-clause-nine_are_accepted c = nine_are_accepted
