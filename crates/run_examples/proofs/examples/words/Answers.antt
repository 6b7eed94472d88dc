use Rattle.run_examples.proofs.WordsComputed.{plays_are_accepted, checks_are_accepted, generators_are_accepted, others_are_not, others_are_answered}
use Rattle.run_examples.proofs.examples.words.Goals as goal

pub returns-clause-plays_are_accepted : goal.returns-clause-plays_are_accepted
returns-clause-plays_are_accepted c = plays_are_accepted

pub returns-clause-checks_are_accepted : goal.returns-clause-checks_are_accepted
returns-clause-checks_are_accepted c = checks_are_accepted

pub returns-clause-generators_are_accepted : goal.returns-clause-generators_are_accepted
returns-clause-generators_are_accepted c = generators_are_accepted

pub returns-clause-others_are_not : goal.returns-clause-others_are_not
returns-clause-others_are_not c = others_are_not

pub returns-clause-others_are_answered : goal.returns-clause-others_are_answered
returns-clause-others_are_answered c = others_are_answered
