-- The worked examples compute.
use Rattle.std.proofs.Common.{refl}
use Rattle.command_words_meaning.specs.WordLists.{run_of}
use Rattle.command_words_meaning.specs.WordAnswers.{words_outcome}
use Rattle.run_examples.specs.WordExamples.{PlaysAreAccepted, ChecksAreAccepted, GeneratorsAreAccepted, OthersAreNot, OthersAreAnswered}

abbrev computing : Unit {0}
unfolding run_of words_outcome
computing = tt

pub plays_are_accepted : PlaysAreAccepted
unfolding computing
plays_are_accepted = refl

pub checks_are_accepted : ChecksAreAccepted
unfolding computing
checks_are_accepted = refl

pub generators_are_accepted : GeneratorsAreAccepted
unfolding computing
generators_are_accepted = refl

pub others_are_not : OthersAreNot
unfolding computing
others_are_not = refl

pub others_are_answered : OthersAreAnswered
unfolding computing
others_are_answered = refl
