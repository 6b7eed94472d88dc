use Rattle.library_laws.proofs.ComputedWords.{structures_compose, words_compose, own_structures_are_here}
use Rattle.library_laws.proofs.examples.words.Goals as goal

pub returns-clause-structures : goal.returns-clause-structures
returns-clause-structures c = structures_compose

pub returns-clause-row : goal.returns-clause-row
returns-clause-row c = words_compose

pub returns-clause-own : goal.returns-clause-own
returns-clause-own c = own_structures_are_here
