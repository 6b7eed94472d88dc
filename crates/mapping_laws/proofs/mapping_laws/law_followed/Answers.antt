use Rattle.mapping_laws.proofs.Followed.{structures_are_followed, words_are_followed}
use Rattle.mapping_laws.proofs.mapping_laws.law_followed.Goals as goal

pub returns-clause-structures : goal.returns-clause-structures
returns-clause-structures c = structures_are_followed

pub returns-clause-words : goal.returns-clause-words
returns-clause-words c = words_are_followed
