use Rattle.std.proofs.Common.{length}
use Rattle.morphism_words.proofs.structures.+lent_structures_link.Given as goal

abbrev pub decreases-lent_structures_link : goal.decreases-lent_structures_link
decreases-lent_structures_link l = length l.path.now
