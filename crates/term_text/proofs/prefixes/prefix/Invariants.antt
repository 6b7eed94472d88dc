use Rattle.std.proofs.Common.{length, ◌-◌}
use Rattle.printing_meaning.specs.Prefixes.{enough}
use Rattle.term_trees.specs.Readings.{read_signature}
use Rattle.term_text.proofs.Searching.{Sought}
use Rattle.term_text.proofs.prefixes.prefix.Given as goal

abbrev pub invariant-loop-prefix : goal.invariant-loop-prefix
invariant-loop-prefix l = Sought (read_signature l.own) l.prefix.items

-- how many bytes the prefix lacks of all names together
abbrev pub decreases-loop-prefix : goal.decreases-loop-prefix
decreases-loop-prefix l = enough (read_signature l.own) - length l.prefix.items
