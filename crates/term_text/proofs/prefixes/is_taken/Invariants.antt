use Rattle.std.proofs.Common.{◌≡◌, drop}
use Rattle.printing_meaning.specs.Prefixes as prefixes
use Rattle.term_trees.specs.Readings.{read_signature}
use Rattle.term_text.proofs.prefixes.is_taken.Given as goal

-- The constants that are left decide.
abbrev pub invariant-loop-index : goal.invariant-loop-index
invariant-loop-index l = prefixes.is_taken (drop l.index (read_signature l.own)) l.prefix ≡ prefixes.is_taken (read_signature l.own) l.prefix
