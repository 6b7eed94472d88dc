use Rattle.std.proofs.Common.{◌≡◌, take}
use Rattle.term_trees.specs.Readings.{read_map}
use Rattle.lf_terms.proofs.head_map.HeadMap.copy.Given as goal

-- The mappings so far.
abbrev pub invariant-loop-i : goal.invariant-loop-i
invariant-loop-i l = read_map l.copied ≡ take l.i (read_map l.self)
