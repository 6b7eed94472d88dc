use Rattle.std.proofs.Common.{◌≡◌, drop}
use Rattle.translation_meaning.specs.Differ.{differ, differ_from}
use Rattle.term_trees.specs.Readings.{read_map, read_signature}
use Rattle.lf_translate.proofs.maps.differ.Given as goal

-- The difference is among the declarations that are left.
abbrev pub invariant-loop-i : goal.invariant-loop-i
invariant-loop-i l = differ_from l.i (read_map l.first) (read_map l.second) (drop l.i (read_signature l.names)) ≡ differ (read_map l.first) (read_map l.second) (read_signature l.names)
