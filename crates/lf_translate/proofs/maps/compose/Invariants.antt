use Rattle.std.proofs.Common.{◌≡◌, drop, take}
use Rattle.translation_meaning.specs.Translation.{compose}
use Rattle.translation_meaning.specs.Unmapped.{unmapped_map}
use Rattle.term_trees.specs.Readings.{read_map}
use Rattle.lf_translate.proofs.maps.compose.Given as goal

-- The mappings so far, and the first constant without an image in those that are left.
abbrev pub invariant-loop-i : goal.invariant-loop-i
invariant-loop-i l = record {
  translated : read_map l.composed ≡ compose (take l.i (read_map l.first)) (read_map l.second);
  missing : unmapped_map (read_map l.second) (drop l.i (read_map l.first)) ≡ unmapped_map (read_map l.second) (read_map l.first);
}
