use Rattle.std.proofs.Common.{◌≡◌, drop, take, map}
use Rattle.translation_meaning.specs.Translation.{translate_object}
use Rattle.term_trees.specs.Readings.{read_map, read_objects}
use Rattle.term_trees.specs.Changes.{gathered}
use Rattle.lf_translate.specs.Spines.{unmapped_arguments}
use Rattle.lf_translate.proofs.objects.+objects.Given as goal

-- What is left has the first constant without an image.
abbrev pub invariant-translated_arguments-loop-i : goal.invariant-translated_arguments-loop-i
invariant-translated_arguments-loop-i l = record {
  translated : gathered l.items l.i l.so_far ≡ map (translate_object (read_map l.map)) (read_objects (take l.i l.items));
  missing : unmapped_arguments (read_map l.map) (read_objects (drop l.i l.items)) ≡ unmapped_arguments (read_map l.map) (read_objects l.items);
}
