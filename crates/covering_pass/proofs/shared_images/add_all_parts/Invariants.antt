use Rattle.std.proofs.Common.{◌≡◌, [], take, drop}
use Rattle.library_meaning.specs.Faces.{own_parts}
use Rattle.link_meaning.specs.CoveringMaps.{cover_all}
use Rattle.term_trees.specs.Readings.{read_map}
use Rattle.morphism_words_typing.proofs.SharedParts.{Keeps}
use Rattle.covering_pass.specs.CoverTables.{assigned_of, setting_of}
use Rattle.covering_pass.proofs.shared_images.add_all_parts.Given as goal

-- The images that are left are added to the map so far as all are to the empty one, and the map so far keeps what the identity covers.
abbrev pub invariant-loop-theory : goal.invariant-loop-theory
invariant-loop-theory l = record {
  left : cover_all (setting_of l.coverings.covers) (assigned_of l.coverings.covers) (read_map l.so_far) (own_parts (setting_of l.coverings.covers).environment (drop l.theory-index l.theories))
      ≡ cover_all (setting_of l.coverings.covers) (assigned_of l.coverings.covers) [] (own_parts (setting_of l.coverings.covers).environment l.theories);
  kept : Keeps (setting_of l.coverings.covers) (assigned_of l.coverings.covers) (take l.theory-index l.theories) (read_map l.so_far);
}
