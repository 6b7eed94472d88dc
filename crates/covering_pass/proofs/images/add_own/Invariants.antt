use Rattle.std.proofs.Common.{◌≡◌, drop}
use Rattle.link_meaning.specs.CoveringMaps.{cover_all}
use Rattle.mapping_laws.specs.NextImages.{StandsBefore}
use Rattle.term_trees.specs.Readings.{read_map, read_signature}
use Rattle.covering_pass.specs.CoverTables.{assigned_of, setting_of}
use Rattle.covering_pass.proofs.images.add_own.Given as goal

-- The images that are left are added to the map so far as all were to the first one, and they come next.
abbrev pub invariant-loop-i : goal.invariant-loop-i
invariant-loop-i l = record {
  left : cover_all (setting_of l.coverings.covers) (assigned_of l.coverings.covers) (read_map l.so_far) (drop l.i (read_signature l.own))
      ≡ cover_all (setting_of l.coverings.covers) (assigned_of l.coverings.covers) (read_map l.initial.so_far) (read_signature l.own);
  before : StandsBefore (read_map l.so_far) (drop l.i (read_signature l.own));
}
