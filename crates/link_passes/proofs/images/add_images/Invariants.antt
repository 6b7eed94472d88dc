use Rattle.std.proofs.Common.{◌≡◌, drop}
use Rattle.link_meaning.specs.Passes.{map_all}
use Rattle.mapping_laws.specs.NextImages.{StandsBefore}
use Rattle.term_trees.specs.Readings.{read_map, read_signature}
use Rattle.link_setting.specs.Readings.{read_all_assigned, read_setting}
use Rattle.link_passes.proofs.images.add_images.Given as goal

-- The declarations that are left go on from the map so far, which has images for all that stands before them.
abbrev pub invariant-loop-index : goal.invariant-loop-index
invariant-loop-index l = record {
  left :
      map_all (read_setting l.setting) (read_all_assigned l.assigned) (read_map l.along) (drop l.index (read_signature l.own))
      ≡ map_all (read_setting l.setting) (read_all_assigned l.assigned) (read_map l.initial.along) (read_signature l.own);
  before : StandsBefore (read_map l.along) (drop l.index (read_signature l.own));
}
