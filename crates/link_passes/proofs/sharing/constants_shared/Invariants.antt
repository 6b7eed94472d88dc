use Rattle.std.proofs.Common.{◌≡◌, drop}
use Rattle.term_trees.specs.Readings.{read_map, read_signature}
use Rattle.link_setting.specs.Below.Readings.{read_link}
use Rattle.link_passes.specs.Steps.{share}
use Rattle.link_passes.proofs.sharing.constants_shared.Given as goal

-- The constants that are left decide.
abbrev pub invariant-loop-index : goal.invariant-loop-index
invariant-loop-index l =
    share (read_map l.along) (read_link l.structure) (read_link l.by) (drop l.index (read_signature l.own)) ≡ share (read_map l.along) (read_link l.structure) (read_link l.by) (read_signature l.own)
