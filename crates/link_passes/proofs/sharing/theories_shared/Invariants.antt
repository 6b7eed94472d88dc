use Rattle.std.proofs.Common.{◌≡◌, drop}
use Rattle.library_meaning.specs.Faces.{own_parts}
use Rattle.term_trees.specs.Readings.{read_map}
use Rattle.mmt_interface.specs.Readings.{environment_of}
use Rattle.link_setting.specs.Below.Readings.{read_link}
use Rattle.link_passes.specs.Steps.{share}
use Rattle.link_passes.proofs.sharing.theories_shared.Given as goal

-- The theories that are left decide.
abbrev pub invariant-loop-theory : goal.invariant-loop-theory
invariant-loop-theory l =
    share (read_map l.along) (read_link l.structure) (read_link l.by) (own_parts (environment_of l.faces) (drop l.theory-index l.theories))
    ≡ share (read_map l.along) (read_link l.structure) (read_link l.by) (own_parts (environment_of l.faces) l.theories)
