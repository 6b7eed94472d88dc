use Rattle.std.proofs.Common.{◌≡◌, ◌++◌, take, length}
use Rattle.term_trees.specs.Readings.{read_map, read_signature}
use Rattle.struct_flatten.specs.Steps.{induced_into}
use Rattle.struct_flatten.proofs.induced.add_all.Given as goal

-- What is induced so far stands behind what was there.
abbrev pub invariant-loop-index : goal.invariant-loop-index
invariant-loop-index l =
    (read_signature l.own ≡ read_signature l.initial.own ++ induced_into l.here l.face.name (read_map l.face.map) (take l.index (read_signature l.declarations)))
    × (take (length l.initial.own) l.own ≡ l.initial.own)
