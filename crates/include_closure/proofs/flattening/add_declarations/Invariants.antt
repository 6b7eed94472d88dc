use Rattle.std.proofs.Common.{◌≡◌, ◌++◌, take}
use Rattle.term_trees.specs.Readings.{read_signature}
use Rattle.include_closure.proofs.flattening.add_declarations.Given as goal

abbrev pub invariant-loop-index : goal.invariant-loop-index
invariant-loop-index l = read_signature l.signature ≡ read_signature l.initial.signature ++ take l.index (read_signature l.own)
