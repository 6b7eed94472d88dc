use Rattle.std.proofs.Common.{◌≡◌, drop}
use Rattle.translation_meaning.specs.Differ.{differ, differ_from}
use Rattle.library_meaning.specs.Words.{identity_map}
use Rattle.term_trees.specs.Readings.{read_map, read_signature}
use Rattle.covering_pass.proofs.covering.differs_from_identity.Given as goal

-- The difference is among the declarations that are left.
abbrev pub invariant-loop-i : goal.invariant-loop-i
invariant-loop-i l =
    differ_from l.i (identity_map (read_signature l.own)) (read_map l.map) (drop l.i (read_signature l.own))
    ≡ differ (identity_map (read_signature l.own)) (read_map l.map) (read_signature l.own)
