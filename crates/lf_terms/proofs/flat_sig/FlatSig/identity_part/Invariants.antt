use Rattle.std.proofs.Common.{◌≡◌, take}
use Rattle.library_meaning.specs.Words.{identity_map}
use Rattle.term_trees.specs.Readings.{read_map, read_signature}
use Rattle.lf_terms.proofs.flat_sig.FlatSig.identity_part.Given as goal

-- The images of the declarations so far.
abbrev pub invariant-loop-i : goal.invariant-loop-i
invariant-loop-i l = read_map l.part ≡ take l.i (identity_map (read_signature l.self))
