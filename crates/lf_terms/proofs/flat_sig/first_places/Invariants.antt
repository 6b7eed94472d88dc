use Rattle.std.proofs.Common.{take}
use Rattle.lf_terms.specs.Tables.{HasFirstPlaces}
use Rattle.lf_terms.proofs.flat_sig.first_places.Given as goal

-- The places of the declarations so far.
abbrev pub invariant-loop-index : goal.invariant-loop-index
invariant-loop-index l = HasFirstPlaces l.places.entries (take l.index l.decls.keys)
