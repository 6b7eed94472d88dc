use Rattle.std.proofs.Common.{◌≡◌, ◌++◌, drop}
use Rattle.std.specs.Prelude.{slice_get}
use Rattle.lf_terms.specs.Parts.{pairs_of}
use Rattle.lf_terms.proofs.head_map.HeadMap.at.Given as goal

-- What stands at the index stands behind the parts so far at what is left of it.
abbrev pub invariant-loop-index : goal.invariant-loop-index
invariant-loop-index l =
    slice_get (pairs_of (drop l.index l.self-inside.parts.entries) ++ l.self-inside.own.entries) l.left
    ≡ slice_get (pairs_of l.self-inside.parts.entries ++ l.self-inside.own.entries) l.i
