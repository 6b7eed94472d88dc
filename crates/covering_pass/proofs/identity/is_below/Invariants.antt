use Rattle.std.proofs.Common.{◌≡◌, drop}
use Rattle.covering_pass.specs.CoverTables.{assigned_of, is_below_identity, setting_of}
use Rattle.covering_pass.proofs.identity.is_below.Given as goal

-- Those that are left decide.
abbrev pub invariant-loop-other : goal.invariant-loop-other
invariant-loop-other l =
    is_below_identity (setting_of l.covers) (assigned_of l.covers) (drop l.other-index l.others) l.theory
    ≡ is_below_identity (setting_of l.covers) (assigned_of l.covers) l.others l.theory
