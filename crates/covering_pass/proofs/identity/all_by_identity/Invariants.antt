use Rattle.std.proofs.Common.{◌≡◌, drop}
use Rattle.std.specs.List.{list_all}
use Rattle.link_meaning.specs.Coverings.{identity_covers}
use Rattle.covering_pass.specs.CoverTables.{assigned_of, setting_of}
use Rattle.covering_pass.proofs.identity.all_by_identity.Given as goal

-- Those that are left decide.
abbrev pub invariant-loop-theory : goal.invariant-loop-theory
invariant-loop-theory l =
    list_all (identity_covers (setting_of l.covers) (assigned_of l.covers)) (drop l.theory-index l.theories)
    ≡ list_all (identity_covers (setting_of l.covers) (assigned_of l.covers)) l.theories
