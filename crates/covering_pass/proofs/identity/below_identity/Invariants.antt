use Rattle.std.proofs.Common.{◌≡◌, take}
use Rattle.name_meaning.specs.Names.{Name}
use Rattle.library_meaning.specs.Closure.{sees}
use Rattle.covering_pass.specs.CoverTables.{assigned_of, is_below_identity, setting_of}
use Rattle.covering_pass.proofs.identity.below_identity.Given as goal

abbrev pub invariant-loop-theory : goal.invariant-loop-theory
invariant-loop-theory l = (theory : Name) → sees l.below.keys theory ≡ is_below_identity (setting_of l.covers) (assigned_of l.covers) (take l.theory-index l.theories) theory
