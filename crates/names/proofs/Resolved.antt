-- Resolution from its four cases.
use Rattle.std.proofs.Common.{◌≡◌, ℕ, Option}
use Rattle.name_meaning.specs.Names.{Path}
use Rattle.lf_meaning.specs.Signatures.{Declaration}
use Rattle.library_meaning.specs.Resolution.{Scope, Variables, Resolved, bound_variable, own_at, qualified, included_at, the_only, or_variable, or_declared, resolve}

pub resolved : (scope : Scope) (vars : Variables) (path : Path) (bound : Option ℕ) (own named : Option Declaration) (only : Resolved)
    → bound ≡ bound_variable vars path → own ≡ own_at scope.own path → named ≡ qualified scope path → only ≡ the_only (included_at scope path)
    → or_variable bound (or_declared own (or_declared named only)) ≡ resolve scope vars path
unfolding resolve
resolved scope vars path bound own named only is_bound is_own is_named is_only = λ i. or_variable (is_bound i) (or_declared (is_own i) (or_declared (is_named i) (is_only i)))
