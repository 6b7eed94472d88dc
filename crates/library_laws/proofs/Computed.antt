-- The worked examples compute.
use Rattle.std.proofs.Common.{refl}
use Rattle.name_meaning.specs.Names.{is_among}
use Rattle.library_meaning.specs.Closure.{with_all, with_inclusion, closure_of}
use Rattle.library_meaning.specs.Resolution.{variable_from, resolve}
use Rattle.library_laws.specs.Examples.{DiamondIsShared, DiamondHasSix, SharedIsFound, TwoAreAmbiguous, QualifiedIsFound, OwnIsFound, OwnIsNotQualified, BinderHides}

-- What all examples compute with.
abbrev looking_up : Unit {0}
unfolding is_among with_all with_inclusion closure_of variable_from resolve
looking_up = tt

pub diamond_is_shared : DiamondIsShared
unfolding looking_up
diamond_is_shared = refl

pub diamond_has_six : DiamondHasSix
unfolding looking_up
diamond_has_six = refl

pub shared_is_found : SharedIsFound
unfolding looking_up
shared_is_found = refl

pub two_are_ambiguous : TwoAreAmbiguous
unfolding looking_up
two_are_ambiguous = refl

pub qualified_is_found : QualifiedIsFound
unfolding looking_up
qualified_is_found = refl

pub own_is_found : OwnIsFound
unfolding looking_up
own_is_found = refl

pub own_is_not_qualified : OwnIsNotQualified
unfolding looking_up
own_is_not_qualified = refl

pub binder_hides : BinderHides
unfolding looking_up
binder_hides = refl
