-- The worked cases of what is left short compute.
use Rattle.std.proofs.Common.{refl}
use Rattle.verdict_examples.proofs.Computed.{judging}
use Rattle.verdict_examples.specs.ShortTerms.{ShortArguments, ThirdOrderDomain, DependentProduct, ShortFamilies, OneNameStaysTheSame, LambdaIsLeft, AtomAtAProduct, NameOfAnotherProduct, ApplicationOfAnotherKind, ApplicationThatMissesAnArgument}

pub short_arguments : ShortArguments
unfolding judging
short_arguments = refl

pub third_order_domain : ThirdOrderDomain
unfolding judging
third_order_domain = refl

pub dependent_product : DependentProduct
unfolding judging
dependent_product = refl

pub short_families : ShortFamilies
unfolding judging
short_families = refl

pub one_name_stays_the_same : OneNameStaysTheSame
unfolding judging
one_name_stays_the_same = refl

pub lambda_is_left : LambdaIsLeft
unfolding judging
lambda_is_left = refl

pub atom_at_a_product : AtomAtAProduct
unfolding judging
atom_at_a_product = refl

pub name_of_another_product : NameOfAnotherProduct
unfolding judging
name_of_another_product = refl

pub application_of_another_kind : ApplicationOfAnotherKind
unfolding judging
application_of_another_kind = refl

pub application_that_misses_an_argument : ApplicationThatMissesAnArgument
unfolding judging
application_that_misses_an_argument = refl
