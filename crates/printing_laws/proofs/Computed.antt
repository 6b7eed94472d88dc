-- The worked examples compute.
use Rattle.std.proofs.Common.{refl}
use Rattle.std.specs.Fmt.{digits}
use Rattle.printing_meaning.specs.Prefixes.{marks, free_from, prefix_of}
use Rattle.printing_meaning.specs.Constants.{path_text}
use Rattle.printing_meaning.specs.PrintedTerms.{object_uses, atomic_uses, family_uses, atomic_family_uses, kind_uses, object_text, atomic_text, atomic_family_text, family_text, kind_text, binders_text}
use Rattle.printing_laws.specs.Examples.{MapIsPrinted, PrefixIsChanged, JudgementIsPrinted, IllIsPrinted, NoViewIsPrinted, MonoidIsPrinted, VerdictIsPrinted, ViewVerdictIsPrinted, RefusalIsPrinted, DefinitionsArePrinted, BodiesAreCounted, DomainsAreParenthesized, FamilyValueIsPrinted, LambdaIsParenthesized}

abbrev printer : Unit {0}
unfolding digits marks free_from prefix_of path_text object_uses atomic_uses family_uses atomic_family_uses kind_uses object_text atomic_text atomic_family_text family_text kind_text binders_text
printer = tt

pub map_is_printed : MapIsPrinted
unfolding printer
map_is_printed = refl

pub prefix_is_changed : PrefixIsChanged
unfolding printer
prefix_is_changed = refl

pub judgement_is_printed : JudgementIsPrinted
unfolding printer
judgement_is_printed = refl

pub ill_is_printed : IllIsPrinted
unfolding printer
ill_is_printed = refl

pub no_view_is_printed : NoViewIsPrinted
unfolding printer
no_view_is_printed = refl

pub monoid_is_printed : MonoidIsPrinted
unfolding printer
monoid_is_printed = refl

pub verdict_is_printed : VerdictIsPrinted
unfolding printer
verdict_is_printed = refl

pub view_verdict_is_printed : ViewVerdictIsPrinted
unfolding printer
view_verdict_is_printed = refl

pub refusal_is_printed : RefusalIsPrinted
unfolding printer
refusal_is_printed = refl

pub definitions_are_printed : DefinitionsArePrinted
unfolding printer
definitions_are_printed = refl

pub bodies_are_counted : BodiesAreCounted
unfolding printer
bodies_are_counted = refl

pub domains_are_parenthesized : DomainsAreParenthesized
unfolding printer
domains_are_parenthesized = refl

pub family_value_is_printed : FamilyValueIsPrinted
unfolding printer
family_value_is_printed = refl

pub lambda_is_parenthesized : LambdaIsParenthesized
unfolding printer
lambda_is_parenthesized = refl
