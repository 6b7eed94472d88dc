-- The worked examples, by computing.
use Rattle.std.proofs.Common.{refl}
use Rattle.lf_meaning.specs.HeadMaps.{image_of}
use Rattle.translation_meaning.specs.FunctionFamilies.{compose}
use Rattle.function_family_laws.specs.Examples.{EachBaseIsReplaced, BaseBecomesArrow, BaseBecomesBase, ObjectLeavesBase, BaseIsItsDomain, BaseIsItsCodomain, AppliedTwice, LambdaOverFunction, VariableIsLong, DomainsInOrder, UnlistedVariable, UnlistedHasNoType, ConstantWithoutImage, ArgumentAtDomain, IllSortedVariable, LambdaAtBase, SameIsLong, TermIsItself, SameHasType, TermHasType, FamilyLeavesObject, KindLeavesObject, FamilyBecomesFunction, VariableBehindPi, SpineIsTaken, FamilyArgumentAtDomain, BindersAreTaken, BinderAtFunction, KindLeftOnSpine, KindLeftWithBinder, BinderIsLeft, ArgumentWithoutDomain, ObjectLeavesFamily, FamilyWithoutImage, NoImageIsAtType, VariableBehindPiKind, KindIsTranslated, FamilyIsTranslated, ContextIsTranslated, DomainsAreErased, SameIsImage, SameStays, TermIsTranslated, TermAtClass, TermBecomesSame, FamilyBehindDomains, FamilyBecomesSame, TermAtKindStays, FamilyAtFamilyStays, ImagesAreTranslated, OneAfterTheOther, BothAtOnce}

pub each_base_is_replaced : EachBaseIsReplaced
unfolding image_of
each_base_is_replaced = refl

pub base_becomes_arrow : BaseBecomesArrow
unfolding image_of
base_becomes_arrow = refl

pub base_becomes_base : BaseBecomesBase
unfolding image_of
base_becomes_base = refl

pub object_leaves_base : ObjectLeavesBase
unfolding image_of
object_leaves_base = refl

pub base_is_its_domain : BaseIsItsDomain
unfolding image_of
base_is_its_domain = refl

pub base_is_its_codomain : BaseIsItsCodomain
unfolding image_of
base_is_its_codomain = refl

pub applied_twice : AppliedTwice
unfolding image_of
applied_twice = refl

pub lambda_over_function : LambdaOverFunction
unfolding image_of
lambda_over_function = refl

pub variable_is_long : VariableIsLong
unfolding image_of
variable_is_long = refl

pub domains_in_order : DomainsInOrder
unfolding image_of
domains_in_order = refl

pub unlisted_variable : UnlistedVariable
unfolding image_of
unlisted_variable = refl

pub unlisted_has_no_type : UnlistedHasNoType
unfolding image_of
unlisted_has_no_type = refl

pub constant_without_image : ConstantWithoutImage
unfolding image_of
constant_without_image = refl

pub argument_at_domain : ArgumentAtDomain
unfolding image_of
argument_at_domain = refl

pub ill_sorted_variable : IllSortedVariable
unfolding image_of
ill_sorted_variable = refl

pub lambda_at_base : LambdaAtBase
unfolding image_of
lambda_at_base = refl

pub same_is_long : SameIsLong
unfolding image_of
same_is_long = refl

pub term_is_itself : TermIsItself
unfolding image_of
term_is_itself = refl

pub same_has_type : SameHasType
unfolding image_of
same_has_type = refl

pub term_has_type : TermHasType
unfolding image_of
term_has_type = refl

pub family_leaves_object : FamilyLeavesObject
unfolding image_of
family_leaves_object = refl

pub kind_leaves_object : KindLeavesObject
unfolding image_of
kind_leaves_object = refl

pub family_becomes_function : FamilyBecomesFunction
unfolding image_of
family_becomes_function = refl

pub variable_behind_pi : VariableBehindPi
unfolding image_of
variable_behind_pi = refl

pub spine_is_taken : SpineIsTaken
unfolding image_of
spine_is_taken = refl

pub family_argument_at_domain : FamilyArgumentAtDomain
unfolding image_of
family_argument_at_domain = refl

pub binders_are_taken : BindersAreTaken
unfolding image_of
binders_are_taken = refl

pub binder_at_function : BinderAtFunction
unfolding image_of
binder_at_function = refl

pub kind_left_on_spine : KindLeftOnSpine
unfolding image_of
kind_left_on_spine = refl

pub kind_left_with_binder : KindLeftWithBinder
unfolding image_of
kind_left_with_binder = refl

pub binder_is_left : BinderIsLeft
unfolding image_of
binder_is_left = refl

pub argument_without_domain : ArgumentWithoutDomain
unfolding image_of
argument_without_domain = refl

pub object_leaves_family : ObjectLeavesFamily
unfolding image_of
object_leaves_family = refl

pub family_without_image : FamilyWithoutImage
unfolding image_of
family_without_image = refl

pub no_image_is_at_type : NoImageIsAtType
unfolding image_of
no_image_is_at_type = refl

pub variable_behind_pi_kind : VariableBehindPiKind
unfolding image_of
variable_behind_pi_kind = refl

pub kind_is_translated : KindIsTranslated
unfolding image_of
kind_is_translated = refl

pub family_is_translated : FamilyIsTranslated
unfolding image_of
family_is_translated = refl

pub context_is_translated : ContextIsTranslated
unfolding image_of
context_is_translated = refl

pub domains_are_erased : DomainsAreErased
unfolding image_of
domains_are_erased = refl

pub same_is_image : SameIsImage
unfolding image_of
same_is_image = refl

pub same_stays : SameStays
unfolding image_of
same_stays = refl

pub term_is_translated : TermIsTranslated
unfolding image_of
term_is_translated = refl

pub term_at_class : TermAtClass
unfolding image_of
term_at_class = refl

pub term_becomes_same : TermBecomesSame
unfolding image_of
term_becomes_same = refl

pub family_behind_domains : FamilyBehindDomains
unfolding image_of
family_behind_domains = refl

pub family_becomes_same : FamilyBecomesSame
unfolding image_of
family_becomes_same = refl

pub term_at_kind_stays : TermAtKindStays
unfolding image_of
term_at_kind_stays = refl

pub family_at_family_stays : FamilyAtFamilyStays
unfolding image_of
family_at_family_stays = refl

pub images_are_translated : ImagesAreTranslated
unfolding compose image_of
images_are_translated = refl

pub one_after_the_other : OneAfterTheOther
unfolding image_of
one_after_the_other = refl

pub both_at_once : BothAtOnce
unfolding image_of
both_at_once = refl
