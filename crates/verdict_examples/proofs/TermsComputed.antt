-- The worked cases of declarations compute.
use Rattle.std.proofs.Common.{refl}
use Rattle.verdict_examples.proofs.Computed.{judging}
use Rattle.verdict_examples.specs.TermOrder.{CycleBeforeWrongName, ArgumentsBeforeTheClassifier, UnknownNameAtAProduct, ValueOfAnotherLevel, LambdaAsAHead, LambdaAtAnAtomicFamilyBeforeItsDomain, OrderInARowOfBackArrows, ApplicationAtAKindWithADomain, LambdaAtType, LevelBeforeArguments, WrongNameBeforeDeclarations, SecondInclusion, AnnotationBeforeTheBody}

pub cycle_before_wrong_name : CycleBeforeWrongName
unfolding judging
cycle_before_wrong_name = refl

pub arguments_before_the_classifier : ArgumentsBeforeTheClassifier
unfolding judging
arguments_before_the_classifier = refl

pub unknown_name_at_a_product : UnknownNameAtAProduct
unfolding judging
unknown_name_at_a_product = refl

pub value_of_another_level : ValueOfAnotherLevel
unfolding judging
value_of_another_level = refl

pub lambda_as_a_head : LambdaAsAHead
unfolding judging
lambda_as_a_head = refl

pub lambda_at_an_atomic_family_before_its_domain : LambdaAtAnAtomicFamilyBeforeItsDomain
unfolding judging
lambda_at_an_atomic_family_before_its_domain = refl

pub order_in_a_row_of_back_arrows : OrderInARowOfBackArrows
unfolding judging
order_in_a_row_of_back_arrows = refl

pub application_at_a_kind_with_a_domain : ApplicationAtAKindWithADomain
unfolding judging
application_at_a_kind_with_a_domain = refl

pub lambda_at_type : LambdaAtType
unfolding judging
lambda_at_type = refl

pub level_before_arguments : LevelBeforeArguments
unfolding judging
level_before_arguments = refl

pub wrong_name_before_declarations : WrongNameBeforeDeclarations
unfolding judging
wrong_name_before_declarations = refl

pub second_inclusion : SecondInclusion
unfolding judging
second_inclusion = refl

pub annotation_before_the_body : AnnotationBeforeTheBody
unfolding judging
annotation_before_the_body = refl
