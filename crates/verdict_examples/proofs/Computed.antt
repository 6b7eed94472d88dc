-- The worked cases compute.
use Rattle.std.specs.Char.{encode_utf8}
use Rattle.std.specs.Str.{is_utf8, chars}
use Rattle.std.specs.Str.Lossy.{utf8_valid_len}
use Rattle.std.proofs.Common.{refl}
use Rattle.name_meaning.specs.Names.{is_among, with_name, with_names}
use Rattle.edit_log_meaning.specs.Log.{with_module, without_module, text_of}
use Rattle.module_graph_meaning.specs.Walks.{direct, walking, ungrounded_names}
use Rattle.module_graph_meaning.specs.Reach.{reach_within, reach}
use Rattle.lf_meaning.specs.HeadMaps.{image_of}
use Rattle.translation_meaning.specs.Translation.{translate_object, translate_head, translate_family, translate_kind, translate_value, compose}
use Rattle.translation_meaning.specs.Differ.{differ_from}
use Rattle.library_meaning.specs.Faces.{structure_of}
use Rattle.library_meaning.specs.Closure.{with_all, with_inclusion}
use Rattle.library_meaning.specs.Resolution.{variable_from, resolve}
use Rattle.library_meaning.specs.Words.{structures_link, row_from, row_meaning}
use Rattle.text_meaning.specs.Cutting.{cut_on, lex}
use Rattle.text_meaning.specs.Parsing.{resume, answer_on, parse}
use Rattle.text_meaning.specs.TextAnswers.{read}
use Rattle.elaborate_meaning.specs.NameHeads.{name_head}
use Rattle.elaborate_meaning.specs.Expansion.{expand_object, expand_head, expand_arguments, expand_family, expand_kind}
use Rattle.elaborate_meaning.specs.Values.{ends_in_type, expand_class, expand_family_value, expand_value}
use Rattle.link_meaning.specs.Assignments.{is_beginning, read_assigns}
use Rattle.link_meaning.specs.Coverings.{covered_tests}
use Rattle.link_meaning.specs.Passes.{rest_behind, reached_by, map_all, assigned_map, link_map}
use Rattle.text_meaning.specs.Dependencies.{dependencies}
use Rattle.verdict_meaning.specs.Modules.{declare_all}
use Rattle.verdict_meaning.specs.Verdicts.{judge}
use Rattle.verdict_meaning.specs.Rounds.{verdict_under, others_reached, rounds, verdicts, verdict_of}
use Rattle.verdict_examples.specs.RuleExamples.{ViewIsNoTheory, NameUsedTwice, ObjectIsNoFamily, AtomIsNoFunction, OtherDomain, TargetIsUnknown, TargetIsAssignedTwice, EndsDoNotMeet, ProductIsNoValue, FamilyOfAnotherKind, FamilyUnderLambda, FamilyApplied, SharedStructureDisagrees, SharedStructureAgrees, SharedStructureAgrees}
use Rattle.verdict_examples.specs.Examples.{NaturalNumbers, MisspelledName, EtaShortArgument, EtaLongArgument, MonoidOverLogic, MonoidIsChecked, MixedCopies, TwoCopies, AssignedStructure, Ring, BareStructure, AssignedConstantsAreDefined, RingHasOneSet, SharedInclusion, AmbiguousName, QualifiedName, ViewOfDefinition, ClashWithDefinition, MissingAssignment, IllTypedAssignment, FirstCovering, DisagreeingInclusions, NineAreAccepted, EmptyText, PercentWord, OpenComment, WrongName, CycleOfA, CycleOfB, CycleOfC, AWithoutB, BWithoutB, CWithoutB}

-- What all worked cases compute with.
unfoldable pub judging : Unit {0}
unfolding encode_utf8 is_utf8 chars utf8_valid_len is_among with_name with_names with_module without_module text_of direct walking reach_within reach image_of translate_object translate_head translate_family translate_kind translate_value compose differ_from structure_of with_all with_inclusion variable_from resolve structures_link row_from row_meaning cut_on lex resume answer_on parse read name_head expand_object expand_head expand_arguments expand_family expand_kind ends_in_type expand_class expand_family_value expand_value is_beginning read_assigns covered_tests rest_behind reached_by map_all assigned_map link_map dependencies declare_all judge verdict_under others_reached ungrounded_names rounds verdicts verdict_of
judging = tt

pub natural_numbers : NaturalNumbers
unfolding judging
natural_numbers = refl

pub misspelled_name : MisspelledName
unfolding judging
misspelled_name = refl

pub eta_short_argument : EtaShortArgument
unfolding judging
eta_short_argument = refl

pub eta_long_argument : EtaLongArgument
unfolding judging
eta_long_argument = refl

pub monoid_over_logic : MonoidOverLogic
unfolding judging
monoid_over_logic = refl

pub monoid_is_checked : MonoidIsChecked
unfolding judging
monoid_is_checked = refl

pub mixed_copies : MixedCopies
unfolding judging
mixed_copies = refl

pub two_copies : TwoCopies
unfolding judging
two_copies = refl

pub assigned_structure : AssignedStructure
unfolding judging
assigned_structure = refl

pub ring : Ring
unfolding judging
ring = refl

pub bare_structure : BareStructure
unfolding judging
bare_structure = refl

pub shared_inclusion : SharedInclusion
unfolding judging
shared_inclusion = refl

pub ambiguous_name : AmbiguousName
unfolding judging
ambiguous_name = refl

pub qualified_name : QualifiedName
unfolding judging
qualified_name = refl

pub view_of_definition : ViewOfDefinition
unfolding judging
view_of_definition = refl

pub clash_with_definition : ClashWithDefinition
unfolding judging
clash_with_definition = refl

pub missing_assignment : MissingAssignment
unfolding judging
missing_assignment = refl

pub ill_typed_assignment : IllTypedAssignment
unfolding judging
ill_typed_assignment = refl

pub first_covering : FirstCovering
unfolding judging
first_covering = refl

pub disagreeing_inclusions : DisagreeingInclusions
unfolding judging
disagreeing_inclusions = refl

pub nine_are_accepted : NineAreAccepted
unfolding judging
nine_are_accepted = refl

pub empty_text : EmptyText
unfolding judging
empty_text = refl

pub percent_word : PercentWord
unfolding judging
percent_word = refl

pub open_comment : OpenComment
unfolding judging
open_comment = refl

pub wrong_name : WrongName
unfolding judging
wrong_name = refl

pub cycle_of_a : CycleOfA
unfolding judging
cycle_of_a = refl

pub cycle_of_b : CycleOfB
unfolding judging
cycle_of_b = refl

pub cycle_of_c : CycleOfC
unfolding judging
cycle_of_c = refl

pub a_without_b : AWithoutB
unfolding judging
a_without_b = refl

pub b_without_b : BWithoutB
unfolding judging
b_without_b = refl

pub c_without_b : CWithoutB
unfolding judging
c_without_b = refl

pub assigned_constants_are_defined : AssignedConstantsAreDefined
unfolding judging
assigned_constants_are_defined = refl

pub ring_has_one_set : RingHasOneSet
unfolding judging
ring_has_one_set = refl

pub view_is_no_theory : ViewIsNoTheory
unfolding judging
view_is_no_theory = refl

pub name_used_twice : NameUsedTwice
unfolding judging
name_used_twice = refl

pub object_is_no_family : ObjectIsNoFamily
unfolding judging
object_is_no_family = refl

pub atom_is_no_function : AtomIsNoFunction
unfolding judging
atom_is_no_function = refl

pub other_domain : OtherDomain
unfolding judging
other_domain = refl

pub target_is_unknown : TargetIsUnknown
unfolding judging
target_is_unknown = refl

pub target_is_assigned_twice : TargetIsAssignedTwice
unfolding judging
target_is_assigned_twice = refl

pub ends_do_not_meet : EndsDoNotMeet
unfolding judging
ends_do_not_meet = refl

pub product_is_no_value : ProductIsNoValue
unfolding judging
product_is_no_value = refl

pub family_of_another_kind : FamilyOfAnotherKind
unfolding judging
family_of_another_kind = refl

pub family_under_lambda : FamilyUnderLambda
unfolding judging
family_under_lambda = refl

pub family_applied : FamilyApplied
unfolding judging
family_applied = refl

pub shared_structure_disagrees : SharedStructureDisagrees
unfolding judging
shared_structure_disagrees = refl

pub shared_structure_agrees : SharedStructureAgrees
unfolding judging
shared_structure_agrees = refl
