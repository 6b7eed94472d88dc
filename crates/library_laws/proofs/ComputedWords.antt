-- The worked examples of words compute.
use Rattle.std.proofs.Common.{refl}
use Rattle.name_meaning.specs.Names.{is_among}
use Rattle.lf_meaning.specs.HeadMaps.{image_of}
use Rattle.library_meaning.specs.Below.Translation.{translate_object, translate_head, translate_family, translate_kind, translate_value, compose}
use Rattle.library_meaning.specs.Faces.{structure_of}
use Rattle.library_meaning.specs.Words.{structures_link, row_from, row_meaning}
use Rattle.library_laws.specs.WordExamples.{StructuresCompose, WordsCompose, OwnStructuresAreHere, EndsAreApart, ModuleIsUnknown, ModuleIsRefused, TheoryIsNoWord, ViewHasNoStructures, StructureIsUnknown}

-- What all examples compute with.
abbrev linking : Unit {0}
unfolding is_among image_of translate_object translate_head translate_family translate_kind translate_value compose structure_of structures_link row_from row_meaning
linking = tt

pub structures_compose : StructuresCompose
unfolding linking
structures_compose = refl

pub words_compose : WordsCompose
unfolding linking
words_compose = refl

pub own_structures_are_here : OwnStructuresAreHere
unfolding linking
own_structures_are_here = refl

pub ends_are_apart : EndsAreApart
unfolding linking
ends_are_apart = refl

pub module_is_unknown : ModuleIsUnknown
unfolding linking
module_is_unknown = refl

pub module_is_refused : ModuleIsRefused
unfolding linking
module_is_refused = refl

pub theory_is_no_word : TheoryIsNoWord
unfolding linking
theory_is_no_word = refl

pub view_has_no_structures : ViewHasNoStructures
unfolding linking
view_has_no_structures = refl

pub structure_is_unknown : StructureIsUnknown
unfolding linking
structure_is_unknown = refl
