use Rattle.translation_typing.proofs.Laws.{substituted_objects_are_translated, substituted_families_are_translated, substituted_kinds_are_translated}
use Rattle.translation_typing.proofs.typing_laws.law_translation_substitutes.Goals as goal

pub returns-clause-object : goal.returns-clause-object
returns-clause-object c = substituted_objects_are_translated

pub returns-clause-family : goal.returns-clause-family
returns-clause-family c = substituted_families_are_translated

pub returns-clause-kind : goal.returns-clause-kind
returns-clause-kind c = substituted_kinds_are_translated
