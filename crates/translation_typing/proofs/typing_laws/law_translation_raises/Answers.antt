use Rattle.translation_typing.proofs.Laws.{raised_objects_are_translated, raised_families_are_translated, raised_kinds_are_translated}
use Rattle.translation_typing.proofs.typing_laws.law_translation_raises.Goals as goal

pub returns-clause-object : goal.returns-clause-object
returns-clause-object c = raised_objects_are_translated

pub returns-clause-family : goal.returns-clause-family
returns-clause-family c = raised_families_are_translated

pub returns-clause-kind : goal.returns-clause-kind
returns-clause-kind c = raised_kinds_are_translated
