use Rattle.face_typing.proofs.LinksTyped.{links_are_typed}
use Rattle.face_typing.proofs.BuildingTyped.{built_scopes_are_typed, built_theories_are_typed, empty_is_typed, inclusions_keep_typed, constants_keep_typed, structures_keep_typed, declarations_keep_typed, all_declarations_keep_typed, views_are_typed}
use Rattle.face_typing.proofs.face_laws.law_typed_declarations.Goals as goal

pub returns-clause-scope : goal.returns-clause-scope
returns-clause-scope c = built_scopes_are_typed links_are_typed

pub returns-clause-words : goal.returns-clause-words
returns-clause-words c = built_theories_are_typed links_are_typed

pub returns-clause-empty : goal.returns-clause-empty
returns-clause-empty c = empty_is_typed links_are_typed

pub returns-clause-inclusions : goal.returns-clause-inclusions
returns-clause-inclusions c = inclusions_keep_typed

pub returns-clause-constants : goal.returns-clause-constants
returns-clause-constants c = constants_keep_typed

pub returns-clause-structures : goal.returns-clause-structures
returns-clause-structures c = structures_keep_typed links_are_typed

pub returns-clause-declaration : goal.returns-clause-declaration
returns-clause-declaration c = declarations_keep_typed links_are_typed

pub returns-clause-theories : goal.returns-clause-theories
returns-clause-theories c = all_declarations_keep_typed links_are_typed

pub returns-clause-views : goal.returns-clause-views
returns-clause-views c = views_are_typed links_are_typed
