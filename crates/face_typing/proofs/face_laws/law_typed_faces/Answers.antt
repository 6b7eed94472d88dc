use Rattle.face_typing.proofs.LinksTyped.{links_are_typed}
use Rattle.face_typing.proofs.LibrariesTyped.{faces_are_typed, theories_flatten, views_carry_typing, structures_carry_typing}
use Rattle.face_typing.proofs.face_laws.law_typed_faces.Goals as goal

pub returns-clause-faces : goal.returns-clause-faces
returns-clause-faces c = faces_are_typed links_are_typed

pub returns-clause-theories : goal.returns-clause-theories
returns-clause-theories c = theories_flatten (faces_are_typed links_are_typed)

pub returns-clause-views : goal.returns-clause-views
returns-clause-views c = views_carry_typing (faces_are_typed links_are_typed)

pub returns-clause-structures : goal.returns-clause-structures
returns-clause-structures c = structures_carry_typing (faces_are_typed links_are_typed)
