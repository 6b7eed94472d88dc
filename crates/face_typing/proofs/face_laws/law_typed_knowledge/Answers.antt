use Rattle.face_typing.proofs.LinksTyped.{links_are_typed}
use Rattle.face_typing.proofs.LibrariesTyped.{grounded_know_typed, closed_are_typed}
use Rattle.face_typing.proofs.face_laws.law_typed_knowledge.Goals as goal

pub returns-clause-grounded : goal.returns-clause-grounded
returns-clause-grounded c = grounded_know_typed links_are_typed

pub returns-clause-closed : goal.returns-clause-closed
returns-clause-closed c = closed_are_typed links_are_typed
