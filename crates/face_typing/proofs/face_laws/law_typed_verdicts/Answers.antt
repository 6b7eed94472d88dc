use Rattle.face_typing.proofs.LinksTyped.{links_are_typed}
use Rattle.face_typing.proofs.LibrariesTyped.{judged_theories_are_typed, judged_views_are_typed}
use Rattle.face_typing.proofs.face_laws.law_typed_verdicts.Goals as goal

pub returns-clause-theories : goal.returns-clause-theories
returns-clause-theories c = judged_theories_are_typed links_are_typed

pub returns-clause-views : goal.returns-clause-views
returns-clause-views c = judged_views_are_typed links_are_typed
