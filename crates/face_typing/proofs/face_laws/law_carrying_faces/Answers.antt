use Rattle.face_typing.proofs.MapsCarry.{typed_theories_flatten, typed_views_carry}
use Rattle.face_typing.proofs.face_laws.law_carrying_faces.Goals as goal

pub returns-clause-theories : goal.returns-clause-theories
returns-clause-theories c = typed_theories_flatten

pub returns-clause-views : goal.returns-clause-views
returns-clause-views c = typed_views_carry
