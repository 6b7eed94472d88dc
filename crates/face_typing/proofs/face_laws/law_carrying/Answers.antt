use Rattle.face_typing.proofs.LibrariesTyped.{known_views_carry, known_structures_carry}
use Rattle.face_typing.proofs.face_laws.law_carrying.Goals as goal

pub returns-clause-views : goal.returns-clause-views
returns-clause-views c = known_views_carry

pub returns-clause-structures : goal.returns-clause-structures
returns-clause-structures c = known_structures_carry
