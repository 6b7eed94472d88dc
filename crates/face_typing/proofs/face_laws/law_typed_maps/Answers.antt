use Rattle.face_typing.proofs.Below.ProperImages.{coherent_maps_are_proper}
use Rattle.face_typing.proofs.LibrariesTyped.{known_views_translate, known_structures_translate}
use Rattle.face_typing.proofs.face_laws.law_typed_maps.Goals as goal

pub returns-clause-proper : goal.returns-clause-proper
returns-clause-proper c = coherent_maps_are_proper

pub returns-clause-views : goal.returns-clause-views
returns-clause-views c = known_views_translate

pub returns-clause-structures : goal.returns-clause-structures
returns-clause-structures c = known_structures_translate
