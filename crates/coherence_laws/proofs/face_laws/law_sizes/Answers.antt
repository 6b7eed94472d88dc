use Rattle.coherence_laws.proofs.SizesHold.{sizes_are_lengths, grounded_know_sizes, closed_have_sizes, maps_have_lengths}
use Rattle.coherence_laws.proofs.face_laws.law_sizes.Goals as goal

pub returns-clause-faces : goal.returns-clause-faces
returns-clause-faces c = sizes_are_lengths

pub returns-clause-known : goal.returns-clause-known
returns-clause-known c = grounded_know_sizes

pub returns-clause-closed : goal.returns-clause-closed
returns-clause-closed c = closed_have_sizes

pub returns-clause-views : goal.returns-clause-views
returns-clause-views c = maps_have_lengths
