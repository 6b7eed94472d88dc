use Rattle.coherence_laws.proofs.LibrariesHold.{faces_are_coherent, grounded_know_coherent, closed_are_coherent}
use Rattle.coherence_laws.proofs.face_laws.law_faces.Goals as goal

pub returns-clause-faces : goal.returns-clause-faces
returns-clause-faces c = faces_are_coherent

pub returns-clause-known : goal.returns-clause-known
returns-clause-known c = grounded_know_coherent

pub returns-clause-closed : goal.returns-clause-closed
returns-clause-closed c = closed_are_coherent
