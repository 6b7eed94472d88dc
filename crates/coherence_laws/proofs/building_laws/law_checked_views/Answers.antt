use Rattle.coherence_laws.proofs.BuildingHolds.{views_are_coherent}
use Rattle.coherence_laws.proofs.building_laws.law_checked_views.Goals as goal

pub returns : goal.returns
returns c = views_are_coherent
