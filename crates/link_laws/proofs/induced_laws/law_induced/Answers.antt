use Rattle.link_laws.proofs.InducedPlaces.{induced_by_place}
use Rattle.link_laws.proofs.induced_laws.law_induced.Goals as goal

pub returns : goal.returns
returns c = induced_by_place
