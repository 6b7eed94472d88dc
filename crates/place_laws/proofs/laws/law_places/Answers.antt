use Rattle.place_laws.proofs.ReadingPlaces.{reading_stands_within}
use Rattle.place_laws.proofs.laws.law_places.Goals as goal

pub returns : goal.returns
returns c = reading_stands_within
