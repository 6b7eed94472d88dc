use Rattle.link_laws.proofs.SameEnds.{reading_keeps_to_ends, coverings_keep_to_ends, covering_map_keeps_to_ends}
use Rattle.link_laws.proofs.covering_laws.law_ends.Goals as goal

pub returns-clause-reading : goal.returns-clause-reading
returns-clause-reading c = reading_keeps_to_ends

pub returns-clause-coverings : goal.returns-clause-coverings
returns-clause-coverings c = coverings_keep_to_ends

pub returns-clause-map : goal.returns-clause-map
returns-clause-map c = covering_map_keeps_to_ends
