use Rattle.coherence_laws.proofs.BuildingHolds.{structures_hold_so_far, views_hold_so_far}
use Rattle.coherence_laws.proofs.building_laws.law_links_so_far.Goals as goal

pub returns-clause-structures : goal.returns-clause-structures
returns-clause-structures c = structures_hold_so_far

pub returns-clause-views : goal.returns-clause-views
returns-clause-views c = views_hold_so_far
