use Rattle.link_laws.proofs.CoveringMaps.{covering_map_meets_coverings, one_map_meets_coverings, coverings_refuse_by_tests, covering_rules, links_begin_with_coverings, link_maps_begin_with_coverings}
use Rattle.link_laws.proofs.covering_laws.law_coverings.Goals as goal

pub returns-clause-map : goal.returns-clause-map
returns-clause-map c = covering_map_meets_coverings

pub returns-clause-one : goal.returns-clause-one
returns-clause-one c = one_map_meets_coverings

pub returns-clause-refused : goal.returns-clause-refused
returns-clause-refused c = coverings_refuse_by_tests

pub returns-clause-rules : goal.returns-clause-rules
returns-clause-rules c = covering_rules

pub returns-clause-passes : goal.returns-clause-passes
returns-clause-passes c = links_begin_with_coverings

pub returns-clause-begins : goal.returns-clause-begins
returns-clause-begins c = link_maps_begin_with_coverings
