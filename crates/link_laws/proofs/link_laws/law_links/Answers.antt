use Rattle.link_laws.proofs.Linked.{passes_meet_equations, one_map_meets_equations, link_map_meets_equations, one_map_of_link}
use Rattle.link_laws.proofs.link_laws.law_links.Goals as goal

pub returns-clause-passes : goal.returns-clause-passes
returns-clause-passes c = passes_meet_equations

pub returns-clause-one : goal.returns-clause-one
returns-clause-one c = one_map_meets_equations

pub returns-clause-link : goal.returns-clause-link
returns-clause-link c = link_map_meets_equations

pub returns-clause-one_link : goal.returns-clause-one_link
returns-clause-one_link c = one_map_of_link
