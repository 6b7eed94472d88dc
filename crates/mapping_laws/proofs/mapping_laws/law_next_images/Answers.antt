use Rattle.mapping_laws.proofs.NextMapped.{next_is_mapped, next_stands_before, domains_stand_before, coverings_have_names}
use Rattle.mapping_laws.proofs.mapping_laws.law_next_images.Goals as goal

pub returns-clause-next : goal.returns-clause-next
returns-clause-next c = next_is_mapped

pub returns-clause-on : goal.returns-clause-on
returns-clause-on c = next_stands_before

pub returns-clause-domain : goal.returns-clause-domain
returns-clause-domain c = domains_stand_before

pub returns-clause-coverings : goal.returns-clause-coverings
returns-clause-coverings c = coverings_have_names
