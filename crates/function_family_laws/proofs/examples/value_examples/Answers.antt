use Rattle.function_family_laws.proofs.Computed.{same_is_image, same_stays, term_is_translated, term_at_class, term_becomes_same, family_behind_domains, family_becomes_same, term_at_kind_stays, family_at_family_stays}
use Rattle.function_family_laws.proofs.examples.value_examples.Goals as goal

pub returns-clause-same_is_image : goal.returns-clause-same_is_image
returns-clause-same_is_image c = same_is_image

pub returns-clause-same_stays : goal.returns-clause-same_stays
returns-clause-same_stays c = same_stays

pub returns-clause-term_is_translated : goal.returns-clause-term_is_translated
returns-clause-term_is_translated c = term_is_translated

pub returns-clause-term_at_class : goal.returns-clause-term_at_class
returns-clause-term_at_class c = term_at_class

pub returns-clause-term_becomes_same : goal.returns-clause-term_becomes_same
returns-clause-term_becomes_same c = term_becomes_same

pub returns-clause-family_behind_domains : goal.returns-clause-family_behind_domains
returns-clause-family_behind_domains c = family_behind_domains

pub returns-clause-family_becomes_same : goal.returns-clause-family_becomes_same
returns-clause-family_becomes_same c = family_becomes_same

pub returns-clause-term_at_kind_stays : goal.returns-clause-term_at_kind_stays
returns-clause-term_at_kind_stays c = term_at_kind_stays

pub returns-clause-family_at_family_stays : goal.returns-clause-family_at_family_stays
returns-clause-family_at_family_stays c = family_at_family_stays
