use Rattle.verdict_examples.proofs.ShortTermsComputed.{atom_at_a_product, name_of_another_product, application_of_another_kind, application_that_misses_an_argument}
use Rattle.verdict_examples.proofs.short_terms.standing_for_nothing.Goals as goal

pub returns-clause-atom_at_a_product : goal.returns-clause-atom_at_a_product
returns-clause-atom_at_a_product c = atom_at_a_product

pub returns-clause-name_of_another_product : goal.returns-clause-name_of_another_product
returns-clause-name_of_another_product c = name_of_another_product

pub returns-clause-application_of_another_kind : goal.returns-clause-application_of_another_kind
returns-clause-application_of_another_kind c = application_of_another_kind

pub returns-clause-application_that_misses_an_argument : goal.returns-clause-application_that_misses_an_argument
returns-clause-application_that_misses_an_argument c = application_that_misses_an_argument
