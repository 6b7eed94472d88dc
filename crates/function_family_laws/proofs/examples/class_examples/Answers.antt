use Rattle.function_family_laws.proofs.Computed.{variable_behind_pi_kind, kind_is_translated, family_is_translated, context_is_translated, domains_are_erased}
use Rattle.function_family_laws.proofs.examples.class_examples.Goals as goal

pub returns-clause-variable_behind_pi_kind : goal.returns-clause-variable_behind_pi_kind
returns-clause-variable_behind_pi_kind c = variable_behind_pi_kind

pub returns-clause-kind_is_translated : goal.returns-clause-kind_is_translated
returns-clause-kind_is_translated c = kind_is_translated

pub returns-clause-family_is_translated : goal.returns-clause-family_is_translated
returns-clause-family_is_translated c = family_is_translated

pub returns-clause-context_is_translated : goal.returns-clause-context_is_translated
returns-clause-context_is_translated c = context_is_translated

pub returns-clause-domains_are_erased : goal.returns-clause-domains_are_erased
returns-clause-domains_are_erased c = domains_are_erased
