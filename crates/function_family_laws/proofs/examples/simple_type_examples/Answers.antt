use Rattle.function_family_laws.proofs.Computed.{each_base_is_replaced, base_becomes_arrow, base_becomes_base, object_leaves_base, base_is_its_domain, base_is_its_codomain}
use Rattle.function_family_laws.proofs.examples.simple_type_examples.Goals as goal

pub returns-clause-each_base_is_replaced : goal.returns-clause-each_base_is_replaced
returns-clause-each_base_is_replaced c = each_base_is_replaced

pub returns-clause-base_becomes_arrow : goal.returns-clause-base_becomes_arrow
returns-clause-base_becomes_arrow c = base_becomes_arrow

pub returns-clause-base_becomes_base : goal.returns-clause-base_becomes_base
returns-clause-base_becomes_base c = base_becomes_base

pub returns-clause-object_leaves_base : goal.returns-clause-object_leaves_base
returns-clause-object_leaves_base c = object_leaves_base

pub returns-clause-base_is_its_domain : goal.returns-clause-base_is_its_domain
returns-clause-base_is_its_domain c = base_is_its_domain

pub returns-clause-base_is_its_codomain : goal.returns-clause-base_is_its_codomain
returns-clause-base_is_its_codomain c = base_is_its_codomain
