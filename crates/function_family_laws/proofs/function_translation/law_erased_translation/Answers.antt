use Rattle.function_family_laws.proofs.ErasedTerms.{erase_family, erase_domains, erase_translated_context}
use Rattle.function_family_laws.proofs.function_translation.law_erased_translation.Goals as goal

pub returns-clause-family : goal.returns-clause-family
returns-clause-family c = erase_family

pub returns-clause-domains : goal.returns-clause-domains
returns-clause-domains c = erase_domains

pub returns-clause-context : goal.returns-clause-context
returns-clause-context c = erase_translated_context
