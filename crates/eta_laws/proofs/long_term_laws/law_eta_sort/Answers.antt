use Rattle.lf_substitution_laws.specs.Uniform.{rename_bases}
use Rattle.lf_substitution_laws.proofs.Domains.{rename_retypes}
use Rattle.eta_laws.proofs.LongTerms.{eta_sort, eta_retyped}
use Rattle.eta_laws.proofs.long_term_laws.law_eta_sort.Goals as goal

pub returns-clause-sort : goal.returns-clause-sort
returns-clause-sort c = eta_sort

pub returns-clause-arrows : goal.returns-clause-arrows
returns-clause-arrows c = λ bases. eta_retyped (rename_bases bases) (rename_retypes bases)
