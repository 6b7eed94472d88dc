use Rattle.lf_substitution_laws.proofs.Sorting.{keeps_sorts}
use Rattle.lf_substitution_laws.proofs.SortedFamilies.{substitute_keeps_sorted, substitute_keeps_sorted_kind}
use Rattle.lf_substitution_laws.proofs.sort_laws.law_substitution_keeps_sorts.Goals as goal

pub returns-clause-object : goal.returns-clause-object
returns-clause-object c = λ sorts after before v m s t. keeps_sorts s sorts after before v m t

pub returns-clause-family : goal.returns-clause-family
returns-clause-family c = λ sorts after before v s a h. substitute_keeps_sorted sorts v s before h after a

pub returns-clause-kind : goal.returns-clause-kind
returns-clause-kind c = λ sorts after before v s k h. substitute_keeps_sorted_kind sorts v s before h after k
