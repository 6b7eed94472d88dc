use Rattle.lf_substitution_laws.proofs.Sorting.{raise_keeps_sort}
use Rattle.lf_substitution_laws.proofs.SortedFamilies.{raise_keeps_sorted, raise_keeps_sorted_kind}
use Rattle.lf_substitution_laws.proofs.Past.{raise_past}
use Rattle.lf_substitution_laws.proofs.sort_laws.law_raising_keeps_sorts.Goals as goal

pub returns-clause-object : goal.returns-clause-object
returns-clause-object c = raise_keeps_sort

pub returns-clause-family : goal.returns-clause-family
returns-clause-family c = λ sorts after between before a. raise_keeps_sorted sorts between before after a

pub returns-clause-kind : goal.returns-clause-kind
returns-clause-kind c = λ sorts after between before k. raise_keeps_sorted_kind sorts between before after k

pub returns-clause-past : goal.returns-clause-past
returns-clause-past c = λ sorts k n context m t. raise_past sorts k context n m t
