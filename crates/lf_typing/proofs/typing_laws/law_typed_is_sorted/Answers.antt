use Rattle.lf_typing.proofs.Typed.{checks_sort, family_sorted, kind_sorted}
use Rattle.lf_typing.proofs.typing_laws.law_typed_is_sorted.Goals as goal

pub returns-clause-object : goal.returns-clause-object
returns-clause-object c = checks_sort

pub returns-clause-family : goal.returns-clause-family
returns-clause-family c = family_sorted

pub returns-clause-kind : goal.returns-clause-kind
returns-clause-kind c = kind_sorted
