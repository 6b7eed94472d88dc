use Rattle.lf_typing.proofs.Faultless.{synthesises_unique, synthesises_kind_unique}
use Rattle.lf_typing.proofs.HeadTyping.{synthesised_is_family, synthesised_is_kind}
use Rattle.lf_typing.proofs.typing_laws.law_synthesis.Goals as goal

pub returns-clause-unique : goal.returns-clause-unique
returns-clause-unique c = synthesises_unique

pub returns-clause-kind_unique : goal.returns-clause-kind_unique
returns-clause-kind_unique c = synthesises_kind_unique

pub returns-clause-family : goal.returns-clause-family
returns-clause-family c = synthesised_is_family

pub returns-clause-kind : goal.returns-clause-kind
returns-clause-kind c = synthesised_is_kind
