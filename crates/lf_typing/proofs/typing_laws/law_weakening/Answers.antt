use Rattle.lf_typing.proofs.Weakening.{raise_is_typing, raise_checks, raise_is_family, raise_is_kind}
use Rattle.lf_typing.proofs.typing_laws.law_weakening.Goals as goal

pub returns-clause-typing : goal.returns-clause-typing
returns-clause-typing c = λ sig typed after between before h m b. raise_is_typing sig typed between before h after m b

pub returns-clause-object : goal.returns-clause-object
returns-clause-object c = λ sig typed after between before m b. raise_checks sig typed between before after m b

pub returns-clause-family : goal.returns-clause-family
returns-clause-family c = λ sig typed after between before b. raise_is_family sig typed between before after b

pub returns-clause-kind : goal.returns-clause-kind
returns-clause-kind c = λ sig typed after between before k. raise_is_kind sig typed between before after k
