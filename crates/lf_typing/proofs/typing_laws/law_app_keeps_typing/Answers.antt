use Rattle.lf_typing.proofs.HeadTyping.{app_checks, app_type}
use Rattle.lf_typing.proofs.typing_laws.law_app_keeps_typing.Goals as goal

pub returns-clause-typing : goal.returns-clause-typing
returns-clause-typing c = λ sig typed context context_is a b pi_is v m hv hm. app_checks sig typed context context_is a b pi_is m hm v hv

pub returns-clause-erasure : goal.returns-clause-erasure
returns-clause-erasure c = app_type
