use Rattle.lf_typing.proofs.Growing.{empty_signature, signature_grows, signature_shrinks}
use Rattle.lf_typing.proofs.typing_laws.law_signature.Goals as goal

pub returns-clause-empty : goal.returns-clause-empty
returns-clause-empty c = empty_signature

pub returns-clause-grows : goal.returns-clause-grows
returns-clause-grows c = signature_grows

pub returns-clause-shrinks : goal.returns-clause-shrinks
returns-clause-shrinks c = signature_shrinks
