use Rattle.elaborate_typing.proofs.Applied.{family_is_applied}
use Rattle.elaborate_typing.proofs.typing_laws.law_applied_families.Goals as goal

pub returns : goal.returns
returns c = family_is_applied
