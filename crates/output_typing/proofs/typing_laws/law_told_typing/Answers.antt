use Rattle.output_typing.proofs.KeptTyping.{all_are_typed}
use Rattle.output_typing.proofs.typing_laws.law_told_typing.Goals as goal

pub returns : goal.returns
returns c = all_are_typed
