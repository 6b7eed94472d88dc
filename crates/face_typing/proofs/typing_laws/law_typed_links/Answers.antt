use Rattle.face_typing.proofs.LinksTyped.{links_are_typed}
use Rattle.face_typing.proofs.BetweenTyped.{between_typed}
use Rattle.face_typing.proofs.typing_laws.law_typed_links.Goals as goal

pub returns : goal.returns
returns c = between_typed links_are_typed
