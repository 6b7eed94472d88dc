use Rattle.std.proofs.Common.{sym, subst}
use Rattle.mmt_interface.specs.CoherentFaces.{AreCoherent}
use Rattle.board_front.proofs.FlatTexts.{none_coherent}
use Rattle.board_front.proofs.flats.carried_nowhere.Goals as goal

pub carried_line-requires-clause-coherent : goal.carried_line-requires-clause-coherent
carried_line-requires-clause-coherent c = subst AreCoherent (sym c.new-none.ensures) none_coherent
