use Rattle.token_laws.proofs.OneCut.{one_cut}
use Rattle.token_laws.proofs.laws.law_one_cut.Goals as goal

pub returns : goal.returns
returns c = one_cut
