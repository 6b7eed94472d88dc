use Rattle.file_laws.proofs.OneDivision.{one_division}
use Rattle.file_laws.proofs.laws.law_one_division.Goals as goal

pub returns : goal.returns
returns c = one_division
