use Rattle.reach_printing_laws.proofs.CarriedAlike.{faces_carry_the_same}
use Rattle.reach_printing_laws.proofs.laws.law_carried.Goals as goal

pub returns : goal.returns
returns c = faces_carry_the_same
