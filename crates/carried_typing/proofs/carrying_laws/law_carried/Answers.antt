use Rattle.carried_typing.proofs.Carried.{carried_is_typing, libraries_carry_typing}
use Rattle.carried_typing.proofs.CarriedInReach.{faces_carry_typing, faces_carry_alike}
use Rattle.carried_typing.proofs.carrying_laws.law_carried.Goals as goal

pub returns-clause-known : goal.returns-clause-known
returns-clause-known c = carried_is_typing

pub returns-clause-libraries : goal.returns-clause-libraries
returns-clause-libraries c = libraries_carry_typing

pub returns-clause-faces : goal.returns-clause-faces
returns-clause-faces c = faces_carry_typing

pub returns-clause-alike : goal.returns-clause-alike
returns-clause-alike c = faces_carry_alike
