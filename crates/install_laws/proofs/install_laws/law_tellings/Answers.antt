use Rattle.install_laws.proofs.Tellings.{checks_are_backed, stay_backed}
use Rattle.install_laws.proofs.install_laws.law_tellings.Goals as goal

pub returns-clause-checks : goal.returns-clause-checks
returns-clause-checks c = checks_are_backed

pub returns-clause-later : goal.returns-clause-later
returns-clause-later c = stay_backed
