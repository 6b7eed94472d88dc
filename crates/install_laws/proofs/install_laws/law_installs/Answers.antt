use Rattle.install_laws.proofs.Installs.{installs_are_asked, first_installs}
use Rattle.install_laws.proofs.install_laws.law_installs.Goals as goal

pub returns-clause-first : goal.returns-clause-first
returns-clause-first c = first_installs

pub returns-clause-later : goal.returns-clause-later
returns-clause-later c = installs_are_asked
