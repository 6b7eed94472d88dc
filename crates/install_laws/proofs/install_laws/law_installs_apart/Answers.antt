use Rattle.install_laws.proofs.Apart.{apart_installs_stand}
use Rattle.install_laws.proofs.install_laws.law_installs_apart.Goals as goal

pub returns : goal.returns
returns c = apart_installs_stand
