use Rattle.install_laws.proofs.Played.{played_is_backed, whole_is_backed, fewer_are_backed, later_backs_script}
use Rattle.install_laws.proofs.install_laws.law_scripts.Goals as goal

pub returns-clause-played : goal.returns-clause-played
returns-clause-played c = played_is_backed

pub returns-clause-whole : goal.returns-clause-whole
returns-clause-whole c = whole_is_backed

pub returns-clause-fewer : goal.returns-clause-fewer
returns-clause-fewer c = fewer_are_backed

pub returns-clause-later : goal.returns-clause-later
returns-clause-later c = later_backs_script
