use Rattle.edit_log_laws.proofs.Libraries.{stamp_after_last, stamp_past}
use Rattle.edit_log_laws.proofs.Stamped.{stamped}
use Rattle.edit_log_laws.proofs.log_laws.law_stamps.Goals as goal

pub returns-clause-stamp : goal.returns-clause-stamp
returns-clause-stamp c = stamp_after_last

pub returns-clause-past : goal.returns-clause-past
returns-clause-past c = stamp_past

pub returns-clause-text : goal.returns-clause-text
returns-clause-text c = stamped
