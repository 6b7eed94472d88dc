use Rattle.saved_log_laws.proofs.Gates.{closed, opened, suffices}
use Rattle.saved_log_laws.proofs.saved_file_laws.law_gates.Goals as goal

pub returns-clause-closed : goal.returns-clause-closed
returns-clause-closed c = closed

pub returns-clause-open : goal.returns-clause-open
returns-clause-open c = opened

pub returns-clause-bound : goal.returns-clause-bound
returns-clause-bound c = suffices
