use Rattle.saved_log_laws.proofs.CutShort.{torn_means, written_is_torn, nothing_is_torn}
use Rattle.saved_log_laws.proofs.disk_laws.law_torn_writes.Goals as goal

pub returns-clause-means : goal.returns-clause-means
returns-clause-means c = torn_means

pub returns-clause-done : goal.returns-clause-done
returns-clause-done c = written_is_torn

pub returns-clause-nothing : goal.returns-clause-nothing
returns-clause-nothing c = nothing_is_torn
