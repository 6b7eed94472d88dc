use Rattle.edit_log_laws.proofs.Limits.{limits_kept}
use Rattle.edit_log_laws.proofs.log_laws.law_limits.Goals as goal

pub returns : goal.returns
returns c = limits_kept
