use Rattle.run_laws.proofs.Kept.{kept_alike, short_is_kept}
use Rattle.run_laws.proofs.run_laws.law_kept.Goals as goal

pub returns-clause-alike : goal.returns-clause-alike
returns-clause-alike c = kept_alike

pub returns-clause-whole : goal.returns-clause-whole
returns-clause-whole c = short_is_kept
