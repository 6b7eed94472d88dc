use Rattle.printing_laws.proofs.FreePrefixes.{prefix_is_free, prefix_is_least}
use Rattle.printing_laws.proofs.printing_laws.law_prefix.Goals as goal

pub returns-clause-free : goal.returns-clause-free
returns-clause-free c = prefix_is_free

pub returns-clause-least : goal.returns-clause-least
returns-clause-least c = prefix_is_least
