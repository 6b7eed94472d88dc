use Rattle.link_laws.proofs.Scopes.{theory_scopes_hold}
use Rattle.link_laws.proofs.row_laws.law_scopes.Goals as goal

pub returns : goal.returns
returns c = theory_scopes_hold
