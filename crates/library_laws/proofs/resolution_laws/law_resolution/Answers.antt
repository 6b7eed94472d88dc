use Rattle.library_laws.proofs.Resolving.{resolution_stands}
use Rattle.library_laws.proofs.resolution_laws.law_resolution.Goals as goal

pub returns : goal.returns
returns c = resolution_stands
