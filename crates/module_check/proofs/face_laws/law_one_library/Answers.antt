use Rattle.module_check.proofs.OneLibrary.{coherent_together}
use Rattle.module_check.proofs.face_laws.law_one_library.Goals as goal

pub returns : goal.returns
returns c = coherent_together c.args.faces.now
