use Rattle.module_verdicts.proofs.Built.{named_here}
use Rattle.module_verdicts.proofs.declarations.declare_structure.Goals as goal

pub unused_test-requires : goal.unused_test-requires
unused_test-requires c = named_here c.args.faces.now c.args.here.now c.requires.here
