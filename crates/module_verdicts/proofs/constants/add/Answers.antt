use Rattle.include_closure.proofs.NewNames.{new_declared}
use Rattle.module_verdicts.proofs.constants.add.Goals as goal

pub push_new-requires : goal.push_new-requires
push_new-requires c = new_declared c.args.here.now.own c.args.decl c.requires
