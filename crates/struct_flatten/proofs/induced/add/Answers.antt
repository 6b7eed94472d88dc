use Rattle.include_closure.proofs.NewNames.{new_declared}
use Rattle.struct_flatten.proofs.induced.add.Goals as goal

pub push_new-requires : goal.push_new-requires
push_new-requires c = new_declared c.args.own.now c.args.decl c.requires
