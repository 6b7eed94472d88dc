use Rattle.elaborate.proofs.HeadsStand.{no_variable}
use Rattle.elaborate.proofs.heads.Head.into_family.Goals as goal

pub unreachable-requires : goal.unreachable-requires
unreachable-requires c = no_variable c.args.self c.in-Variable.field-0 c.in-Variable.is c.requires
