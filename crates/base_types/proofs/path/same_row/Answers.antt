use Rattle.std.specs.Cmp.Lexicographic.{pointwise, pointwise_decides}
use Rattle.std.specs.Cmp.{unsigned_Decides}
use Rattle.std.proofs.Common.{nat_eq}
use Rattle.base_types.proofs.Rows.{differ}
use Rattle.base_types.proofs.path.same_row.Goals as goal

pub returns-else-row-other : goal.returns-else-row-other
returns-else-row-other c =
    differ c.args.row.now.digest c.args.other.now.digest (pointwise (pointwise nat_eq) c.args.row.now.names.items c.args.other.now.names.items) c.args.row.now.names.items c.args.other.now.names.items
    (pointwise_decides (pointwise_decides unsigned_Decides) c.args.row.now.names.items c.args.other.now.names.items) c.requires.first c.requires.second c.if-row-other.false
