use Rattle.std.proofs.Common.{refl}
use Rattle.name_meaning.specs.Names.{is_ascending}
use Rattle.name_table.proofs.table.NameTable.new.Goals as goal

pub invariant_of-result : goal.invariant_of-result
unfolding is_ascending
invariant_of-result g c = rw c.new.ensures.items refl
