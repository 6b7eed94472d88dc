use Rattle.std.proofs.Common.{sym}
use Rattle.name_table.proofs.Places.{row_found, row_not_found}
use Rattle.name_table.proofs.table.NameTable.get.Goals as goal

pub returns-in-Ok-clause-value : goal.returns-in-Ok-clause-value
returns-in-Ok-clause-value g c = rw (← c.self.view_is) (sym (row_found _ c.in-Ok.place c.args.name.now _ c.self.invariant (rw c.self.view_is c.in-Ok.ensures.found) c.index.ensures))

pub returns-in-Err-clause-value : goal.returns-in-Err-clause-value
returns-in-Err-clause-value g c = sym (row_not_found _ _ c.args.name.now c.in-Err.ensures.absent)
