use Rattle.std.proofs.Common.{sym, ap, ◌∙◌, is_some}
use Rattle.name_laws.proofs.Rows.{table_without}
use Rattle.name_table.proofs.Places.{row_removed, row_not_removed, row_not_found, row_found}
use Rattle.name_table.proofs.table.NameTable.remove.Goals as goal

pub invariant_of-self : goal.invariant_of-self
invariant_of-self g c = rw (c.remove.ensures.items, row_removed _ c.in-Ok.place c.args.name.now c.self.invariant (rw c.self.view_is c.in-Ok.ensures.found)) (table_without c.args.name.now _ c.self.invariant)

pub returns-in-Ok-clause-rows : goal.returns-in-Ok-clause-rows
returns-in-Ok-clause-rows g c = rw (← c.self.view_is) (c.remove.ensures.items ∙ row_removed _ c.in-Ok.place c.args.name.now c.self.invariant (rw c.self.view_is c.in-Ok.ensures.found))

pub returns-in-Ok-clause-there : goal.returns-in-Ok-clause-there
returns-in-Ok-clause-there g c = rw (← c.self.view_is) (sym (ap is_some (row_found _ c.in-Ok.place c.args.name.now c.remove.result c.self.invariant (rw c.self.view_is c.in-Ok.ensures.found) c.remove.ensures.value)))

pub returns-in-Err-clause-rows : goal.returns-in-Err-clause-rows
returns-in-Err-clause-rows g c = sym (row_not_removed _ _ c.args.name.now c.in-Err.ensures.absent)

pub returns-in-Err-clause-there : goal.returns-in-Err-clause-there
returns-in-Err-clause-there g c = sym (ap is_some (row_not_found _ _ c.args.name.now c.in-Err.ensures.absent))
