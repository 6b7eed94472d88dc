use Rattle.std.proofs.Common.{sym, ap, ◌∙◌, true≢false, is_some}
use Rattle.name_laws.proofs.Rows.{table_with}
use Rattle.name_table.proofs.Places.{row_replaced, row_not_found}
use Rattle.name_table.proofs.table.NameTable.replace.Goals as goal

pub invariant_of-self : goal.invariant_of-self
invariant_of-self g c = rw (row_replaced _ c.in-Ok.place c.args.name.now c.args.value c.index_mut-row.result.now c.self.invariant (rw c.self.view_is c.in-Ok.ensures.found) c.index_mut-row.ensures.value) (table_with c.args.name.now c.args.value _ c.self.invariant)

pub returns : goal.returns
returns g c = rw (← c.self.view_is) (row_replaced _ c.in-Ok.place c.args.name.now c.args.value c.index_mut-row.result.now c.self.invariant (rw c.self.view_is c.in-Ok.ensures.found) c.index_mut-row.ensures.value)

pub unreachable-requires : goal.unreachable-requires
unreachable-requires g c = true≢false (sym c.requires ∙ ap is_some (row_not_found c.args.self.now c.in-Err.field-0 c.args.name.now c.in-Err.ensures.absent))
