use Rattle.std.proofs.Common.{◌≡◌, ◌≤◌, ◌∙◌, length, rules, sym, subst}
use Rattle.std.specs.Vec.{vec_len}
use Rattle.std.proofs.lemmas.List.{length-map}
use Rattle.name_laws.proofs.Rows.{table_with, with_row_gap}
use Rattle.name_table.proofs.Places.{row_set}
use Rattle.name_table.proofs.table.NameTable.insert.Goals as goal
use Rattle.name_table.proofs.table.NameTable.insert.Goals.{in-Ok-insert, in-Err-insert}

pub invariant_of-self : goal.invariant_of-self
invariant_of-self g c = rw (row_set _ c.in-Ok.place c.args.name c.args.value c.self.invariant (rw c.self.view_is c.in-Ok.ensures.found)) (table_with c.args.name c.args.value _ c.self.invariant)

pub returns-in-Ok-clause-ok : goal.returns-in-Ok-clause-ok
returns-in-Ok-clause-ok g c = rw (← c.self.view_is) (row_set _ c.in-Ok.place c.args.name c.args.value c.self.invariant (rw c.self.view_is c.in-Ok.ensures.found))

pub insert-requires : goal.insert-requires
insert-requires g c =
    let long : vec_len c.self.inside.rows ≡ length c.self.inside.rows.items = search rules in
    subst (λ n. c.in-Err.place ≤ n) (length-map c.self.inside.rows.items (λ row. row.0) ∙ sym long) (rw c.self.view_is c.in-Err.ensures.absent.within)

pub invariant_of-self-in-Err : goal.invariant_of-self-in-Err
invariant_of-self-in-Err g c =
    let gap = with_row_gap c.args.name c.args.value c.self.inside.rows.items c.in-Err.place (rw c.self.view_is c.in-Err.ensures.absent) in
    elim c.match-insert.branch [ in-Ok-insert w ↦ rw (w.in-Ok-insert.ensures.items, ← gap) (table_with c.args.name c.args.value _ c.self.invariant) | in-Err-insert w ↦ rw w.in-Err-insert.ensures.items c.self.invariant ]

pub returns-after-insert-clause-ok : goal.returns-after-insert-clause-ok
returns-after-insert-clause-ok g c =
    let gap = with_row_gap c.args.name c.args.value c.self.inside.rows.items c.in-Err.place (rw c.self.view_is c.in-Err.ensures.absent) in
    elim c.match-insert.branch [ in-Ok-insert w ↦ rw (w.result-is, ← c.self.view_is) (w.in-Ok-insert.ensures.items ∙ sym gap) | in-Err-insert w ↦ rw w.result-is tt ]
