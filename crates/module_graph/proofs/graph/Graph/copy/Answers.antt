use Rattle.std.proofs.Common.{◌≡◌, ◌∷◌, ◌++◌, [], ◌+◌, suc, take, sym, ap, ◌∙◌, arith, List}
use Rattle.name_meaning.specs.Names.{Name}
use Rattle.name_table.proofs.Fronts.{table_more}
use Rattle.list_laws.proofs.Places.{take_more}
use Rattle.module_graph.proofs.graph.Graph.copy.Goals as goal

pub push-requires : goal.push-requires
push-requires c =
    let row : ◌≡◌ {A = Name × List Name} (c.in_ok-copy.field-0, c.in_ok-share.field-0) (c.row_at.result.0.now, c.row_at.result.1.now) = λ i. (c.in_ok-copy.ensures i, c.in_ok-share.ensures i) in
    rw (row, c.loop-place.invariant) (table_more c.self.inside.rows c.loop-place.place (c.row_at.result.0.now, c.row_at.result.1.now) c.len-place-end.ensures.ordered c.row_at.ensures)

pub loop-place-preserved : goal.loop-place-preserved
loop-place-preserved c =
    let row : ◌≡◌ {A = Name × List Name} (c.in_ok-copy.field-0, c.in_ok-share.field-0) (c.row_at.result.0.now, c.row_at.result.1.now) = λ i. (c.in_ok-copy.ensures i, c.in_ok-share.ensures i) in
    let one : c.loop-place.place + 1 ≡ suc c.loop-place.place = omega arith in
    c.in-Ok.ensures.ok ∙ ap (λ (rows : List (Name × List Name)). rows ++ (c.in_ok-copy.field-0, c.in_ok-share.field-0) ∷ []) c.loop-place.invariant
    ∙ ap (λ (r : Name × List Name). take c.loop-place.place c.self.inside.rows ++ r ∷ []) row
    ∙ sym (take_more c.self.inside.rows c.loop-place.place (c.row_at.result.0.now, c.row_at.result.1.now) c.row_at.ensures) ∙ ap (λ n. take n c.self.inside.rows) (sym one)
