use Rattle.std.proofs.Common.{◌≡◌, Some, sym, ◌∙◌, subst}
use Rattle.name_meaning.specs.Names.{Name}
use Rattle.name_meaning.specs.Rows.{row_of}
use Rattle.name_laws.proofs.Order.{same_sound}
use Rattle.name_laws.proofs.Rows.{row_at}
use Rattle.verdict_board.proofs.Parking.{row_here, not_found}
use Rattle.verdict_board.proofs.report.stage_near.Goals as goal

pub returns-then-eq : goal.returns-then-eq
returns-then-eq g c =
    subst (λ (z : Name). Some c.row_at.result.1.now ≡ row_of c.args.stages.now z) (same_sound c.row_at.result.0.now c.args.name.now (sym c.eq.ensures ∙ c.if-eq.true))
    (sym (row_at c.row_at.result.0.now c.row_at.result.1.now c.args.stages.now c.args.near.now c.len-count.ensures.ordered c.row_at.ensures))

pub returns-in-Ok : goal.returns-in-Ok
returns-in-Ok g c =
    sym (row_here c.args.stages.now c.len-count.ensures.ordered c.in-Ok.found c.args.name.now c.row_at-in-Ok.result.0.now c.row_at-in-Ok.result.1.now c.in-Ok.ensures.found c.row_at-in-Ok.ensures)

pub returns-in-Err : goal.returns-in-Err
returns-in-Err g c = sym (not_found c.args.stages.now c.in-Err.field-0 c.args.name.now c.in-Err.ensures.absent)
