use Rattle.std.proofs.Common.{◌≡◌, ◌+◌, ◌≤◌, ℕ, suc, is_some, sym, ap, ◌∙◌, arith}
use Rattle.list_laws.proofs.Options.{copied_some}
use Rattle.verdict_board.proofs.Pendings.{known_next, pending_found, none_pending}
use Rattle.verdict_board.proofs.board.Board.first_pending.Goals as goal

one_more : (place : ℕ) → place + 1 ≡ suc place
one_more place = omega arith

up : (first place : ℕ) → first ≤ place → first ≤ place + 1
up first place w = omega (arith, w)

pub returns-then-is_none : goal.returns-then-is_none
returns-then-is_none g c =
    let before = c.loop-place-test.true in
    let long = c.len-place-end.ensures.len in
    rw (← c.self.view_is) (pending_found g.S.Subject.subject g.S.Subject.meaning c.self.inside.history.entries c.self.invariant.legal c.self.inside.stages c.self.invariant.staged c.args.from c.loop-place.place c.row_at.result.0.now c.row_at.result.1.now
    c.len-place-end.ensures.ordered c.row_at.ensures c.loop-place.invariant.0 (omega (arith, before, long)) (ap is_some (sym c.answer.ensures) ∙ copied_some c.answer.result ∙ c.if-is_none.ensures) c.loop-place.invariant.1)

pub loop-place-preserved : goal.loop-place-preserved
loop-place-preserved g c = (
  up c.args.from c.loop-place.place c.loop-place.invariant.0,
  rw (one_more c.loop-place.place) (known_next g.S.Subject.subject g.S.Subject.meaning c.self.inside.history.entries c.self.invariant.legal c.self.inside.stages c.self.invariant.staged c.args.from c.loop-place.place c.row_at.result.0.now c.row_at.result.1.now
      c.len-place-end.ensures.ordered c.row_at.ensures (ap is_some (sym c.answer.ensures) ∙ copied_some c.answer.result ∙ c.if-is_none.ensures) c.loop-place.invariant.1),
)

pub returns : goal.returns
returns g c =
    let past = c.loop-place-test.false in
    let long = c.len-place-end.ensures.len in
    rw (← c.self.view_is) (none_pending g.S.Subject.subject g.S.Subject.meaning c.self.inside.history.entries c.self.invariant.legal c.self.inside.stages c.self.invariant.staged c.args.from c.loop-place.place (omega (arith, past, long)) c.loop-place.invariant.1)
