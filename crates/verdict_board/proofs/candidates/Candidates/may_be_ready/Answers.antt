use Rattle.std.proofs.Common.{Some, inl, sym, ap, ◌∙◌}
use Rattle.verdict_board.proofs.Parking.{no_candidate, not_waiting}
use Rattle.verdict_board.proofs.candidates.Candidates.may_be_ready.Goals as goal

pub returns-then-not-contains : goal.returns-then-not-contains
returns-then-not-contains g c f graph kept =
    no_candidate c.args.stages.now graph (λ list. list.items) c.args.self.now.candidate c.args.self.now.parked.items kept c.args.place (c.contains.ensures ∙ ap Some c.if-not-contains.true)

pub returns : goal.returns
returns g c f graph kept name h =
    inl (not_waiting c.args.stages.now graph (λ list. list.items) c.args.self.now.candidate c.args.self.now.parked.items kept c.args.place c.row_at.result.0.now c.row_at.result.1.now c.row_at.ensures
    (sym c.is_waiting.ensures ∙ f) name h)
