use Rattle.std.proofs.Common.{sym, ◌∙◌}
use Rattle.verdict_board.proofs.Gathers.{absent_reaches}
use Rattle.verdict_board.proofs.board.Board.reaches_itself.Goals as goal

pub returns-in-None : goal.returns-in-None
returns-in-None g c =
    rw (← c.self.view_is) (c.eq.ensures
    ∙ absent_reaches g.S.Subject.subject g.S.Subject.meaning c.self.inside.history.entries c.self.invariant.legal c.self.inside.stages c.self.invariant.staged c.args.from.now (sym c.in-None.ensures.value) c.args.name.now)
