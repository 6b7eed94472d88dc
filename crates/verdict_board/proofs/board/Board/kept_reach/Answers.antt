use Rattle.std.proofs.Common.{sym}
use Rattle.verdict_board.proofs.Gathers.{kept_told, absent_stands_not}
use Rattle.verdict_board.proofs.board.Board.kept_reach.Goals as goal

pub returns-in-Some : goal.returns-in-Some
returns-in-Some g c =
    rw (← c.self.view_is) (kept_told g.S.Subject.subject g.S.Subject.meaning c.self.inside.history.entries c.self.invariant.legal c.self.inside.stages c.self.invariant.staged c.args.name.now c.in-Some.stage.now c.reached.result
    (sym c.in-Some.ensures.value) c.reached.ensures)

pub returns-in-None : goal.returns-in-None
returns-in-None g c =
    rw (← c.self.view_is) (absent_stands_not g.S.Subject.subject g.S.Subject.meaning c.self.inside.history.entries c.self.invariant.legal c.self.inside.stages c.self.invariant.staged c.args.name.now (sym c.in-None.ensures.value))
