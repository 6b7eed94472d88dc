use Rattle.std.proofs.Common.{sym, ◌∙◌}
use Rattle.verdict_board.proofs.Ready.{closed_unready, none_told}
use Rattle.verdict_board.proofs.board.Board.may_have_job.Goals as goal

pub returns-then-self : goal.returns-then-self
returns-then-self g c f =
    rw (← c.self.view_is) (sym (closed_unready g.S.Subject.subject g.S.Subject.meaning c.self.inside.history.entries c.self.invariant.legal (sym c.self.invariant.closed_is ∙ c.if-self.true)))

pub returns : goal.returns
returns g c f =
    rw (← c.self.view_is) (sym (none_told g.S.Subject.subject g.S.Subject.meaning c.self.inside.history.entries c.self.invariant.legal c.self.inside.stages c.self.invariant.staged c.self.inside.graph c.self.invariant.holds
    (sym c.self.invariant.closed_is ∙ c.if-self.false) (c.may_be_ready.ensures f c.self.inside.graph c.self.invariant.candidates_all)))
