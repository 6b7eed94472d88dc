use Rattle.std.proofs.Common.{sym, ap, ◌∙◌, length}
use Rattle.verdict_board.proofs.Calls.{closed_again, close_after}
use Rattle.verdict_board.proofs.Transitions.{kept_close}
use Rattle.verdict_board.proofs.board.Board.close.Goals as goal

pub returns-then-self : goal.returns-then-self
returns-then-self g c = rw (← c.self.view_is) (sym (closed_again _ _ c.args.pass (sym c.self.invariant.closed_is ∙ c.if-self.true)))

pub invariant_of-self : goal.invariant_of-self
invariant_of-self g c =
    rw c.noted-self-inside.ensures (kept_close g.S.Subject.subject g.S.Subject.meaning c.self.inside.history.entries c.self.inside.log c.self.inside.graph c.self.inside.stages c.self.inside.closed c.self.inside.opened c.self.inside.entries c.self.inside.installed c.self.invariant
    c.args.pass c.version-version.result (c.version-version.ensures.version ∙ ap length c.self.invariant.logged) c.if-self.false c.requires)

pub returns : goal.returns
returns g c =
    rw (← c.self.view_is) (c.noted-self-inside.ensures ∙ sym (close_after _ _ c.args.pass c.version-version.result (sym c.self.invariant.closed_is ∙ c.if-self.false) (c.version-version.ensures.version ∙ ap length c.self.invariant.logged)))
