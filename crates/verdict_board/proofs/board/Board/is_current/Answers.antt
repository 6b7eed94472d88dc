use Rattle.std.proofs.Common.{sym}
use Rattle.verdict_board.proofs.Ends.{current_absent, current_none, current_decides}
use Rattle.verdict_board.proofs.board.Board.is_current.Goals as goal

pub returns-in-Some-claim : goal.returns-in-Some-claim
returns-in-Some-claim g c =
    rw (← c.self.view_is) (current_decides g.S.Subject.subject g.S.Subject.meaning c.self.inside.history.entries c.self.inside.log c.self.inside.graph c.self.inside.stages c.self.inside.closed c.self.inside.opened c.self.inside.entries c.self.inside.installed c.self.invariant
    c.args.name.now c.args.claim c.in-Some-claim.current c.in-Some.stage.now (sym c.in-Some.ensures.value) (sym c.in-Some-claim.ensures))

pub returns-in-None-claim : goal.returns-in-None-claim
returns-in-None-claim g c =
    rw (← c.self.view_is) (current_none g.S.Subject.subject g.S.Subject.meaning c.self.inside.history.entries c.self.inside.log c.self.inside.graph c.self.inside.stages c.self.inside.closed c.self.inside.opened c.self.inside.entries c.self.inside.installed c.self.invariant
    c.args.name.now c.args.claim c.in-Some.stage.now (sym c.in-Some.ensures.value) (sym c.in-None-claim.ensures))

pub returns-in-None : goal.returns-in-None
returns-in-None g c =
    rw (← c.self.view_is) (current_absent g.S.Subject.subject g.S.Subject.meaning c.self.inside.history.entries c.self.inside.log c.self.inside.graph c.self.inside.stages c.self.inside.closed c.self.inside.opened c.self.inside.entries c.self.inside.installed c.self.invariant
    c.args.name.now c.args.claim (sym c.in-None.ensures.value))
