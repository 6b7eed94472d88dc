use Rattle.std.proofs.Common.{sym, ap, ◌∙◌}
use Rattle.std.specs.Option.{option_copied}
use Rattle.verdict_board.proofs.Reports.{answer_absent, answer_known, answer_unknown}
use Rattle.verdict_board.proofs.board.Board.answer_of.Goals as goal

pub returns-in_default : goal.returns-in_default
returns-in_default g c =
    rw (← c.self.view_is) (answer_absent g.S.Subject.subject g.S.Subject.meaning c.self.inside.history.entries c.self.invariant.legal c.self.inside.stages c.self.invariant.staged c.args.name.now (sym c.stage_near.ensures ∙ ap option_copied c.in_default.is))

pub returns-in_ok-share-in-Some-answer : goal.returns-in_ok-share-in-Some-answer
returns-in_ok-share-in-Some-answer g c =
    rw (← c.self.view_is, c.in_ok-share-in-Some-answer.ensures) (answer_known g.S.Subject.subject g.S.Subject.meaning c.self.inside.history.entries c.self.invariant.legal c.self.inside.stages c.self.invariant.staged c.args.name.now c.in-Some.stage.now c.in-Some-answer.answer.now
    (sym c.in-Some.ensures) (sym c.in-Some-answer.ensures))

pub returns-in-None : goal.returns-in-None
returns-in-None g c =
    absurd (answer_unknown g.S.Subject.subject g.S.Subject.meaning c.self.inside.history.entries c.self.invariant.legal c.self.inside.stages c.self.invariant.staged c.args.name.now c.in-Some.stage.now (rw c.self.view_is c.requires)
    (sym c.in-Some.ensures) (sym c.in-None.ensures))
