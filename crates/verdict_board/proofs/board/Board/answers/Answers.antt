use Rattle.std.proofs.Common.{Some, sym, ap, ◌∙◌}
use Rattle.std.specs.Option.{option_copied}
use Rattle.verdict_board.proofs.Reports.{inputs_reached, inputs_known, answers_told, answers_of_absent, answers_not_told}
use Rattle.verdict_board.proofs.board.Board.answers.Goals as goal

pub returns-in_default : goal.returns-in_default
returns-in_default g c =
    rw (← c.self.view_is) (answers_of_absent g.S.Subject.subject g.S.Subject.meaning c.self.inside.history.entries c.self.invariant.legal c.self.inside.stages c.self.invariant.staged c.args.name.now (sym c.get.ensures.value ∙ ap option_copied c.in_default.is))

pub answers_among-requires-clause-reached : goal.answers_among-requires-clause-reached
answers_among-requires-clause-reached g c κs b =
    rw (← c.self.view_is) (inputs_reached g.S.Subject.subject g.S.Subject.meaning c.self.inside.history.entries c.self.invariant.legal c.self.inside.stages c.self.invariant.staged c.args.name.now c.in-Some.stage.now c.in-Some-standing.inputs.now
    (sym c.in-Some.ensures.value) (sym c.in-Some-standing.ensures))

pub answers_among-requires-clause-known : goal.answers_among-requires-clause-known
answers_among-requires-clause-known g c κs b =
    rw (← c.self.view_is) (λ other m q. inputs_known g.S.Subject.subject g.S.Subject.meaning c.self.inside.history.entries c.self.invariant.legal c.self.inside.stages c.self.invariant.staged c.args.name.now c.in-Some.stage.now c.in-Some-standing.inputs.now
    (sym c.in-Some.ensures.value) (sym c.in-Some-standing.ensures) other m)

pub returns-in_ok-answers_among-in-Some-standing : goal.returns-in_ok-answers_among-in-Some-standing
returns-in_ok-answers_among-in-Some-standing g c =
    ap Some c.in_ok-answers_among-in-Some-standing.ensures
    ∙ rw (← c.self.view_is) (answers_told g.S.Subject.subject g.S.Subject.meaning c.self.inside.history.entries c.self.invariant.legal c.self.inside.stages c.self.invariant.staged c.args.name.now c.in-Some.stage.now c.in-Some-standing.inputs.now
    (sym c.in-Some.ensures.value) (sym c.in-Some-standing.ensures))

pub returns-in-None : goal.returns-in-None
returns-in-None g c =
    rw (← c.self.view_is) (answers_not_told g.S.Subject.subject g.S.Subject.meaning c.self.inside.history.entries c.self.invariant.legal c.self.inside.stages c.self.invariant.staged c.args.name.now c.in-Some.stage.now
    (sym c.in-Some.ensures.value) (sym c.in-None.ensures))
