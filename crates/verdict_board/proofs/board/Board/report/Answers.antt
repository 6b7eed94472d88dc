use Rattle.std.proofs.Common.{sym, ap, ◌∙◌, length}
use Rattle.std.specs.Option.{option_copied}
use Rattle.list_laws.proofs.Answers.{on_err}
use Rattle.board_meaning.specs.Points.{is_verdict}
use Rattle.verdict_board.proofs.Reports.{told_absent, told_verdict, told_pending}
use Rattle.verdict_board.proofs.board.Board.report.Goals as goal

pub returns-in_default-clause-told : goal.returns-in_default-clause-told
returns-in_default-clause-told g c =
    rw (← c.self.view_is) (told_absent g.S.Subject.subject g.S.Subject.meaning c.self.inside.history.entries c.self.invariant.legal c.self.inside.stages c.self.invariant.staged c.args.name.now c.version-version.result
    (c.version-version.ensures.version ∙ ap length c.self.invariant.logged) (sym c.get.ensures.value ∙ ap option_copied c.in_default.is))

pub returns-in_err-share-in-Some-answer-clause-memory : goal.returns-in_err-share-in-Some-answer-clause-memory
returns-in_err-share-in-Some-answer-clause-memory g c =
    on_err c.from_residual.result (rw (← c.self.view_is) (ap is_verdict (sym (told_verdict g.S.Subject.subject g.S.Subject.meaning c.self.inside.history.entries c.self.invariant.legal c.self.inside.stages c.self.invariant.staged c.args.name.now c.version-version.result c.in-Some.stage.now c.in-Some-answer.answer.now
    (c.version-version.ensures.version ∙ ap length c.self.invariant.logged) (sym c.in-Some.ensures.value) (sym c.in-Some-answer.ensures)))))

pub returns-in_ok-share-in-Some-answer-clause-told : goal.returns-in_ok-share-in-Some-answer-clause-told
returns-in_ok-share-in-Some-answer-clause-told g c =
    rw (← c.self.view_is, c.in_ok-share-in-Some-answer.ensures) (told_verdict g.S.Subject.subject g.S.Subject.meaning c.self.inside.history.entries c.self.invariant.legal c.self.inside.stages c.self.invariant.staged c.args.name.now c.version-version.result c.in-Some.stage.now c.in-Some-answer.answer.now
    (c.version-version.ensures.version ∙ ap length c.self.invariant.logged) (sym c.in-Some.ensures.value) (sym c.in-Some-answer.ensures))

pub returns-in-None-clause-told : goal.returns-in-None-clause-told
returns-in-None-clause-told g c =
    rw (← c.self.view_is) (told_pending g.S.Subject.subject g.S.Subject.meaning c.self.inside.history.entries c.self.invariant.legal c.self.inside.stages c.self.invariant.staged c.args.name.now c.version-version.result c.in-Some.stage.now
    (c.version-version.ensures.version ∙ ap length c.self.invariant.logged) (sym c.in-Some.ensures.value) (sym c.in-None.ensures))
