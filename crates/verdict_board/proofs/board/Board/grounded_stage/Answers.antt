use Rattle.std.proofs.Common.{◌≡◌, suc, true, sym, ap, ◌∙◌, subst}
use Rattle.board_meaning.specs.Events.{library_after, version_after}
use Rattle.module_graph_meaning.specs.Walks.{is_grounded}
use Rattle.edit_log.specs.Readings.{read_edit}
use Rattle.verdict_board.specs.declared.stage.Stage.{Stage}
use Rattle.verdict_board.specs.Stages.{after_edit_of, stage_after, IsStage}
use Rattle.verdict_board.proofs.Reports.{absent_row}
use Rattle.verdict_board.proofs.Edits.{sorted_inputs, grounded_after, new_after}
use Rattle.verdict_board.proofs.EditSteps.{if_ok}
use Rattle.verdict_board.proofs.board.Board.grounded_stage.Goals as goal

pub after_edit-requires-after_bounds : goal.after_edit-requires-after_bounds
after_edit-requires-after_bounds g c κs b =
    sorted_inputs g.S.Subject.subject g.S.Subject.meaning c.self.inside.history.entries c.self.invariant.legal (read_edit c.args.edit.now) 0 0 c.args.name.now c.in-Some.stage.now (c.self.invariant.staged.staged c.args.name.now c.in-Some.stage.now (sym c.in-Some.ensures.value))

pub returns-in-Some : goal.returns-in-Some
returns-in-Some g c =
    let grounded : is_grounded g.S.Subject.subject.dependencies (library_after (after_edit_of c.self.inside.history.entries (read_edit c.args.edit.now))) c.args.name.now ≡ true = rw c.self.view_is c.requires in
    rw (← c.self.view_is) (if_ok
    (λ (after : Stage g.row.S-Answer.Denot). after ≡ stage_after c.name.result.now c.in-Some.stage.now)
    (λ (after : Stage g.row.S-Answer.Denot). IsStage g.S.Subject.subject g.S.Subject.meaning (after_edit_of c.self.inside.history.entries (read_edit c.args.edit.now)) c.args.name.now after)
    c.after_edit.result
    (λ after e. subst (IsStage g.S.Subject.subject g.S.Subject.meaning (after_edit_of c.self.inside.history.entries (read_edit c.args.edit.now)) c.args.name.now) (sym (e ∙ ap (λ n. stage_after n c.in-Some.stage.now) c.name.ensures))
    (grounded_after g.S.Subject.subject g.S.Subject.meaning c.self.inside.history.entries c.self.invariant.legal (read_edit c.args.edit.now) 0 (suc (version_after c.self.inside.history.entries)) (g.met.S.Subject g.world.𝓛 g.world.𝓜 g.world.𝓡 ((λ s x. x), (λ x. x), (λ x. x), λ x. x)).lawful.reach c.args.name.now c.in-Some.stage.now grounded
    (c.self.invariant.staged.staged c.args.name.now c.in-Some.stage.now (sym c.in-Some.ensures.value))))
    c.after_edit.ensures)

pub returns-in-None : goal.returns-in-None
returns-in-None g c =
    rw (← c.self.view_is) (new_after g.S.Subject.subject g.S.Subject.meaning c.self.inside.history.entries c.self.invariant.legal (read_edit c.args.edit.now) 0 (suc (version_after c.self.inside.history.entries)) c.args.name.now
    (absent_row g.S.Subject.subject g.S.Subject.meaning c.self.inside.history.entries c.self.invariant.legal c.self.inside.stages c.self.invariant.staged c.args.name.now (sym c.in-None.ensures.value)) (rw c.self.view_is c.requires))
