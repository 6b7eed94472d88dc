use Rattle.std.proofs.Common.{◌≡◌, ◌+◌, suc, List, ⊎_elim, refl, sym, ap, ◌∙◌, subst, arith}
use Rattle.std.proofs.lemmas.List.{length-map, take_all}
use Rattle.name_meaning.specs.Names.{Name}
use Rattle.name_meaning.specs.Rows.{row_names, row_of}
use Rattle.edit_log_meaning.specs.Log.{names_of}
use Rattle.edit_log_laws.proofs.Libraries.{library_ascending}
use Rattle.module_graph_meaning.specs.Graphs.{HoldsDependencies}
use Rattle.board_meaning.specs.Events.{log_of, library_after, version_after}
use Rattle.edit_log.specs.Readings.{read_edit}
use Rattle.verdict_board.specs.Stages.{IsStage, after_edit_of}
use Rattle.verdict_board.proofs.Edits.{library_edited}
use Rattle.verdict_board.proofs.EditSteps.{bad_sorted, at_bad, at_rest, row_last, names_more, more_table}
use Rattle.verdict_board.proofs.board.Board.stages_after.Goals as goal
use Rattle.verdict_board.proofs.board.Board.stages_after.Goals.{then-contains+in_ok-stage, else-contains+in_ok-stage-2}

pub contains-requires : goal.contains-requires
contains-requires g c =
    let D = g.S.Subject.subject.dependencies in
    let after = library_after (after_edit_of c.args.self.now (read_edit c.args.edit.now)) in
    bad_sorted D after c.args.bad.now c.requires.others (library_ascending (log_of (after_edit_of c.args.self.now (read_edit c.args.edit.now))))

pub loop-place-init : goal.loop-place-init
unfolding row_of
loop-place-init g c =
    rw c.new-stages.ensures (record { names = refl; staged = λ name stage at. absurd (cc) })

pub grounded_stage-requires-after_bounds : goal.grounded_stage-requires-after_bounds
grounded_stage-requires-after_bounds g c κs b =
    let lib = library_edited c.args.self.now (read_edit c.args.edit.now) 0 (suc (version_after c.args.self.now)) in
    let D = g.S.Subject.subject.dependencies in
    let after = library_after (after_edit_of c.args.self.now (read_edit c.args.edit.now)) in
    let holds : HoldsDependencies c.args.graph.now D after = subst (HoldsDependencies c.args.graph.now D) (sym lib) c.requires.holds in
    at_rest D after c.args.bad.now c.requires.others c.args.graph.now holds c.loop-place.place c.name_at-name.result.now c.contains.result c.name_at-name.ensures c.contains.ensures c.if-contains.false

pub ring_stage-requires-clause-ungrounded : goal.ring_stage-requires-clause-ungrounded
ring_stage-requires-clause-ungrounded g c κs b =
    let D = g.S.Subject.subject.dependencies in
    let after = library_after (after_edit_of c.args.self.now (read_edit c.args.edit.now)) in
    at_bad D after c.args.bad.now c.requires.others c.name_at-name.result.now c.contains.result c.contains.ensures ∙ c.if-contains.true

pub ring_stage-requires-clause-others : goal.ring_stage-requires-clause-others
ring_stage-requires-clause-others g c κs b =
    c.requires.others

pub push-requires : goal.push-requires
push-requires g c =
    rw c.in_ok-copy.ensures (more_table c.loop-place.stages (row_names c.args.graph.now) c.loop-place.place c.name_at-name.result.now c.if-contains.stage c.len-place-end.ensures.ordered c.loop-place.invariant.names c.name_at-name.ensures)

pub loop-place-preserved : goal.loop-place-preserved
loop-place-preserved g c =
    let one : c.loop-place.place + 1 ≡ suc c.loop-place.place = omega arith in
    let new : IsStage g.S.Subject.subject g.S.Subject.meaning (after_edit_of c.args.self.now (read_edit c.args.edit.now)) c.name_at-name.result.now c.if-contains.stage =
    elim c.if-contains.branch [
      | then-contains+in_ok-stage w ↦ subst (IsStage g.S.Subject.subject g.S.Subject.meaning (after_edit_of c.args.self.now (read_edit c.args.edit.now)) c.name_at-name.result.now) (sym w.stage-is) w.in_ok-stage.ensures
      | else-contains+in_ok-stage-2 w ↦ subst (IsStage g.S.Subject.subject g.S.Subject.meaning (after_edit_of c.args.self.now (read_edit c.args.edit.now)) c.name_at-name.result.now) (sym w.stage-is) w.in_ok-stage-2.ensures
    ] in
    rw (one, c.in-Ok.ensures.ok, c.in_ok-copy.ensures) (record {
      names = names_more c.loop-place.stages (row_names c.args.graph.now) c.loop-place.place c.name_at-name.result.now c.if-contains.stage c.loop-place.invariant.names c.name_at-name.ensures;
      staged = λ name stage at. ⊎_elim (λ before. c.loop-place.invariant.staged name stage before)
          (λ here. subst (λ (n : Name). IsStage g.S.Subject.subject g.S.Subject.meaning (after_edit_of c.args.self.now (read_edit c.args.edit.now)) n stage) (sym here.0)
          (subst (IsStage g.S.Subject.subject g.S.Subject.meaning (after_edit_of c.args.self.now (read_edit c.args.edit.now)) c.name_at-name.result.now) here.1 new))
          (row_last c.loop-place.stages c.name_at-name.result.now name c.if-contains.stage stage at);
    })

pub returns : goal.returns
returns g c =
    let lib = library_edited c.args.self.now (read_edit c.args.edit.now) 0 (suc (version_after c.args.self.now)) in
    let past = c.loop-place-test.false in
    let long = c.len-place-end.ensures.len in
    let named = length-map c.args.graph.now (λ (row : Name × List Name). row.0) in
    record {
      names = c.loop-place.invariant.names ∙ take_all c.loop-place.place (row_names c.args.graph.now) (omega (arith, past, long, named)) ∙ c.requires.holds.names ∙ ap names_of (sym lib);
      staged = c.loop-place.invariant.staged;
    }
