use Rattle.std.proofs.Common.{◌≡◌, ◌∙◌, refl, subst}
use Rattle.edit_log.specs.declared.edit.Edit as code
use Rattle.edit_log.specs.Readings.{read_edit}
use Rattle.verdict_board.specs.Tables.{AreDependencies}
use Rattle.verdict_board.proofs.EditSteps.{put_holds, drop_holds}
use Rattle.verdict_board.proofs.board.Board.graph_after.Goals as goal
use Rattle.verdict_board.proofs.board.Board.graph_after.Goals.{in-Put+in_ok-copy-in-Put+in_ok-set-in-Put, in-Drop}

pub returns : goal.returns
returns g c =
    let D = g.S.Subject.subject.dependencies in
    rw (← c.self.view_is) (elim c.match-edit.branch [
      | in-Put+in_ok-copy-in-Put+in_ok-set-in-Put w ↦
          let row : c.args.dependencies ≡ D w.in-Put.name w.in-Put.text = subst (λ (edit : code.Edit). AreDependencies D (read_edit edit) c.args.dependencies) w.in-Put.is c.requires.dependencies in
          put_holds D _ c.self.inside.graph c.self.invariant.holds c.args.edit.now w.in-Put.name w.in-Put.text w.in-Put.is
          w.in_ok-copy-in-Put.field-0 w.in-Put.text c.args.dependencies c.in_ok-graph.graph c.match-edit.graph w.in_ok-copy-in-Put.ensures refl row c.in_ok-graph.ensures
          (w.graph-is ∙ w.in_ok-set-in-Put.ensures.ok)
      | in-Drop w ↦ drop_holds D _ c.self.inside.graph c.self.invariant.holds c.args.edit.now w.in-Drop.name w.in-Drop.is c.in_ok-graph.graph c.match-edit.graph c.in_ok-graph.ensures (w.graph-is ∙ w.remove.ensures.rows)
    ])
