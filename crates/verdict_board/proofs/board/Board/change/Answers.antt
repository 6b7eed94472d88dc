use Rattle.std.proofs.Common.{suc, sym, ap, ◌∙◌}
use Rattle.edit_log.specs.Readings.{read_edit}
use Rattle.module_graph_meaning.specs.Walks.{is_ungrounded}
use Rattle.board_meaning.specs.Events.{library_after, version_after}
use Rattle.verdict_board.specs.Stages.{after_edit_of}
use Rattle.verdict_board.proofs.Edits.{library_edited}
use Rattle.verdict_board.proofs.Rings.{listed_none}
use Rattle.verdict_board.proofs.board.Board.change.Goals as goal

pub returns : goal.returns
returns g c =
    let D = g.S.Subject.subject.dependencies in
    let e = read_edit c.args.edit.now in
    let lib = library_edited c.args.self.now e 0 (suc (version_after c.args.self.now)) in (
      c.in_ok-graph.ensures,
      c.in_ok-stages.ensures,
      λ h name. ap (λ library. is_ungrounded D library name) (sym lib) ∙ listed_none D (library_after (after_edit_of c.args.self.now e)) c.in_ok-bad.bad c.in_ok-bad.ensures c.len-rings.result c.len-rings.ensures h name,
    )
