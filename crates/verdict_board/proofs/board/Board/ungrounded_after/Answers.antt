use Rattle.std.proofs.Common.{◌≡◌, suc, not, List, filter, sym, subst}
use Rattle.name_meaning.specs.Names.{Name, is_among}
use Rattle.name_meaning.specs.Rows.{row_names}
use Rattle.edit_log_laws.proofs.Libraries.{library_ascending}
use Rattle.module_graph_meaning.specs.Graphs.{HoldsDependencies}
use Rattle.module_graph_meaning.specs.Walks.{ungrounded_names}
use Rattle.board_meaning.specs.Events.{log_of, library_after, version_after}
use Rattle.edit_log.specs.Readings.{read_edit}
use Rattle.verdict_board.specs.Stages.{after_edit_of}
use Rattle.verdict_board.proofs.Edits.{library_edited}
use Rattle.verdict_board.proofs.EditSteps.{if_ok, known_sorted, bad_listed}
use Rattle.verdict_board.proofs.board.Board.ungrounded_after.Goals as goal

pub others-requires : goal.others-requires
others-requires g c =
    let D = g.S.Subject.subject.dependencies in
    let after = library_after (after_edit_of c.args.self.now (read_edit c.args.edit.now)) in
    let lib = library_edited c.args.self.now (read_edit c.args.edit.now) 0 (suc (version_after c.args.self.now)) in
    let holds : HoldsDependencies c.args.graph.now D after = subst (HoldsDependencies c.args.graph.now D) (sym lib) c.requires in
    let t = library_ascending (log_of (after_edit_of c.args.self.now (read_edit c.args.edit.now))) in
    known_sorted c.args.graph.now D after holds t c.in_ok-known.known c.in_ok-known.ensures

pub returns : goal.returns
returns g c =
    let D = g.S.Subject.subject.dependencies in
    let after = library_after (after_edit_of c.args.self.now (read_edit c.args.edit.now)) in
    let lib = library_edited c.args.self.now (read_edit c.args.edit.now) 0 (suc (version_after c.args.self.now)) in
    let holds : HoldsDependencies c.args.graph.now D after = subst (HoldsDependencies c.args.graph.now D) (sym lib) c.requires in
    let t = library_ascending (log_of (after_edit_of c.args.self.now (read_edit c.args.edit.now))) in
    if_ok (λ (names : List Name). names ≡ filter (λ (n : Name). not (is_among c.in_ok-known.known n)) (row_names c.args.graph.now)) (λ (bad : List Name). bad ≡ ungrounded_names D after) c.others.result
    (λ names e. bad_listed c.args.graph.now D after holds t c.in_ok-known.known c.in_ok-known.ensures names e) c.others.ensures
