use Rattle.std.proofs.Common.{◌≡◌, List, slice_get, Some, sym, ap, ◌∙◌, subst}
use Rattle.std.proofs.lemmas.Option.{slice_get-get_or}
use Rattle.name_meaning.specs.Names.{Name}
use Rattle.list_laws.proofs.Members.{place_member}
use Rattle.board_meaning.specs.Events.{library_after}
use Rattle.verdict_board.proofs.Gathers.{longer_among}
use Rattle.verdict_board.proofs.board.Board.longest.Goals as goal

pub loop-name-preserved : goal.loop-name-preserved
loop-name-preserved g c =
    let here : slice_get c.args.names.now c.loop-name.name-index ≡ Some c.name-item.result =
    subst (λ (xs : List Name). slice_get xs c.loop-name.name-index ≡ Some c.name-item.result) c.as_slice-name-items.ensures
    (slice_get-get_or c.as_slice-name-items.result.now c.loop-name.name-index c.name-item.result c.loop-name-test.true ∙ ap Some (sym c.name-item.is)) in
    longer_among g.S.Subject.subject.dependencies (library_after c.args.self.now) c.args.names.now c.name-item.result c.loop-name.longest c.kept_reach.result c.longer-longest.result _
    (place_member c.args.names.now c.loop-name.name-index c.name-item.result here) c.longer-longest.ensures c.loop-name.invariant c.kept_reach.ensures
