use Rattle.std.proofs.Common.{◌≡◌, ◌+◌, suc, List, slice_get, Some, sym, ap, ◌∙◌, subst, arith}
use Rattle.std.proofs.lemmas.Option.{slice_get-get_or}
use Rattle.name_meaning.specs.Names.{Name}
use Rattle.list_laws.proofs.Members.{place_member}
use Rattle.board_meaning.specs.Events.{library_after}
use Rattle.verdict_board.proofs.Gathers.{known_ascending, parts_skip, parts_next}
use Rattle.verdict_board.proofs.board.Board.parts.Goals as goal

pub is_in-requires : goal.is_in-requires
is_in-requires g c = known_ascending g.S.Subject.subject.dependencies (library_after c.args.self.now) c.args.dependencies.now c.args.longest c.requires.longest

pub loop-dependency-preserved-then-is_in : goal.loop-dependency-preserved-then-is_in
loop-dependency-preserved-then-is_in g c =
    let one : c.loop-dependency.dependency-index + 1 ≡ suc c.loop-dependency.dependency-index = omega arith in
    let here : slice_get c.args.dependencies.now c.loop-dependency.dependency-index ≡ Some c.dependency-item.result =
    subst (λ (xs : List Name). slice_get xs c.loop-dependency.dependency-index ≡ Some c.dependency-item.result) c.as_slice-dependency-items.ensures
    (slice_get-get_or c.as_slice-dependency-items.result.now c.loop-dependency.dependency-index c.dependency-item.result c.loop-dependency-test.true ∙ ap Some (sym c.dependency-item.is)) in
    rw one (parts_skip g.S.Subject.subject.dependencies (library_after c.args.self.now) c.args.dependencies.now c.args.longest c.requires.longest c.loop-dependency.dependency-index c.loop-dependency.parts.items c.loop-dependency.invariant
    c.dependency-item.result here c.is_in.result c.is_in.ensures c.if-is_in.true)

pub part-requires-after_bounds : goal.part-requires-after_bounds
part-requires-after_bounds g c κs b =
    let here : slice_get c.args.dependencies.now c.loop-dependency.dependency-index ≡ Some c.dependency-item.result =
    subst (λ (xs : List Name). slice_get xs c.loop-dependency.dependency-index ≡ Some c.dependency-item.result) c.as_slice-dependency-items.ensures
    (slice_get-get_or c.as_slice-dependency-items.result.now c.loop-dependency.dependency-index c.dependency-item.result c.loop-dependency-test.true ∙ ap Some (sym c.dependency-item.is)) in
    c.requires.rests c.dependency-item.result (place_member c.args.dependencies.now c.loop-dependency.dependency-index c.dependency-item.result here)

pub loop-dependency-preserved : goal.loop-dependency-preserved
loop-dependency-preserved g c =
    let one : c.loop-dependency.dependency-index + 1 ≡ suc c.loop-dependency.dependency-index = omega arith in
    let here : slice_get c.args.dependencies.now c.loop-dependency.dependency-index ≡ Some c.dependency-item.result =
    subst (λ (xs : List Name). slice_get xs c.loop-dependency.dependency-index ≡ Some c.dependency-item.result) c.as_slice-dependency-items.ensures
    (slice_get-get_or c.as_slice-dependency-items.result.now c.loop-dependency.dependency-index c.dependency-item.result c.loop-dependency-test.true ∙ ap Some (sym c.dependency-item.is)) in
    rw (one, c.in_ok-push.ensures.items) (parts_next g.S.Subject.subject.dependencies (library_after c.args.self.now) c.args.dependencies.now c.args.longest c.requires.longest c.loop-dependency.dependency-index c.loop-dependency.parts.items c.loop-dependency.invariant
    c.dependency-item.result here c.in_ok-part.field-0 c.in_ok-part.ensures)
