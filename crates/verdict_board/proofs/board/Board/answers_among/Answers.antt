use Rattle.std.proofs.Common.{◌≡◌, ◌+◌, suc, not, List, Some, filter, map, length, slice_get, sym, ap, ◌∙◌, subst, arith}
use Rattle.std.proofs.lemmas.List.{take_all}
use Rattle.std.proofs.lemmas.Option.{slice_get-get_or}
use Rattle.name_meaning.specs.Names.{Name, same_name, is_ascending}
use Rattle.module_graph_laws.proofs.Reaching.{reach_ascending}
use Rattle.module_graph_meaning.specs.Subject.{present_answer, answers_of}
use Rattle.board_meaning.specs.Events.{library_after}
use Rattle.list_laws.proofs.Members.{place_member}
use Rattle.verdict_board.proofs.Reports.{answers_more, answers_table}
use Rattle.verdict_board.proofs.board.Board.answers_among.Goals as goal

pub answer_of-requires-after_bounds : goal.answer_of-requires-after_bounds
answer_of-requires-after_bounds g c κs b =
    let here : slice_get c.args.reached.now c.loop-other.other-index ≡ Some c.other-item.result =
    subst (λ (xs : List Name). slice_get xs c.loop-other.other-index ≡ Some c.other-item.result) c.as_slice-other-items.ensures
    (slice_get-get_or c.as_slice-other-items.result.now c.loop-other.other-index c.other-item.result c.loop-other-test.true ∙ ap Some (sym c.other-item.is)) in
    c.requires.known c.other-item.result (place_member c.args.reached.now c.loop-other.other-index c.other-item.result here) (sym c.eq.ensures ∙ c.if-eq.false)

pub push-requires : goal.push-requires
push-requires g c =
    let here : slice_get c.args.reached.now c.loop-other.other-index ≡ Some c.other-item.result =
    subst (λ (xs : List Name). slice_get xs c.loop-other.other-index ≡ Some c.other-item.result) c.as_slice-other-items.ensures
    (slice_get-get_or c.as_slice-other-items.result.now c.loop-other.other-index c.other-item.result c.loop-other-test.true ∙ ap Some (sym c.other-item.is)) in
    let f = present_answer g.S.Subject.subject (library_after c.args.self.now) in
    let p = λ (other : Name). not (same_name c.args.name.now other) in
    rw c.in_ok-copy.ensures (answers_table g.S.Subject.meaning f p c.args.reached.now (suc c.loop-other.other-index) _
    (ap is_ascending c.requires.reached ∙ reach_ascending g.S.Subject.subject.dependencies (library_after c.args.self.now) c.args.name.now)
    (answers_more g.S.Subject.meaning f p c.args.reached.now c.loop-other.other-index c.other-item.result c.loop-other.answers c.in_ok-answer.answer here (ap not (sym c.eq.ensures ∙ c.if-eq.false)) c.in_ok-answer.ensures c.loop-other.invariant))

pub loop-other-preserved : goal.loop-other-preserved
loop-other-preserved g c =
    let here : slice_get c.args.reached.now c.loop-other.other-index ≡ Some c.other-item.result =
    subst (λ (xs : List Name). slice_get xs c.loop-other.other-index ≡ Some c.other-item.result) c.as_slice-other-items.ensures
    (slice_get-get_or c.as_slice-other-items.result.now c.loop-other.other-index c.other-item.result c.loop-other-test.true ∙ ap Some (sym c.other-item.is)) in
    let f = present_answer g.S.Subject.subject (library_after c.args.self.now) in
    let p = λ (other : Name). not (same_name c.args.name.now other) in
    let one : c.loop-other.other-index + 1 ≡ suc c.loop-other.other-index = omega arith in
    rw (one, c.in-Ok.ensures.ok, c.in_ok-copy.ensures)
    (answers_more g.S.Subject.meaning f p c.args.reached.now c.loop-other.other-index c.other-item.result c.loop-other.answers c.in_ok-answer.answer here (ap not (sym c.eq.ensures ∙ c.if-eq.false)) c.in_ok-answer.ensures c.loop-other.invariant)

pub returns : goal.returns
unfolding answers_of
returns g c =
    let f = present_answer g.S.Subject.subject (library_after c.args.self.now) in
    let p = λ (other : Name). not (same_name c.args.name.now other) in
    let all = ap length c.as_slice-other-items.ensures in
    let past = c.loop-other-test.false in
    c.loop-other.invariant
    ∙ ap (λ (xs : List Name). map (λ (other : Name). (other, f other)) (filter p xs)) (take_all c.loop-other.other-index c.args.reached.now (omega (arith, all, past)) ∙ c.requires.reached)
