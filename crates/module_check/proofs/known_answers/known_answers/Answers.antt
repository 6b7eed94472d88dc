use Rattle.std.proofs.Common.{◌≡◌, ◌+◌, suc, not, List, Some, filter, map, slice_get, sym, ap, ◌∙◌, subst, arith}
use Rattle.std.proofs.lemmas.List.{take_all}
use Rattle.std.proofs.lemmas.Option.{slice_get-get_or}
use Rattle.list_laws.proofs.Members.{Member, place_member}
use Rattle.name_meaning.specs.Names.{Name, same_name, is_ascending}
use Rattle.coherence_laws.proofs.LibrariesHold.{in_reach}
use Rattle.edit_log_meaning.specs.Log.{library_of}
use Rattle.module_graph_laws.proofs.Graphs.{graph_reaches}
use Rattle.module_graph_laws.proofs.Reaching.{reach_ascending}
use Rattle.module_graph_meaning.specs.Subject.{present_answer, answers_of}
use Rattle.text_meaning.specs.Dependencies.{dependencies}
use Rattle.verdict_meaning.specs.Rounds.{modules}
use Rattle.mmt_interface.specs.Readings.{read_verdict}
use Rattle.verdict_board.proofs.Reports.{answers_more, answers_table}
use Rattle.module_check.proofs.known_answers.known_answers.Goals as goal

pub known_answer-requires-clause-there : goal.known_answer-requires-clause-there
known_answer-requires-clause-there c =
    let L = library_of c.args.log.now in
    let xs = c.as_slice-other-items.result.now in
    let other = c.other-item.result in
    let here : slice_get xs c.loop-other.other-index ≡ Some other = slice_get-get_or xs c.loop-other.other-index other c.loop-other-test.true ∙ ap Some (sym c.other-item.is) in
    let reached = c.as_slice-other-items.ensures ∙ c.in_ok-reached.ensures ∙ graph_reaches c.args.graph.now dependencies L c.requires.holds c.args.name.now in
    c.requires.reach other (in_reach L c.args.name.now other (subst (Member other) reached (place_member xs c.loop-other.other-index other here)) (sym c.eq.ensures ∙ c.if-eq.false))

pub push_answer-requires : goal.push_answer-requires
push_answer-requires c =
    let L = library_of c.args.log.now in
    let xs = c.as_slice-other-items.result.now in
    let here : slice_get xs c.loop-other.other-index ≡ Some c.other-item.result = slice_get-get_or xs c.loop-other.other-index c.other-item.result c.loop-other-test.true ∙ ap Some (sym c.other-item.is) in
    let f = present_answer modules L in
    let p = λ (other : Name). not (same_name c.args.name.now other) in
    answers_table read_verdict f p xs (suc c.loop-other.other-index) _
    (ap is_ascending (c.as_slice-other-items.ensures ∙ c.in_ok-reached.ensures ∙ graph_reaches c.args.graph.now dependencies L c.requires.holds c.args.name.now) ∙ reach_ascending dependencies L c.args.name.now)
    (answers_more read_verdict f p xs c.loop-other.other-index c.other-item.result c.loop-other.answers c.in_ok-answer.answer here (ap not (sym c.eq.ensures ∙ c.if-eq.false)) c.in_ok-answer.ensures c.loop-other.invariant)

pub loop-other-preserved : goal.loop-other-preserved
loop-other-preserved c =
    let xs = c.as_slice-other-items.result.now in
    let here : slice_get xs c.loop-other.other-index ≡ Some c.other-item.result = slice_get-get_or xs c.loop-other.other-index c.other-item.result c.loop-other-test.true ∙ ap Some (sym c.other-item.is) in
    let f = present_answer modules (library_of c.args.log.now) in
    let p = λ (other : Name). not (same_name c.args.name.now other) in
    let one : c.loop-other.other-index + 1 ≡ suc c.loop-other.other-index = omega arith in
    rw (one, c.in_ok-push_answer.ensures)
    (answers_more read_verdict f p xs c.loop-other.other-index c.other-item.result c.loop-other.answers c.in_ok-answer.answer here (ap not (sym c.eq.ensures ∙ c.if-eq.false)) c.in_ok-answer.ensures c.loop-other.invariant)

pub returns : goal.returns
unfolding answers_of
returns c =
    let L = library_of c.args.log.now in
    let f = present_answer modules L in
    let p = λ (other : Name). not (same_name c.args.name.now other) in
    let past = c.loop-other-test.false in
    c.loop-other.invariant
    ∙ ap (λ (xs : List Name). map (λ (other : Name). (other, f other)) (filter p xs))
    (take_all c.loop-other.other-index c.as_slice-other-items.result.now (omega (arith, past)) ∙ c.as_slice-other-items.ensures ∙ c.in_ok-reached.ensures ∙ graph_reaches c.args.graph.now dependencies L c.requires.holds c.args.name.now)
