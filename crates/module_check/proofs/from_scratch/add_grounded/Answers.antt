use Rattle.std.proofs.Common.{◌≡◌, ◌+◌, suc, [], ◌∷◌, ◌++◌, Some, take, slice_get, sym, ap, ◌∙◌, subst, append-nil, append_assoc, arith}
use Rattle.std.proofs.lemmas.List.{take_all}
use Rattle.std.proofs.lemmas.Option.{slice_get-get_or}
use Rattle.list_laws.proofs.Places.{take_more}
use Rattle.name_meaning.specs.Names.{is_among}
use Rattle.edit_log_meaning.specs.Log.{library_of}
use Rattle.edit_log_laws.proofs.Libraries.{library_ascending}
use Rattle.module_graph_laws.proofs.Graphs.{graph_grounds}
use Rattle.module_graph_meaning.specs.Walks.{ungrounded_names}
use Rattle.text_meaning.specs.Dependencies.{dependencies}
use Rattle.module_check.specs.JudgingOrders.{HasReachOf, HaveAll}
use Rattle.module_check.proofs.JudgingOrder.{order_grounded, order_fresh, order_reached, order_whole}
use Rattle.module_check.proofs.from_scratch.add_grounded.Goals as goal

pub loop-name-init : goal.loop-name-init
loop-name-init c = record {
  verdicts = c.requires.verdicts;
  names = c.requires.names ∙ sym (append-nil (ungrounded_names dependencies (library_of c.args.log.now)));
}

pub add_judged-requires-clause-grounded : goal.add_judged-requires-clause-grounded
add_judged-requires-clause-grounded c =
    let L = library_of c.args.log.now in
    let xs = c.as_slice-name-items.result.now in
    let here : slice_get xs c.loop-name.name-index ≡ Some c.name-item.result = slice_get-get_or xs c.loop-name.name-index c.name-item.result c.loop-name-test.true ∙ ap Some (sym c.name-item.is) in
    order_grounded L c.args.graph.now c.requires.holds (library_ascending c.args.log.now) c.args.known.now c.in_ok-order.order (c.requires.grounded ∙ graph_grounds c.args.graph.now dependencies L c.requires.holds)
    c.in_ok-order.ensures.same c.in_ok-order.ensures.rises c.loop-name.name-index c.name-item.result (ap (λ names. slice_get names c.loop-name.name-index) (sym c.as_slice-name-items.ensures) ∙ here)

pub add_judged-requires-clause-reach : goal.add_judged-requires-clause-reach
add_judged-requires-clause-reach c =
    let L = library_of c.args.log.now in
    let xs = c.as_slice-name-items.result.now in
    let i = c.loop-name.name-index in
    let here : slice_get xs i ≡ Some c.name-item.result = slice_get-get_or xs i c.name-item.result c.loop-name-test.true ∙ ap Some (sym c.name-item.is) in
    let names = c.loop-name.invariant.names ∙ ap (λ order. ungrounded_names dependencies L ++ take i order) c.as_slice-name-items.ensures in
    subst (λ z. HasReachOf L z c.name-item.result) (sym names)
    (order_reached L c.args.graph.now c.requires.holds (library_ascending c.args.log.now) c.args.known.now c.in_ok-order.order (c.requires.grounded ∙ graph_grounds c.args.graph.now dependencies L c.requires.holds)
    c.in_ok-order.ensures.same c.in_ok-order.ensures.rises i c.name-item.result (ap (λ names. slice_get names i) (sym c.as_slice-name-items.ensures) ∙ here))

pub add_judged-requires-clause-new : goal.add_judged-requires-clause-new
add_judged-requires-clause-new c =
    let L = library_of c.args.log.now in
    let xs = c.as_slice-name-items.result.now in
    let i = c.loop-name.name-index in
    let here : slice_get xs i ≡ Some c.name-item.result = slice_get-get_or xs i c.name-item.result c.loop-name-test.true ∙ ap Some (sym c.name-item.is) in
    let names = c.loop-name.invariant.names ∙ ap (λ order. ungrounded_names dependencies L ++ take i order) c.as_slice-name-items.ensures in
    ap (λ z. is_among z c.name-item.result) names
    ∙ order_fresh L c.args.graph.now c.requires.holds (library_ascending c.args.log.now) c.args.known.now c.in_ok-order.order (c.requires.grounded ∙ graph_grounds c.args.graph.now dependencies L c.requires.holds)
    c.in_ok-order.ensures.same c.in_ok-order.ensures.rises i c.name-item.result (ap (λ names. slice_get names i) (sym c.as_slice-name-items.ensures) ∙ here)

pub loop-name-preserved : goal.loop-name-preserved
loop-name-preserved c =
    let L = library_of c.args.log.now in
    let xs = c.as_slice-name-items.result.now in
    let i = c.loop-name.name-index in
    let one : i + 1 ≡ suc i = omega arith in
    let here : slice_get xs i ≡ Some c.name-item.result = slice_get-get_or xs i c.name-item.result c.loop-name-test.true ∙ ap Some (sym c.name-item.is) in
    record {
      verdicts = c.in_ok-add_judged.ensures.verdicts;
      names = rw one (c.in_ok-add_judged.ensures.names ∙ ap (λ names. names ++ c.name-item.result ∷ []) c.loop-name.invariant.names
          ∙ append_assoc (ungrounded_names dependencies L) (take i xs) (c.name-item.result ∷ []) ∙ ap (λ names. ungrounded_names dependencies L ++ names) (sym (take_more xs i c.name-item.result here)));
    }

pub returns-clause-all : goal.returns-clause-all
returns-clause-all c =
    let L = library_of c.args.log.now in
    let xs = c.as_slice-name-items.result.now in
    let past = c.loop-name-test.false in
    let names = c.loop-name.invariant.names ∙ ap (λ names. ungrounded_names dependencies L ++ names) (take_all c.loop-name.name-index xs (omega (arith, past)) ∙ c.as_slice-name-items.ensures) in
    subst (HaveAll L) (sym names)
    (order_whole L c.args.graph.now c.requires.holds (library_ascending c.args.log.now) c.args.known.now c.in_ok-order.order (c.requires.grounded ∙ graph_grounds c.args.graph.now dependencies L c.requires.holds)
    c.in_ok-order.ensures.same c.in_ok-order.ensures.rises)
