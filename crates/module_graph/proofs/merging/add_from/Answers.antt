use Rattle.std.proofs.Common.{◌≡◌, ◌∷◌, ◌++◌, [], ◌+◌, suc, drop, Some, sym, ap, ◌∙◌, arith, append-nil}
use Rattle.std.proofs.lemmas.List.{append_assoc}
use Rattle.std.proofs.lemmas.Option.{slice_get-get_or}
use Rattle.list_laws.proofs.Places.{drop_here}
use Rattle.module_graph.proofs.MergeSteps.{none_left}
use Rattle.module_graph.proofs.merging.add_from.Goals as goal

pub loop-place-preserved : goal.loop-place-preserved
loop-place-preserved c =
    let one : c.loop-place.place + 1 ≡ suc c.loop-place.place = omega arith in
    let here = slice_get-get_or c.args.more.now c.loop-place.place c.index-more-place.result c.loop-place-test.true ∙ ap Some (sym c.index-more-place.is) in
    rw (one, c.in_ok-push.ensures.items, c.in_ok-copy.ensures)
    (append_assoc c.loop-place.names.items (c.index-more-place.result ∷ []) (drop (suc c.loop-place.place) c.args.more.now)
    ∙ ap (λ z. c.loop-place.names.items ++ z) (sym (drop_here c.args.more.now c.loop-place.place c.index-more-place.result here)) ∙ c.loop-place.invariant)

pub returns : goal.returns
returns c =
    let past = c.loop-place-test.false in
    sym (append-nil c.loop-place.names.items) ∙ ap (λ z. c.loop-place.names.items ++ z) (sym (none_left c.args.more.now c.loop-place.place (omega (arith, past)))) ∙ c.loop-place.invariant
