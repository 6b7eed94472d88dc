use Rattle.std.proofs.Common.{◌≡◌, ◌∷◌, ◌++◌, [], ◌+◌, suc, not, sym, ap, ◌∙◌, arith}
use Rattle.name_meaning.specs.Names.{Name, is_among}
use Rattle.name_meaning.specs.Rows.{row_names}
use Rattle.verdict_board.proofs.EditSteps.{filter_skip, filter_keep}
use Rattle.module_check.proofs.ungrounded.others.Goals as goal

pub loop-place-preserved-then-contains : goal.loop-place-preserved-then-contains
loop-place-preserved-then-contains c =
    let one : c.loop-place.place + 1 ≡ suc c.loop-place.place = omega arith in
    let p = λ (n : Name). not (is_among c.args.names.now n) in
    rw one (c.loop-place.invariant ∙ sym (filter_skip p (row_names c.args.graph.now) c.loop-place.place c.name_at-name.result.now c.name_at-name.ensures (ap not (sym c.contains.ensures ∙ c.if-contains.true))))

pub loop-place-preserved : goal.loop-place-preserved
loop-place-preserved c =
    let one : c.loop-place.place + 1 ≡ suc c.loop-place.place = omega arith in
    let p = λ (n : Name). not (is_among c.args.names.now n) in
    rw one (c.in_ok-push.ensures.items ∙ (λ i. c.loop-place.invariant i ++ c.in_ok-copy.ensures i ∷ [])
    ∙ sym (filter_keep p (row_names c.args.graph.now) c.loop-place.place c.name_at-name.result.now c.name_at-name.ensures (ap not (sym c.contains.ensures ∙ c.if-contains.false))))
