use Rattle.std.proofs.Common.{◌≡◌, ◌≤◌, suc, ◌+◌, length, Some, ◌⊎◌, inl, inr, sym, ap, ◌∙◌, arith}
use Rattle.std.proofs.lemmas.Option.{slice_get-get_or, same_Some}
use Rattle.name_laws.proofs.Order.{same_sound, before_turned}
use Rattle.module_graph.proofs.MergeSteps.{merging_first, merging_turned, merging_left, merging_both, merging_done}
use Rattle.module_graph.proofs.merging.merged.Goals as goal
use Rattle.module_graph.proofs.merging.merged.Goals.{then-loop-own-test+else-other-theirs, else-loop-own-test}

pub loop-own-init : goal.loop-own-init
loop-own-init c =
    rw (c.in_ok-names.ensures.items, c.as_slice-ours.ensures, c.as_slice-theirs.ensures) (merging_first c.args.left.now c.args.right.now c.requires.left c.requires.right)

pub loop-own-preserved-then-eq : goal.loop-own-preserved-then-eq
loop-own-preserved-then-eq c =
    let ours = c.as_slice-ours.result.now in
    let theirs = c.as_slice-theirs.result.now in
    let one : c.loop-own.own + 1 ≡ suc c.loop-own.own = omega arith in
    let two : c.loop-own.other + 1 ≡ suc c.loop-own.other = omega arith in
    let here = slice_get-get_or ours c.loop-own.own c.index-ours-own.result c.loop-own-test.true ∙ ap Some (sym c.index-ours-own.is) in
    let same = slice_get-get_or ours c.loop-own.own c.index-ours-own-then-eq.result c.loop-own-test.true ∙ ap Some (sym c.index-ours-own-then-eq.is) in
    let there = slice_get-get_or theirs c.loop-own.other c.index-theirs-other.result c.if-other-theirs.true ∙ ap Some (sym c.index-theirs-other.is) in
    let equal = same_sound c.index-ours-own.result c.index-theirs-other.result (sym c.eq.ensures ∙ c.if-eq.true) in
    rw (one, two, c.in_ok-push.ensures.items, c.in_ok-copy.ensures)
    (merging_both ours theirs c.loop-own.own c.loop-own.other c.loop-own.names.items c.loop-own.invariant c.index-ours-own-then-eq.result c.index-theirs-other.result same there (same_Some _ _ (sym same ∙ here) ∙ equal))

pub loop-own-preserved-then-lt : goal.loop-own-preserved-then-lt
loop-own-preserved-then-lt c =
    let ours = c.as_slice-ours.result.now in
    let theirs = c.as_slice-theirs.result.now in
    let one : c.loop-own.own + 1 ≡ suc c.loop-own.own = omega arith in
    let here = slice_get-get_or ours c.loop-own.own c.index-ours-own-else-eq.result c.loop-own-test.true ∙ ap Some (sym c.index-ours-own-else-eq.is) in
    let same = slice_get-get_or ours c.loop-own.own c.index-ours-own-then-lt.result c.loop-own-test.true ∙ ap Some (sym c.index-ours-own-then-lt.is) in
    let there = slice_get-get_or theirs c.loop-own.other c.index-theirs-other-else-eq.result c.if-other-theirs.true ∙ ap Some (sym c.index-theirs-other-else-eq.is) in
    let before = sym c.lt.ensures ∙ c.if-lt.true in
    let item = c.in_ok-copy-2.ensures ∙ same_Some _ _ (sym same ∙ here) in
    rw (one, c.in_ok-push-2.ensures.items, item)
    (merging_left ours theirs c.loop-own.own c.loop-own.other c.loop-own.names.items c.loop-own.invariant c.index-ours-own-else-eq.result c.index-theirs-other-else-eq.result here there before)

pub loop-own-preserved : goal.loop-own-preserved
loop-own-preserved c =
    let ours = c.as_slice-ours.result.now in
    let theirs = c.as_slice-theirs.result.now in
    let one : c.loop-own.other + 1 ≡ suc c.loop-own.other = omega arith in
    let here = slice_get-get_or ours c.loop-own.own c.index-ours-own-else-eq.result c.loop-own-test.true ∙ ap Some (sym c.index-ours-own-else-eq.is) in
    let first = slice_get-get_or ours c.loop-own.own c.index-ours-own.result c.loop-own-test.true ∙ ap Some (sym c.index-ours-own.is) in
    let there = slice_get-get_or theirs c.loop-own.other c.index-theirs-other-else-eq.result c.if-other-theirs.true ∙ ap Some (sym c.index-theirs-other-else-eq.is) in
    let second = slice_get-get_or theirs c.loop-own.other c.index-theirs-other.result c.if-other-theirs.true ∙ ap Some (sym c.index-theirs-other.is) in
    let same = slice_get-get_or theirs c.loop-own.other c.index-theirs-other-else-lt.result c.if-other-theirs.true ∙ ap Some (sym c.index-theirs-other-else-lt.is) in
    let a = same_Some _ _ (sym here ∙ first) in
    let b = same_Some _ _ (sym there ∙ second) in
    let before = before_turned c.index-ours-own-else-eq.result c.index-theirs-other-else-eq.result (rw (a, b) (sym c.eq.ensures ∙ c.if-eq.false)) (sym c.lt.ensures ∙ c.if-lt.false) in
    let item = c.in_ok-copy-3.ensures ∙ same_Some _ _ (sym same ∙ there) in
    rw (one, c.in_ok-push-3.ensures.items, item)
    (merging_turned theirs ours (suc c.loop-own.other) c.loop-own.own _
    (merging_left theirs ours c.loop-own.other c.loop-own.own c.loop-own.names.items (merging_turned ours theirs c.loop-own.own c.loop-own.other c.loop-own.names.items c.loop-own.invariant)
    c.index-theirs-other-else-eq.result c.index-ours-own-else-eq.result there here before))

pub returns : goal.returns
returns c =
    let ours = c.as_slice-ours.result.now in
    let theirs = c.as_slice-theirs.result.now in
    let past : (length ours ≤ c.loop-own.own) ⊎ (length theirs ≤ c.loop-own.other) = elim c.loop-own-test.branch [
      | then-loop-own-test+else-other-theirs w ↦ inr (let h = w.if-other-theirs.false in omega (arith, h))
      | else-loop-own-test w ↦ inl (let h = w.loop-own-test.false in omega (arith, h))
    ] in
    rw (c.from_vec.ensures, c.in_ok-add_from-2.ensures, c.in_ok-add_from.ensures, ← c.as_slice-ours.ensures, ← c.as_slice-theirs.ensures)
    (merging_done ours theirs c.loop-own.own c.loop-own.other c.loop-own.names.items c.loop-own.invariant past)
