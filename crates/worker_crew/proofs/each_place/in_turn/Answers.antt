use Rattle.std.proofs.Common.{ℕ, ◌+◌, ◌<◌, length, get_or, set, sym, subst, ◌∙◌, arith, below_more}
use Rattle.std.proofs.lemmas.List.{get_or-set_same, get_or-set_other, get_or_default}
use Rattle.std.specs.Fork.{ChangesAt}
use Rattle.worker_crew.proofs.each_place.in_turn.Goals as goal

pub loop-k-preserved : goal.loop-k-preserved
loop-k-preserved g c =
    let k = c.loop-k.k in
    let before = c.args.items.now in
    let so_far = c.loop-k.items in
    let item = c.at_one.new.item in
    let Changes : ℕ → g.row.T.Denot → g.row.T.Denot → Type 0 = λ j. ChangesAt g.F.Fn c.args.f.now (c.args.base + j) in
    let within : k < length so_far = omega arith in (
      λ j d h. get_or-set_other so_far k j item d (λ e. omega arith) ∙ c.loop-k.invariant.0 j d (omega arith),
      λ j d h. below_more (λ i. Changes i (get_or before i d) (get_or (set so_far k item) i d)) k
          (λ i u. subst (Changes i (get_or before i d)) (sym (get_or-set_other so_far k i item d (λ e. omega arith))) (c.loop-k.invariant.1 i d u))
          (subst (Changes k (get_or before k d)) (sym (get_or-set_same so_far k item d within))
          (subst (λ x. Changes k x item) (get_or_default so_far k _ d within ∙ c.loop-k.invariant.0 k d (omega arith)) c.at_one.ensures))
          j h,
    )
