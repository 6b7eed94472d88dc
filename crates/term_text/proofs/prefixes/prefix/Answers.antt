use Rattle.std.proofs.Common.{◌≡◌, ℕ, true, false, ◌<◌, ◌-◌, List, [], ◌∷◌, ◌++◌, length, sym, ap, ◌∙◌, subst, arith}
use Rattle.std.proofs.lemmas.List.{length-append}
use Rattle.printing_meaning.specs.Prefixes.{enough, is_taken}
use Rattle.term_trees.specs.Readings.{read_signature}
use Rattle.term_text.proofs.Searching.{Sought, sought_first, sought_next, sought_end, taken_is_short}
use Rattle.term_text.proofs.prefixes.prefix.Goals as goal

-- one byte more, where some are lacking
fewer : (most : ℕ) (before after : List ℕ) → after ≡ before ++ 39 ∷ [] → length before < most → most - length after < most - length before
fewer most before after is short = let longer = ap length is ∙ length-append before (39 ∷ []) in omega (arith, longer, short)

pub loop-prefix-init : goal.loop-prefix-init
loop-prefix-init c = subst (λ items. Sought (read_signature c.args.own.now) items) (sym c.in_ok-prefix.ensures.items) (sought_first (read_signature c.args.own.now))

pub loop-prefix-smaller : goal.loop-prefix-smaller
loop-prefix-smaller c =
    let own = read_signature c.args.own.now in
    let taken : is_taken own c.loop-prefix.prefix.items ≡ true = ap (is_taken own) (sym c.deref.ensures.value) ∙ sym c.is_taken.ensures ∙ c.loop-prefix-test.true in
    fewer (enough own) c.loop-prefix.prefix.items c.push.new.self.items c.in_ok-push.ensures.items (taken_is_short own c.loop-prefix.prefix.items taken)

pub loop-prefix-preserved : goal.loop-prefix-preserved
loop-prefix-preserved c =
    let own = read_signature c.args.own.now in
    let taken : is_taken own c.loop-prefix.prefix.items ≡ true = ap (is_taken own) (sym c.deref.ensures.value) ∙ sym c.is_taken.ensures ∙ c.loop-prefix-test.true in
    subst (λ items. Sought own items) (sym c.in_ok-push.ensures.items) (sought_next own c.loop-prefix.prefix.items c.loop-prefix.invariant taken)

pub returns : goal.returns
returns c =
    let own = read_signature c.args.own.now in
    let free : is_taken own c.loop-prefix.prefix.items ≡ false = ap (is_taken own) (sym c.deref.ensures.value) ∙ sym c.is_taken.ensures ∙ c.loop-prefix-test.false in
    sought_end own c.loop-prefix.prefix.items c.loop-prefix.invariant free
