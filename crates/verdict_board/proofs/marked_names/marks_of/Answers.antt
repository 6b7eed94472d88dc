use Rattle.std.proofs.Common.{Some, ◌+◌, ◌*◌, ◌%◌, ◌^◌, ◌≡◌, suc, take, bit_or, sym, ap, ◌∙◌, arith, subst}
use Rattle.std.proofs.lemmas.Option.{slice_get-get_or}
use Rattle.verdict_board.specs.Marks.{AreMarked}
use Rattle.verdict_board.proofs.Marks.{marked_next, power}
use Rattle.verdict_board.proofs.marked_names.marks_of.Goals as goal

pub loop-name-preserved : goal.loop-name-preserved
loop-name-preserved c =
    let items = c.as_slice-name-items.result.now in
    let here = slice_get-get_or items c.loop-name.name-index c.name-item.result c.loop-name-test.true ∙ ap Some (sym c.name-item.is) in
    let one : c.loop-name.name-index + 1 ≡ suc c.loop-name.name-index = omega arith in
    let bit = power c.bit_of.result c.bit_of.ensures.within ∙ ap (λ i. 2 ^ i) c.bit_of.ensures.bit in
    subst (λ i. AreMarked (take i items) (bit_or c.loop-name.marks ((1 * 2 ^ c.bit_of.result) % 18446744073709551616))) (sym one)
    (subst (λ z. AreMarked (take (suc c.loop-name.name-index) items) (bit_or c.loop-name.marks z)) (sym bit)
    (marked_next items c.loop-name.name-index c.name-item.result c.loop-name.marks here c.loop-name.invariant))
