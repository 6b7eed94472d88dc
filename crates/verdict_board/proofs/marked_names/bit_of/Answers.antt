use Rattle.std.proofs.Common.{◌≡◌, ◌+◌, ◌*◌, ◌%◌, suc, take, Some, sym, ap, ◌∙◌, refl, arith}
use Rattle.std.proofs.lemmas.List.{take_all}
use Rattle.std.proofs.lemmas.Option.{slice_get-get_or}
use Rattle.verdict_board.specs.Marks.{bit_of}
use Rattle.verdict_board.proofs.Marks.{bit_next}
use Rattle.verdict_board.proofs.marked_names.bit_of.Goals as goal

pub loop-byte-init : goal.loop-byte-init
unfolding bit_of
loop-byte-init c = (refl, omega arith)

pub loop-byte-preserved : goal.loop-byte-preserved
loop-byte-preserved c =
    let here = slice_get-get_or c.as_bytes-byte-items.result.now c.loop-byte.byte-index 0 c.loop-byte-test.true ∙ ap Some (sym c.from.ensures) in
    let one : c.loop-byte.byte-index + 1 ≡ suc c.loop-byte.byte-index = omega arith in (
      ap (λ z. (z * 31 + c.from.result) % 64) c.loop-byte.invariant.0 ∙ sym (bit_next c.as_bytes-byte-items.result.now c.loop-byte.byte-index c.from.result here)
          ∙ ap (λ i. bit_of (take i c.as_bytes-byte-items.result.now)) (sym one),
      omega arith,
    )

pub returns-clause-bit : goal.returns-clause-bit
returns-clause-bit c =
    let past = c.loop-byte-test.false in
    c.loop-byte.invariant.0 ∙ ap bit_of (take_all c.loop-byte.byte-index c.as_bytes-byte-items.result.now (omega (arith, past)) ∙ c.as_bytes-byte-items.ensures.value ∙ c.as_str.ensures.text)
