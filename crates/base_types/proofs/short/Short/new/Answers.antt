use Rattle.std.proofs.Common.{◌≡◌, ℕ, List, ◌++◌, length, take, drop, arith, ap, ◌∙◌}
use Rattle.std.specs.Str.{is_utf8}
use Rattle.std.proofs.lemmas.List.{take_at, drop_at, drop-replicate}
use Rattle.std.proofs.lemmas.Str.{is_utf8-from_IsUtf8}
use Rattle.base_types.proofs.short.Short.new.Goals as goal

-- what is written before the zeros is the text
front : (text written zeros : List ℕ) → written ≡ text → take (length text) (written ++ zeros) ≡ text
front text written zeros e = take_at written zeros (length text) (ap length e) ∙ e

-- and behind it are the zeros
back : (text written zeros : List ℕ) → written ≡ text → drop (length text) (written ++ zeros) ≡ zeros
back text written zeros e = drop_at written zeros (length text) (ap length e)

pub invariant_of-result : goal.invariant_of-result
invariant_of-result c =
    let same = c.copy_from_slice.ensures.after ∙ c.as_bytes.ensures.value in
    let e = front c.args.text.now c.copy_from_slice.new.self _ same in
    (omega arith, ap is_utf8 e ∙ is_utf8-from_IsUtf8 c.args.text.now c.utf8.text, back c.args.text.now c.copy_from_slice.new.self _ same ∙ drop-replicate (length c.args.text.now) 14 0)
