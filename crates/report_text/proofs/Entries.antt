-- The lines of the edits that are left of a log.
use Rattle.std.specs.Prelude.{slice_get}
use Rattle.std.proofs.Common.{◌≡◌, ℕ, zero, suc, ◌+◌, ◌<◌, ◌≤◌, [], ◌∷◌, ◌++◌, length, drop, Some, None, ap, ◌∙◌, arith, add-one}
use Rattle.std.proofs.Math.Seq.{drop-cons}
use Rattle.std.proofs.lemmas.List.{drop_all}
use Rattle.std.proofs.lemmas.Option.{slice_get_within, get_or_from_slice_get}
use Rattle.edit_log_meaning.specs.Log.{Edit, Log, edit_at}
use Rattle.printing_meaning.specs.EditLines.{entry_line, entry_lines}

pub edit_behind : (log : Log) (before : ℕ) → edit_at log (before + 1) ≡ slice_get log before
unfolding edit_at
edit_behind log before = ap (λ n. edit_at log n) (let next : before + 1 ≡ suc before = omega arith in next)

pub next_line : (log : Log) (before : ℕ) (edit : Edit) → slice_get log before ≡ Some edit
    → entry_lines (before + 1) (drop before log) ≡ entry_line (before + 1) edit ++ entry_lines (before + 1 + 1) (drop (before + 1) log)
unfolding entry_lines
next_line log before edit there =
    let within : before < length log = slice_get_within log before edit there in
    let left : drop before log ≡ edit ∷ drop (before + 1) log = rw add-one (drop-cons log before edit within ∙ ap (λ y. y ∷ drop (suc before) log) (get_or_from_slice_get log before edit edit there)) in
    let next : suc (before + 1) ≡ before + 1 + 1 = omega arith in
    ap (entry_lines (before + 1)) left ∙ ap (λ n. entry_line (before + 1) edit ++ entry_lines n (drop (before + 1) log)) next

pub no_line : (log : Log) (before : ℕ) → length log ≤ before → entry_lines (before + 1) (drop before log) ≡ []
unfolding entry_lines
no_line log before past = ap (entry_lines (before + 1)) (drop_all before log past)

pub none_within : (log : Log) (before : ℕ) → before < length log → slice_get log before ≡ None → ⊥
none_within [] before within none = absurd (omega (arith, within))
none_within (edit ∷ log) zero within none = absurd cc
none_within (edit ∷ log) (suc before) within none = none_within log before (omega (arith, within)) none
