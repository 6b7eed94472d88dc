-- What is kept of a long text, and what the log makes of it.
use Rattle.std.proofs.Common.{◌≡◌, suc, ◌<◌, ◌≤◌, Bool, true, false, length, nat_lt, refl, sym, ap, ◌∙◌, arith, ltb-true, ltb-false, lt-ltb}
use Rattle.std.proofs.lemmas.List.{take_all}
use Rattle.name_meaning.specs.Names.{Name, Text}
use Rattle.edit_log_meaning.specs.Log.{Put, Log}
use Rattle.name_meaning.specs.Limits.{text_limit}
use Rattle.edit_log_meaning.specs.Append.{Edited, TooLong, append_answer, log_after, appended}
use Rattle.list_laws.proofs.Places.{length_take}
use Rattle.printing_meaning.specs.EditLines.{edit_word, edit_line, edited_line}
use Rattle.run_meaning.specs.ScriptCommands.{kept}
use Rattle.run_laws.specs.RunLaws.{IsKeptAlike}

pub short_is_kept : (text : Text) → length text ≤ text_limit → kept text ≡ text
short_is_kept text h = take_all (suc text_limit) text (omega (arith, h))

too_long : (log : Log) (name : Name) (text : Text) → nat_lt text_limit (length text) ≡ true → append_answer log (Put name text) ≡ TooLong
unfolding append_answer
too_long log name text h = rw h refl

too_long_leaves : (log : Log) (name : Name) (text : Text) → nat_lt text_limit (length text) ≡ true → appended log (Put name text) ≡ log
unfolding appended
too_long_leaves log name text h = ap (log_after log (Put name text)) (too_long log name text h)

-- what is kept of a long text is long
kept_long : (text : Text) → nat_lt text_limit (length text) ≡ true → nat_lt text_limit (length (kept text)) ≡ true
kept_long text h =
    let long : text_limit < length text = ltb-true text_limit (length text) h in
    let same : length (kept text) ≡ suc text_limit = length_take text (suc text_limit) (omega (arith, long)) in
    lt-ltb text_limit (length (kept text)) (omega (arith, same))

pub kept_alike : (log : Log) (name : Name) (text : Text) → IsKeptAlike log name text
kept_alike log name text = by (nat_lt text_limit (length text)) refl
  where
    by : (b : Bool) → nat_lt text_limit (length text) ≡ b → IsKeptAlike log name text
    by true e =
        let long = kept_long text e in
        let answer : append_answer log (Put name (kept text)) ≡ append_answer log (Put name text) = too_long log name (kept text) long ∙ sym (too_long log name text e) in
        let leaves : appended log (Put name (kept text)) ≡ appended log (Put name text) = too_long_leaves log name (kept text) long ∙ sym (too_long_leaves log name text e) in
        record {
          answer = answer;
          leaves = leaves;
          line = ap (λ (a : Edited). edit_line (edit_word (Put name (kept text)) a) name (length (appended log (Put name (kept text))))) answer
              ∙ ap (λ (l : Log). edit_line (edit_word (Put name text) (append_answer log (Put name text))) name (length l)) leaves;
        }
    by false e =
        let same : kept text ≡ text = short_is_kept text (ltb-false text_limit (length text) e) in
        record {
          answer = ap (λ (t : Text). append_answer log (Put name t)) same;
          leaves = ap (λ (t : Text). appended log (Put name t)) same;
          line = ap (λ (t : Text). edited_line log (Put name t)) same;
        }
