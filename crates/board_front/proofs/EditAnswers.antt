-- What the answer to an edit says of the log, of the history, and of the word for it.
use Rattle.std.proofs.Common.{◌≡◌, ℕ, List, true, false, true≢false, Some, None, Result, Ok, Err, inl, inr, sym, ap, ◌∙◌}
use Rattle.std.specs.Prelude.{IfOk, OnErr, OnOk}
use Rattle.edit_log_meaning.specs.Log.{Edit, Log}
use Rattle.edit_log_meaning.specs.Append.{append_answer, appended, log_after}
use Rattle.edit_log_meaning.specs.Append as answers
use Rattle.printing_meaning.specs.EditLines.{edit_word, made_word}
use Rattle.board_meaning.specs.Events.{History, log_of}
use Rattle.edit_log.specs.Readings.{IsAnswer}
use Rattle.edit_log.specs.declared.answers.Edited.{Edited}
use Rattle.edit_log.specs.declared.answers.Edited.TheVariants.{Made, Same, Absent}
use Rattle.edit_log.specs.declared.answers.EditFault.{EditFault}
use Rattle.edit_log.specs.declared.answers.EditFault.TheVariants.{Full, TooLong, TooMany, Memory}
use Rattle.board_front.specs.Staying.{EditGoes, Edits, IsFront, MayEdit}
use Rattle.board_front.specs.Words.{made_by, word_by}
use Rattle.board_front.proofs.Asked.{always_ok}

appended_is : (log : Log) (history : History) (edit : Edit) (answer : answers.Edited) → IsFront log history → append_answer (log_of history) edit ≡ answer → appended log edit ≡ log_after log edit answer
unfolding appended
appended_is log history edit answer front e = ap (log_after log edit) (ap (λ (l : Log). append_answer l edit) front.logged ∙ e)

-- The log of the history answers as the front's own does.
pub front_answer : (log : Log) (history : History) (edit : Edit) → IsFront log history → append_answer (log_of history) edit ≡ append_answer log edit
front_answer log history edit front = ap (λ (l : Log). append_answer l edit) (sym front.logged)

same_word : {word told : List ℕ} → Some word ≡ Some told → word ≡ told
same_word e = cc

-- The word for the answer is that of the definitions.
word_is : (edit : Edit) (answer : Result Edited EditFault) (means : answers.Edited) → IsAnswer answer means → (word : List ℕ) → Some word ≡ word_by (made_word edit) answer → word ≡ edit_word edit means
word_is edit (Ok (Made version)) means is word e = same_word e ∙ sym (ap (edit_word edit) is)
word_is edit (Ok (Same version)) means is word e = same_word e ∙ sym (ap (edit_word edit) is)
word_is edit (Ok (Absent version)) means is word e = same_word e ∙ sym (ap (edit_word edit) is)
word_is edit (Err Full) means is word e = same_word e ∙ sym (ap (edit_word edit) is)
word_is edit (Err TooLong) means is word e = same_word e ∙ sym (ap (edit_word edit) is)
word_is edit (Err TooMany) means is word e = same_word e ∙ sym (ap (edit_word edit) is)
word_is edit (Err Memory) means is word e = absurd (cc)

pub answered_word : {W E : Type 0} (text : W → List ℕ) (edit : Edit) (answer : Result Edited EditFault) (means : answers.Edited) (made : List ℕ) (result : Result W E) → IsAnswer answer means
    → made ≡ made_word edit → IfOk result (λ word. Some (text word) ≡ word_by made answer) → IfOk result (λ word. text word ≡ edit_word edit means)
answered_word text edit answer means made (Ok word) is m e = word_is edit answer means is (text word) (e ∙ ap (λ w. word_by w answer) m)
answered_word text edit answer means made (Err fault) is m e = tt

-- Where there is a word, memory was not wanting.
worded : {W E : Type 0} (text : W → List ℕ) (made : List ℕ) (P : Type 0) (result : Result W E) → IfOk result (λ word. Some (text word) ≡ word_by made (Err Memory)) → OnOk result P
worded text made P (Ok word) e = absurd (not_some e)
  where
    not_some : {word : List ℕ} → Some word ≡ None → ⊥
    not_some n = cc
worded text made P (Err fault) e = tt

module _ {W E : Type 0} (text : W → List ℕ) (log : Log) (before after : History) (edit : Edit) (made : List ℕ) (result : Result W E) where
  -- An edit that was not made leaves the log.
  pub unmade_log : (answer : Result Edited EditFault) → made_by answer ≡ false → IsFront log before → IsAnswer answer (append_answer (log_of before) edit)
      → IfOk result (λ word. Some (text word) ≡ word_by made answer) → OnOk result (log ≡ appended log edit)
  unmade_log (Ok (Made version)) unmade front is e = absurd (true≢false unmade)
  unmade_log (Ok (Same version)) unmade front is e = always_ok result (sym (appended_is log before edit (answers.Same version) front is))
  unmade_log (Ok (Absent version)) unmade front is e = always_ok result (sym (appended_is log before edit (answers.Absent version) front is))
  unmade_log (Err Full) unmade front is e = always_ok result (sym (appended_is log before edit answers.Full front is))
  unmade_log (Err TooLong) unmade front is e = always_ok result (sym (appended_is log before edit answers.TooLong front is))
  unmade_log (Err TooMany) unmade front is e = always_ok result (sym (appended_is log before edit answers.TooMany front is))
  unmade_log (Err Memory) unmade front is e = worded text made (log ≡ appended log edit) result e

  -- The history goes on as the edit says.
  pub answered_edits : (answer : Result Edited EditFault) → EditGoes answer edit before after → IfOk result (λ word. Some (text word) ≡ word_by made answer) → OnOk result (Edits edit before after)
  answered_edits (Ok edited) goes e = always_ok result goes
  answered_edits (Err Full) goes e = always_ok result goes
  answered_edits (Err TooLong) goes e = always_ok result goes
  answered_edits (Err TooMany) goes e = always_ok result goes
  answered_edits (Err Memory) goes e = worded text made (Edits edit before after) result e

  -- The history goes on, with the edit or without it.
  may_edit : (answer : Result Edited EditFault) → EditGoes answer edit before after → MayEdit edit before after
  may_edit (Ok edited) goes = inr goes
  may_edit (Err Full) goes = inr goes
  may_edit (Err TooLong) goes = inr goes
  may_edit (Err TooMany) goes = inr goes
  may_edit (Err Memory) goes = inl goes

  pub answered_may : (answer : Result Edited EditFault) → EditGoes answer edit before after → OnErr result (MayEdit edit before after)
  answered_may answer goes = by result (may_edit answer goes)
    where
      by : (r : Result W E) → MayEdit edit before after → OnErr r (MayEdit edit before after)
      by (Ok word) may = tt
      by (Err fault) may = may

-- An edit that was made: its word, and how the history goes on.
pub made_is : (edit : Edit) (answer : Result Edited EditFault) (means : answers.Edited) → made_by answer ≡ true → IsAnswer answer means → made_word edit ≡ edit_word edit means
made_is edit (Ok (Made version)) means made is = sym (ap (edit_word edit) is)
made_is edit (Ok (Same version)) means made is = absurd (true≢false (sym made))
made_is edit (Ok (Absent version)) means made is = absurd (true≢false (sym made))
made_is edit (Err fault) means made is = absurd (true≢false (sym made))

pub made_edits : (before after : History) (edit : Edit) (answer : Result Edited EditFault) → made_by answer ≡ true → EditGoes answer edit before after → Edits edit before after
made_edits before after edit (Ok edited) made goes = goes
made_edits before after edit (Err fault) made goes = absurd (true≢false (sym made))
