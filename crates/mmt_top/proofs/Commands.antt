-- Commands that are played one after another: their texts, the log that they leave, and the items that they are.
use Rattle.std.proofs.Common.{◌≡◌, ◌⊎◌, inl, inr, ⊎_elim, List, [], ◌∷◌, ◌++◌, map, refl, sym, ap, ◌∙◌, append_assoc, append-nil}
use Rattle.std.proofs.lemmas.List.Sums.{fold-append}
use Rattle.list_laws.proofs.Lists.{first_same, rest_same}
use Rattle.edit_log_meaning.specs.Log.{Log}
use Rattle.run_meaning.specs.Judging.{Judging}
use Rattle.run_meaning.specs.ScriptCommands.{Command}
use Rattle.run_meaning.specs.ScriptItems.{Item, Spoken}
use Rattle.run_meaning.specs.ScriptOutput.{command_text, log_after, output_from, has_fault}
use Rattle.run_meaning.specs.ScriptLogs.{commands_of, log_through}
use Rattle.run_laws.specs.RunLaws.{spoken_text}

-- An element of two lists, one behind the other, is in the first, or behind it.
pub parted : {A : Type 0} (xs ys done more : List A) (x : A) → xs ++ ys ≡ done ++ x ∷ more
    → ((between : List A) × (xs ≡ done ++ x ∷ between)) ⊎ ((front : List A) × (done ≡ xs ++ front) × (ys ≡ front ++ x ∷ more))
parted [] ys done more x e = inr (done, refl, e)
parted (y ∷ xs) ys [] more x e = inl (xs, ap (λ z. z ∷ xs) (first_same e))
parted (y ∷ xs) ys (z ∷ done) more x e =
    ⊎_elim
    (λ l. inl (l.0, ap (λ w. w ∷ xs) (first_same e) ∙ ap (λ ws. z ∷ ws) l.1))
    (λ r. inr (r.0, ap (λ w. w ∷ done) (sym (first_same e)) ∙ ap (λ ws. y ∷ ws) r.1, r.2))
    (parted xs ys done more x (rest_same e))

pub through_append : (log : Log) (xs ys : List Command) → log_through log (xs ++ ys) ≡ log_through (log_through log xs) ys
through_append log xs ys = fold-append log_after log xs ys

pub commands_append : (commands : List Command) (items : List Item) → commands_of (map Spoken commands ++ items) ≡ commands ++ commands_of items
commands_append [] items = refl
commands_append (command ∷ commands) items = ap (λ cs. command ∷ cs) (commands_append commands items)

pub fault_append : (commands : List Command) (items : List Item) → has_fault (map Spoken commands ++ items) ≡ has_fault items
unfolding has_fault
fault_append [] items = refl
fault_append (command ∷ commands) items = fault_append commands items

module _ (judging : Judging) where
  pub spoken_append : (log : Log) (xs ys : List Command) → spoken_text judging log (xs ++ ys) ≡ spoken_text judging log xs ++ spoken_text judging (log_through log xs) ys
  unfolding spoken_text
  spoken_append log [] ys = refl
  spoken_append log (x ∷ xs) ys =
      ap (λ text. command_text judging log x ++ text) (spoken_append (log_after log x) xs ys)
      ∙ sym (append_assoc (command_text judging log x) (spoken_text judging (log_after log x) xs) (spoken_text judging (log_through (log_after log x) xs) ys))

  pub spoken_one : (log : Log) (command : Command) → spoken_text judging log (command ∷ []) ≡ command_text judging log command
  unfolding spoken_text
  spoken_one log command = append-nil (command_text judging log command)

  pub output_append : (log : Log) (commands : List Command) (items : List Item)
      → output_from judging log (map Spoken commands ++ items) ≡ spoken_text judging log commands ++ output_from judging (log_through log commands) items
  unfolding output_from spoken_text
  output_append log [] items = refl
  output_append log (x ∷ xs) items =
      ap (λ text. command_text judging log x ++ text) (output_append (log_after log x) xs items)
      ∙ sym (append_assoc (command_text judging log x) (spoken_text judging (log_after log x) xs) (output_from judging (log_through (log_after log x) xs) items))
