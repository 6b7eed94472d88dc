-- The edits of a log, made on a board one after another.
use Rattle.std.proofs.Common.{◌≡◌, ◌≤◌, ℕ, suc, [], ◌++◌, length, take, drop, slice_get, Some, ⊎_elim, sym, ap, ◌∙◌, subst}
use Rattle.std.proofs.lemmas.List.{take_all, take-append-drop}
use Rattle.list_laws.proofs.Places.{take_more}
use Rattle.edit_log_meaning.specs.Log.{Edit, Log}
use Rattle.edit_log_meaning.specs.Append.{appended, appended_all}
use Rattle.edit_log_laws.proofs.Libraries.{fold_last}
use Rattle.text_meaning.specs.Dependencies.{dependencies}
use Rattle.board_meaning.specs.Events.{History, log_of}
use Rattle.board_meaning.specs.Legal.{IsLegal}
use Rattle.board_laws.proofs.Legality.{legal_empty}
use Rattle.board_front.specs.Staying.{Edits, IsFront, MayEdit}
use Rattle.folder_front.specs.Edits.{MadeFirst}

-- The first edits of the log are made.
pub record EditsSoFar (loaded : Log) (count : ℕ) (log : Log) (history : History) : Type 0 where
  pub front : IsFront log history
  pub made : log ≡ appended_all [] (take count loaded)

pub no_edits : (loaded : Log) (log : Log) (history : History) → log ≡ [] → history ≡ [] → EditsSoFar loaded 0 log history
unfolding log_of appended_all
no_edits loaded log history none empty = record {
  front = record { legal = subst (IsLegal dependencies) (sym empty) (legal_empty dependencies); logged = none ∙ sym (ap log_of empty) };
  made = none;
}

parts_of : (loaded : Log) (count : ℕ) → loaded ≡ take count loaded ++ drop count loaded
parts_of loaded count = sym (take-append-drop count loaded)

pub first_edits : (loaded : Log) (count : ℕ) (log : Log) (history : History) → EditsSoFar loaded count log history → MadeFirst loaded history
first_edits loaded count log history so_far = record {
  legal = so_far.front.legal;
  front = take count loaded;
  behind = drop count loaded;
  parts = parts_of loaded count;
  made = sym so_far.front.logged ∙ so_far.made;
}

module _ (loaded : Log) (count : ℕ) (log : Log) (first second : History) (edit : Edit) (here : slice_get loaded count ≡ Some edit) (so_far : EditsSoFar loaded count log first) where
  made_more : appended log edit ≡ appended_all [] (take (suc count) loaded)
  unfolding appended_all
  made_more =
      ap (λ (l : Log). appended l edit) so_far.made ∙ sym (fold_last appended [] (take count loaded) edit)
      ∙ ap (appended_all []) (sym (take_more loaded count edit here))

  -- One edit more.
  pub next_edit : (next : Log) → next ≡ appended log edit → Edits edit first second → EditsSoFar loaded (suc count) next second
  next_edit next logged edits = record {
    front = record { legal = edits.legal; logged = logged ∙ ap (λ (l : Log). appended l edit) so_far.front.logged ∙ sym edits.logged };
    made = logged ∙ made_more;
  }

  -- The edit was begun, and memory was wanting.
  pub maybe_edit : MayEdit edit first second → MadeFirst loaded second
  maybe_edit may =
      ⊎_elim
      (λ stays. record {
        legal = stays.legal;
        front = take count loaded;
        behind = drop count loaded;
        parts = parts_of loaded count;
        made = stays.logged ∙ sym so_far.front.logged ∙ so_far.made;
      })
      (λ edits. record {
        legal = edits.legal;
        front = take (suc count) loaded;
        behind = drop (suc count) loaded;
        parts = parts_of loaded (suc count);
        made = edits.logged ∙ ap (λ (l : Log). appended l edit) (sym so_far.front.logged) ∙ made_more;
      })
      may

pub all_edits : (loaded : Log) (count : ℕ) (log : Log) (history : History) → length loaded ≤ count → EditsSoFar loaded count log history → log ≡ appended_all [] loaded
all_edits loaded count log history past so_far = so_far.made ∙ ap (appended_all []) (take_all count loaded past)
