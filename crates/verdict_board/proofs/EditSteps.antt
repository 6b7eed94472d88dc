-- The steps of an edit, in the words of its calls.
use Rattle.std.proofs.Common.{◌≡◌, ℕ, suc, Bool, true, false, not, List, [], ◌∷◌, ◌++◌, length, take, filter, slice_get, Some, None, cond, Result, Ok, Err, IfOk, ◌⊎◌, inl, inr, refl, sym, ap, ◌∙◌, subst, append-nil, ◌&&◌}
use Rattle.std.proofs.lemmas.List.{map-append}
use Rattle.name_meaning.specs.Names.{Name, Text, same_name, is_among, is_ascending}
use Rattle.name_meaning.specs.Rows.{Rows, row_names, row_of, with_row, without_row, IsTable}
use Rattle.name_laws.proofs.Order.{same_sound, ascending_filtered}
use Rattle.name_table.proofs.Fronts.{ascending_front}
use Rattle.list_laws.proofs.Places.{take_more}
use Rattle.edit_log_meaning.specs.Log as logs
use Rattle.edit_log_meaning.specs.Log.{Library, edited, is_present, names_of}
use Rattle.module_graph_meaning.specs.Walks.{Dependencies, is_ungrounded, is_grounded, ungrounded_names}
use Rattle.module_graph_meaning.specs.Graphs.{Graph, HoldsDependencies, graph_grounded}
use Rattle.module_graph_laws.proofs.Graphs.{edited_holds, graph_grounds}
use Rattle.list_laws.proofs.Members.{Member, place_member}
use Rattle.verdict_board.proofs.Reports.{filter_next}
use Rattle.verdict_board.proofs.Edits.{ungrounded_listed, walking_ascending}
use Rattle.module_graph_laws.proofs.Walking.{in_present, walking_present, ungrounded_in}
use Rattle.edit_log.specs.declared.edit.Edit as code
use Rattle.edit_log.specs.declared.edit.Edit.TheVariants.{Put, Drop}
use Rattle.edit_log.specs.Readings.{read_edit, read_edited}
use Rattle.edit_log.specs.declared.answers.Edited as code_answers
use Rattle.edit_log.specs.declared.answers.Edited.TheVariants.{Made, Same, Absent}
use Rattle.edit_log_meaning.specs.Append as answers
use Rattle.edit_log_meaning.specs.Append.{append_answer, appended, log_after}
use Rattle.edit_log_laws.proofs.Limits.{made_not_full}
use Rattle.board_meaning.specs.Events.{History}
use Rattle.board_meaning.specs.Machine.{EditCall, edit_reply, edit_event, event_of, after_call}
use Rattle.verdict_board.proofs.Calls.{not_called}

pub if_ok : {A E : Type 0} (P Q : A → Type 0) (r : Result A E) → ((x : A) → P x → Q x) → IfOk r P → IfOk r Q
if_ok P Q (Ok x) f h = f x h
if_ok P Q (Err e) f h = tt

module _ (D : Dependencies) (L : Library) (before : Graph) (holds : HoldsDependencies before D L) where
  pub put_holds : (edit : code.Edit) (n : Name) (t : Text) → edit ≡ Put n t → (name : Name) (text : Text) (deps : List Name) (copied graph : Graph) → name ≡ n → text ≡ t → deps ≡ D n text → copied ≡ before → graph ≡ with_row name deps copied
      → HoldsDependencies graph D (edited L (read_edit edit))
  put_holds edit n t is name text deps copied graph e f d c g =
      subst (λ (z : code.Edit). HoldsDependencies graph D (edited L (read_edit z))) (sym is)
      (subst (λ (z : Graph). HoldsDependencies z D (edited L (logs.Put n t))) (sym (g ∙ (λ i. with_row (e i) ((d ∙ ap (D n) f) i) (c i)))) (edited_holds before D L holds (logs.Put n t)))

  pub drop_holds : (edit : code.Edit) (n : Name) → edit ≡ Drop n → (copied graph : Graph) → copied ≡ before → graph ≡ without_row n copied → HoldsDependencies graph D (edited L (read_edit edit))
  drop_holds edit n is copied graph c g =
      subst (λ (z : code.Edit). HoldsDependencies graph D (edited L (read_edit z))) (sym is)
      (subst (λ (z : Graph). HoldsDependencies z D (edited L (logs.Drop n))) (sym (g ∙ ap (without_row n) c)) (edited_holds before D L holds (logs.Drop n)))

pub ungrounded_present : (D : Dependencies) (L : Library) (n : Name) → is_ungrounded D L n ≡ true → is_present L n ≡ true
ungrounded_present D L n u = in_present D L n (walking_present D L (length L) n (ungrounded_in D L n u))

-- ---- one row more

module _ {A : Type 0} where
  pub row_last : (rows : Rows A) (n m : Name) (v w : A) → row_of (rows ++ (n, v) ∷ []) m ≡ Some w → (row_of rows m ≡ Some w) ⊎ ((m ≡ n) × (v ≡ w))
  unfolding row_of
  row_last [] n m v w h = by (same_name m n) refl h
    where
      by : (b : Bool) → same_name m n ≡ b → cond b (Some v) None ≡ Some w → (row_of [] m ≡ Some w) ⊎ ((m ≡ n) × (v ≡ w))
      by true e q = inr (same_sound m n e, (let r : v ≡ w = cc in r))
      by false e q = absurd (cc)
  row_last (row ∷ rows) n m v w h = by (same_name m row.0) h (λ q. row_last rows n m v w q)
    where
      by : (b : Bool) → cond b (Some row.1) (row_of (rows ++ (n, v) ∷ []) m) ≡ Some w → (row_of (rows ++ (n, v) ∷ []) m ≡ Some w → (row_of rows m ≡ Some w) ⊎ ((m ≡ n) × (v ≡ w)))
          → (cond b (Some row.1) (row_of rows m) ≡ Some w) ⊎ ((m ≡ n) × (v ≡ w))
      by true q f = inl q
      by false q f = f q

  pub names_more : (rows : Rows A) (names : List Name) (i : ℕ) (n : Name) (v : A) → row_names rows ≡ take i names → slice_get names i ≡ Some n → row_names (rows ++ (n, v) ∷ []) ≡ take (suc i) names
  names_more rows names i n v h g = map-append (λ (row : Name × A). row.0) rows ((n, v) ∷ []) ∙ ap (λ z. z ++ n ∷ []) h ∙ sym (take_more names i n g)

  pub more_table : (rows : Rows A) (names : List Name) (i : ℕ) (n : Name) (v : A) → is_ascending names ≡ true → row_names rows ≡ take i names → slice_get names i ≡ Some n → IsTable (rows ++ (n, v) ∷ [])
  more_table rows names i n v t h g = ap is_ascending (names_more rows names i n v h g) ∙ ascending_front names (suc i) t

-- ---- the grounded and the ungrounded names

pub filter_skip : {A : Type 0} (p : A → Bool) (xs : List A) (i : ℕ) (x : A) → slice_get xs i ≡ Some x → p x ≡ false → filter p (take (suc i) xs) ≡ filter p (take i xs)
filter_skip p xs i x h q = filter_next p xs i x h ∙ ap (λ b. filter p (take i xs) ++ cond b (x ∷ []) []) q ∙ append-nil (filter p (take i xs))

pub filter_keep : {A : Type 0} (p : A → Bool) (xs : List A) (i : ℕ) (x : A) → slice_get xs i ≡ Some x → p x ≡ true → filter p (take (suc i) xs) ≡ filter p (take i xs) ++ x ∷ []
filter_keep p xs i x h q = filter_next p xs i x h ∙ ap (λ b. filter p (take i xs) ++ cond b (x ∷ []) []) q

module _ (graph : Graph) (D : Dependencies) (L : Library) (holds : HoldsDependencies graph D L) (t : is_ascending (names_of L) ≡ true) (known : List Name) (e : known ≡ graph_grounded graph) where
  pub known_sorted : is_ascending known ≡ true
  known_sorted = ap is_ascending (e ∙ graph_grounds graph D L holds) ∙ ascending_filtered (is_grounded D L) (names_of L) t

  pub bad_listed : (bad : List Name) → bad ≡ filter (λ (n : Name). not (is_among known n)) (row_names graph) → bad ≡ ungrounded_names D L
  bad_listed bad b = b ∙ ap (λ (names : List Name). filter (λ (n : Name). not (is_among names n)) (row_names graph)) e ∙ ungrounded_listed graph D L holds t

module _ (D : Dependencies) (L : Library) (bad : List Name) (e : bad ≡ ungrounded_names D L) where
  pub bad_sorted : is_ascending (names_of L) ≡ true → is_ascending bad ≡ true
  unfolding ungrounded_names
  bad_sorted t = ap is_ascending e ∙ walking_ascending D L t (length L)

  pub at_bad : (n : Name) (b : Bool) → b ≡ is_among bad n → is_ungrounded D L n ≡ b
  unfolding is_ungrounded
  at_bad n b q = sym (q ∙ ap (λ names. is_among names n) e)

  pub at_rest : (graph : Graph) → HoldsDependencies graph D L → (place : ℕ) (n : Name) (b : Bool) → slice_get (row_names graph) place ≡ Some n → b ≡ is_among bad n → b ≡ false → is_grounded D L n ≡ true
  at_rest graph holds place n b h q f =
      let p = in_present D L n (subst (Member n) holds.names (place_member (row_names graph) place n h)) in
      let u = at_bad n b q ∙ f in
      λ i. p i && not (u i)

-- ---- the answer to an edit

module _ (D : Dependencies) (H : History) (pass : ℕ) (e : logs.Edit) where
  pub unmade_after : (answer : code_answers.Edited) → ((v : ℕ) → answer ≡ Made v → ⊥) → edit_reply H e ≡ read_edited answer → H ≡ after_call D H pass (EditCall e)
  unfolding event_of
  unmade_after (Made v) n h = absurd (n v refl)
  unmade_after (Same v) n h = sym (not_called D H pass (EditCall e) (ap (edit_event e) h))
  unmade_after (Absent v) n h = sym (not_called D H pass (EditCall e) (ap (edit_event e) h))

pub appended_made : (log : logs.Log) (e : logs.Edit) (v : ℕ) → append_answer log e ≡ answers.Made v → appended log e ≡ log ++ e ∷ []
unfolding appended
appended_made log e v h = ap (log_after log e) h

pub made_version : (log : logs.Log) (e : logs.Edit) (v : ℕ) → append_answer log e ≡ answers.Made v → v ≡ suc (length log)
made_version log e v h = (made_not_full log e v h).1
