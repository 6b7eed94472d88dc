-- Stages that are changed in place by an edit after which no module is ungrounded.
use Rattle.std.proofs.Common.{◌≡◌, ℕ, zero, suc, ◌≤◌, Bool, true, false, not, [], ◌∷◌, ◌++◌, length, map, take, drop, slice_get, Option, Some, None, option_map, is_some, cond, ◌&&◌, refl, sym, ap, ◌∙◌, subst, true≢false, arith}
use Rattle.std.proofs.lemmas.Option.{same_Some}
use Rattle.name_meaning.specs.Names.{Name, same_name, is_among, is_ascending}
use Rattle.name_meaning.specs.Rows.{Rows, row_names, row_of, with_row, IsTable}
use Rattle.name_laws.proofs.Order.{member_among, same_sound}
use Rattle.name_laws.proofs.Rows.{row_with, row_without, row_among, replaced_at, with_row_at}
use Rattle.list_laws.proofs.Members.{place_member}
use Rattle.edit_log_meaning.specs.Log.{Edit, Put, Drop, Library, edited, edited_name, names_of, is_present}
use Rattle.edit_log_laws.proofs.Libraries.{library_ascending, present_among}
use Rattle.module_graph_meaning.specs.Walks.{Dependencies, is_grounded, is_ungrounded}
use Rattle.module_graph_meaning.specs.Subject.{Subject, KeepsToReach}
use Rattle.board_meaning.specs.Events.{History, log_of, library_after, version_after}
use Rattle.board_meaning.specs.Legal.{IsLegal}
use Rattle.verdict_board.specs.declared.change.Change.{Change}
use Rattle.verdict_board.specs.declared.change.Change.TheVariants.{InPlace, Anew}
use Rattle.verdict_board.specs.declared.stage.Stage.{Stage}
use Rattle.verdict_board.specs.declared.stage.Stage.TheVariants.{Waiting, Claimed, Standing, Cyclic}
use Rattle.verdict_board.specs.Stages.{falls, fallen, stage_after, HaveSortedInputs, IsStage, AreStages, after_edit_of}
use Rattle.verdict_board.specs.Tables.{stages_with, stages_in_place, stages_changed, AreTables, IsChange}
use Rattle.verdict_board.proofs.Edits.{library_edited, grounded_after, new_after, sorted_inputs}
use Rattle.verdict_board.proofs.Parking.{named_at}
use Rattle.verdict_board.proofs.Reports.{absent_row}
use Rattle.verdict_board.proofs.Tables.{names_edited}

pub stage_falls : {A : Type 0} (m : Name) (stage : Stage A) → stage_after m stage ≡ cond (falls m stage) Waiting stage
stage_falls m Waiting = refl
stage_falls m (Claimed c inputs) = refl
stage_falls m (Standing a inputs) = refl
stage_falls m (Cyclic a) = refl

-- ---- one stage after another

module _ {A : Type 0} (m : Name) where
  abbrev one : Name × Stage A → Name × Stage A
  one row = (row.0, stage_after m row.1)

  -- the stages before the place are changed
  abbrev pub fallen_to : ℕ → Rows (Stage A) → Rows (Stage A)
  fallen_to i rows = map one (take i rows) ++ drop i rows

  pub fallen_names : (i : ℕ) (rows : Rows (Stage A)) → row_names (fallen_to i rows) ≡ row_names rows
  fallen_names zero rows = refl
  fallen_names (suc i) [] = refl
  fallen_names (suc i) (row ∷ rows) = ap (λ names. row.0 ∷ names) (fallen_names i rows)

  pub fallen_here : (i : ℕ) (rows : Rows (Stage A)) → slice_get (fallen_to i rows) i ≡ slice_get rows i
  fallen_here zero rows = refl
  fallen_here (suc i) [] = refl
  fallen_here (suc i) (row ∷ rows) = fallen_here i rows

  pub fallen_all : (i : ℕ) (rows : Rows (Stage A)) → length rows ≤ i → fallen_to i rows ≡ fallen m rows
  fallen_all zero [] h = refl
  fallen_all zero (row ∷ rows) h = absurd (omega (arith, h))
  fallen_all (suc i) [] h = refl
  fallen_all (suc i) (row ∷ rows) h = ap (λ rest. one row ∷ rest) (fallen_all i rows (omega (arith, h)))

  pub fallen_same : (i : ℕ) (rows : Rows (Stage A)) (n : Name) (stage : Stage A) → slice_get rows i ≡ Some (n, stage) → falls m stage ≡ false → fallen_to i rows ≡ fallen_to (suc i) rows
  fallen_same i [] n stage h q = absurd (cc)
  fallen_same zero (row ∷ rows) n stage h q =
      let e : row ≡ (n, stage) = cc in
      let same : stage_after m row.1 ≡ row.1 = ap (λ (z : Name × Stage A). stage_after m z.1) e ∙ stage_falls m stage ∙ ap (λ b. cond b Waiting stage) q ∙ sym (ap (λ (z : Name × Stage A). z.1) e) in
      ap (λ (s : Stage A). (row.0, s) ∷ rows) (sym same)
  fallen_same (suc i) (row ∷ rows) n stage h q = ap (λ rest. one row ∷ rest) (fallen_same i rows n stage h q)

  replaced : (i : ℕ) (rows : Rows (Stage A)) (n : Name) (stage : Stage A) → slice_get rows i ≡ Some (n, stage) → replaced_at (fallen_to i rows) i (one (n, stage)) ≡ fallen_to (suc i) rows
  replaced i [] n stage h = absurd (cc)
  replaced zero (row ∷ rows) n stage h = let e : row ≡ (n, stage) = cc in ap (λ (z : Name × Stage A). one z ∷ rows) (sym e)
  replaced (suc i) (row ∷ rows) n stage h = ap (λ rest. one row ∷ rest) (replaced i rows n stage h)

  pub fallen_next : (i : ℕ) (rows : Rows (Stage A)) (own n : Name) (stage : Stage A) → IsTable rows → slice_get (row_names rows) i ≡ Some own → slice_get rows i ≡ Some (n, stage) → falls m stage ≡ true
      → with_row own Waiting (fallen_to i rows) ≡ fallen_to (suc i) rows
  fallen_next i rows own n stage t named h q =
      let same : n ≡ own = same_Some _ _ (sym (named_at rows i n stage h) ∙ named) in
      with_row_at own Waiting (fallen_to i rows) i (ap is_ascending (fallen_names i rows) ∙ t) (ap (λ names. slice_get names i) (fallen_names i rows) ∙ named)
      ∙ (λ j. replaced_at (fallen_to i rows) i (sym same j, sym (stage_falls m stage ∙ ap (λ b. cond b Waiting stage) q) j))
      ∙ replaced i rows n stage h

  pub fallen_has : (i : ℕ) (rows : Rows (Stage A)) (n : Name) → slice_get (row_names rows) i ≡ Some n → is_some (row_of (fallen_to i rows) n) ≡ true
  fallen_has i rows n h =
      row_among (fallen_to i rows) n ∙ ap (λ names. is_among names n) (fallen_names i rows) ∙ member_among (row_names rows) n (place_member (row_names rows) i n h)

  pub fallen_long : (i : ℕ) (rows : Rows (Stage A)) → length (fallen_to i rows) ≡ length rows
  fallen_long zero rows = refl
  fallen_long (suc i) [] = refl
  fallen_long (suc i) (row ∷ rows) = ap suc (fallen_long i rows)

  row_fallen : (rows : Rows (Stage A)) (x : Name) → row_of (fallen m rows) x ≡ option_map (stage_after m) (row_of rows x)
  unfolding row_of
  row_fallen [] x = refl
  row_fallen (row ∷ rows) x = by (same_name x row.0) (row_fallen rows x)
    where
      by : (b : Bool) → row_of (fallen m rows) x ≡ option_map (stage_after m) (row_of rows x) → cond b (Some (stage_after m row.1)) (row_of (fallen m rows) x) ≡ option_map (stage_after m) (cond b (Some row.1) (row_of rows x))
      by true h = refl
      by false h = h

  names_fallen : (rows : Rows (Stage A)) → row_names (fallen m rows) ≡ row_names rows
  names_fallen [] = refl
  names_fallen (row ∷ rows) = ap (λ names. row.0 ∷ names) (names_fallen rows)

  -- a row of the stages after the edit is that of one before
  fallen_from : (rows : Rows (Stage A)) (x : Name) (stage : Stage A) → row_of (fallen m rows) x ≡ Some stage → (before : Stage A) × (row_of rows x ≡ Some before) × (stage_after m before ≡ stage)
  fallen_from rows x stage h = by (row_of rows x) (sym (row_fallen rows x) ∙ h)
    where
      by : (found : Option (Stage A)) → option_map (stage_after m) found ≡ Some stage → (before : Stage A) × (found ≡ Some before) × (stage_after m before ≡ stage)
      by None e = absurd (cc)
      by (Some before) e = (before, refl, same_Some _ _ e)

-- ---- the stages

module _ {Answer Meaning : Type 0} (subject : Subject Meaning) (meaning : Answer → Meaning) (H : History) (l : IsLegal subject.dependencies H) (keeps : KeepsToReach subject) (stages : Rows (Stage Answer)) (k : AreStages subject meaning H stages) where
  abbrev D : Dependencies
  D = subject.dependencies

  abbrev L : Library
  L = library_after H

  pub inputs_sorted : HaveSortedInputs stages
  inputs_sorted n stage h = sorted_inputs subject meaning H l (Drop []) 0 0 n stage (k.staged n stage h)

  module _ (edit : Edit) (sound : (x : Name) → is_ungrounded D (edited L edit) x ≡ false) where
    abbrev after : History
    after = after_edit_of H edit

    abbrev m : Name
    m = edited_name edit

    library_is : library_after after ≡ edited L edit
    library_is = library_edited H edit 0 (suc (version_after H))

    names_are : row_names (fallen m (stages_with edit stages)) ≡ names_of (library_after after)
    names_are = names_fallen m (stages_with edit stages) ∙ names_edited L stages edit (library_ascending (log_of H)) k.names ∙ ap names_of (sym library_is)

    grounded_at : (x : Name) (stage : Stage Answer) → row_of (fallen m (stages_with edit stages)) x ≡ Some stage → is_grounded D (library_after after) x ≡ true
    grounded_at x stage h =
        let present : is_present (library_after after) x ≡ true = present_among (library_after after) x ∙ ap (λ names. is_among names x) (sym names_are) ∙ sym (row_among (fallen m (stages_with edit stages)) x) ∙ ap is_some h in
        let unrung : is_ungrounded D (library_after after) x ≡ false = ap (λ library. is_ungrounded D library x) library_is ∙ sound x in
        λ i. present i && not (unrung i)

    from_before : (x : Name) (before stage : Stage Answer) → row_of stages x ≡ Some before → stage_after m before ≡ stage → is_grounded D (library_after after) x ≡ true → IsStage subject meaning after x stage
    from_before x before stage h e g =
        subst (IsStage subject meaning after x) e (grounded_after subject meaning H l edit 0 (suc (version_after H)) keeps x before g (k.staged x before h))

  staged_after : (edit : Edit) (sound : (x : Name) → is_ungrounded D (edited L edit) x ≡ false) (x : Name) (before stage : Stage Answer) → row_of (stages_with edit stages) x ≡ Some before
      → stage_after (edited_name edit) before ≡ stage → is_grounded D (library_after (after_edit_of H edit)) x ≡ true → IsStage subject meaning (after_edit_of H edit) x stage
  staged_after (Drop n) sound x before stage h e g = by (same_name x n) (sym (row_without n stages x) ∙ h)
    where
      by : (b : Bool) → cond b None (row_of stages x) ≡ Some before → IsStage subject meaning (after_edit_of H (Drop n)) x stage
      by true q = absurd (cc)
      by false q = from_before (Drop n) sound x before stage q e g
  staged_after (Put n text) sound x before stage h e g = by (is_some (row_of stages n)) refl h
    where
      is_absent : (found : Option (Stage Answer)) → is_some found ≡ false → found ≡ None
      is_absent None q = refl
      is_absent (Some s) q = absurd (true≢false q)

      own : (b : Bool) → same_name x n ≡ b → is_some (row_of stages n) ≡ false → cond b (Some Waiting) (row_of stages x) ≡ Some before → IsStage subject meaning (after_edit_of H (Put n text)) x stage
      own false s a q = from_before (Put n text) sound x before stage q e g
      own true s a q =
          let waits : Waiting ≡ before = same_Some _ _ q in
          subst (IsStage subject meaning (after_edit_of H (Put n text)) x) (ap (stage_after n) waits ∙ e)
          (new_after subject meaning H l (Put n text) 0 (suc (version_after H)) x
          (absent_row subject meaning H l stages k x (ap (row_of stages) (same_sound x n s) ∙ is_absent (row_of stages n) a)) g)

      by : (b : Bool) → is_some (row_of stages n) ≡ b → row_of (cond b stages (with_row n Waiting stages)) x ≡ Some before → IsStage subject meaning (after_edit_of H (Put n text)) x stage
      by true a q = from_before (Put n text) sound x before stage q e g
      by false a q = own (same_name x n) refl a (sym (row_with n Waiting stages x) ∙ q)

  -- how the modules stand after the edit
  pub fallen_staged : (edit : Edit) → ((x : Name) → is_ungrounded D (edited L edit) x ≡ false) → AreStages subject meaning (after_edit_of H edit) (stages_in_place edit stages)
  fallen_staged edit sound = record {
    names = names_are edit sound;
    staged = λ x stage h. let q = fallen_from (edited_name edit) (stages_with edit stages) x stage h in staged_after edit sound x q.0 stage q.1 q.2 (grounded_at edit sound x stage h);
  }

  pub changed_staged : (edit : Edit) (change : Change Answer) → IsChange subject meaning H edit change → AreStages subject meaning (after_edit_of H edit) (stages_changed change edit stages)
  changed_staged edit (InPlace names) c = fallen_staged edit c.0
  changed_staged edit (Anew graph next rings) c = c.1

  pub changed_tables : (edit : Edit) (change : Change Answer) → IsChange subject meaning H edit change → AreTables change
  changed_tables edit (InPlace names) c = tt
  changed_tables edit (Anew graph next rings) c = (
    ap is_ascending c.1.names ∙ library_ascending (log_of (after_edit_of H edit)),
    c.1.names ∙ ap names_of (library_edited H edit 0 (suc (version_after H))) ∙ sym c.0.names,
  )
