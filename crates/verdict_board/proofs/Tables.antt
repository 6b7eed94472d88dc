-- The tables that an edit changes in place.
use Rattle.std.proofs.Common.{◌≡◌, ℕ, suc, ◌≤◌, Bool, true, false, not, List, [], ◌∷◌, length, filter, Some, None, is_some, cond, inl, inr, refl, sym, ap, ◌∙◌, subst, true≢false, arith}
use Rattle.std.proofs.lemmas.Option.{same_Some}
use Rattle.name_meaning.specs.Names.{Name, same_name, comes_before, is_among, is_ascending, with_name}
use Rattle.name_meaning.specs.Rows.{Rows, row_names, row_of, with_row, without_row, IsTable}
use Rattle.name_laws.proofs.Order.{among_member, member_among, same_itself, same_sound, with_present}
use Rattle.name_laws.proofs.Rows.{row_with, row_without, names_with_row, row_among, without_absent}
use Rattle.list_laws.proofs.Members.{Member}
use Rattle.edit_log_meaning.specs.Log.{Edit, Put, Drop, Library, edited, names_of, without_module}
use Rattle.edit_log_laws.proofs.Libraries.{names_with}
use Rattle.module_graph_meaning.specs.Walks.{is_ungrounded}
use Rattle.module_graph_meaning.specs.Graphs.{Graph, HoldsDependencies}
use Rattle.module_graph_meaning.specs.Subject.{Subject}
use Rattle.module_graph_laws.proofs.Graphs.{edited_holds}
use Rattle.module_graph_laws.proofs.Walking.{filter_within}
use Rattle.board_meaning.specs.Events.{History, library_after}
use Rattle.verdict_board.specs.declared.change.Change.{Change}
use Rattle.verdict_board.specs.declared.change.Change.TheVariants.{InPlace, Anew}
use Rattle.verdict_board.specs.declared.stage.Stage.{Stage}
use Rattle.verdict_board.specs.declared.stage.Stage.TheVariants.{Waiting}
use Rattle.verdict_board.specs.Stages.{HasSortedInputs, HaveSortedInputs}
use Rattle.verdict_board.specs.Tables.{stages_with, graph_changed, graph_in_place, rings_in, AreDependencies, IsChange}
use Rattle.verdict_board.specs.Searching.{AreKept, AreNew}
use Rattle.verdict_board.specs.declared.candidates.Candidates.{Candidates}
use Rattle.verdict_board.proofs.Parking.{all_kept, names_long}

-- ---- names

pub names_without_row : {A : Type 0} (n : Name) (rows : Rows A) → row_names (without_row n rows) ≡ filter (λ (x : Name). not (same_name n x)) (row_names rows)
unfolding without_row
names_without_row n [] = refl
names_without_row {A} n (row ∷ rows) = by (same_name n row.0) (names_without_row n rows)
  where
    by : (b : Bool) → row_names (without_row n rows) ≡ filter (λ (x : Name). not (same_name n x)) (row_names rows)
        → row_names (cond (not b) (row ∷ without_row n rows) (without_row n rows)) ≡ cond (not b) (row.0 ∷ filter (λ (x : Name). not (same_name n x)) (row_names rows)) (filter (λ (x : Name). not (same_name n x)) (row_names rows))
    by true h = h
    by false h = ap (λ names. row.0 ∷ names) h

names_without_module : (n : Name) (library : Library) → names_of (without_module n library) ≡ filter (λ (x : Name). not (same_name n x)) (names_of library)
unfolding without_module
names_without_module n [] = refl
names_without_module n (own ∷ library) = by (same_name n own.name) (names_without_module n library)
  where
    by : (b : Bool) → names_of (without_module n library) ≡ filter (λ (x : Name). not (same_name n x)) (names_of library)
        → names_of (cond (not b) (own ∷ without_module n library) (without_module n library)) ≡ cond (not b) (own.name ∷ filter (λ (x : Name). not (same_name n x)) (names_of library)) (filter (λ (x : Name). not (same_name n x)) (names_of library))
    by true h = h
    by false h = ap (λ names. own.name ∷ names) h

pub names_edited : {A : Type 0} (L : Library) (rows : Rows (Stage A)) (edit : Edit) → is_ascending (names_of L) ≡ true → row_names rows ≡ names_of L → row_names (stages_with edit rows) ≡ names_of (edited L edit)
names_edited L rows (Drop n) t h = names_without_row n rows ∙ ap (filter (λ (x : Name). not (same_name n x))) h ∙ sym (names_without_module n L)
names_edited {A} L rows (Put n text) t h = by (is_some (row_of rows n)) refl ∙ ap (with_name n) h ∙ sym (names_with n text L)
  where
    by : (b : Bool) → is_some (row_of rows n) ≡ b → row_names (cond b rows (with_row n Waiting rows)) ≡ with_name n (row_names rows)
    by true e = sym (with_present n (row_names rows) (ap is_ascending h ∙ t) (among_member (row_names rows) n (sym (row_among rows n) ∙ e)))
    by false e = names_with_row n Waiting rows

-- the names of a row that is put, where both tables have the same names
pub same_with : {A B : Type 0} (n : Name) (v : A) (w : B) (rows : Rows A) (others : Rows B) → row_names rows ≡ row_names others → row_names (with_row n v rows) ≡ row_names (with_row n w others)
same_with n v w rows others h = names_with_row n v rows ∙ ap (with_name n) h ∙ sym (names_with_row n w others)

pub same_without : {A B : Type 0} (n : Name) (rows : Rows A) (others : Rows B) → row_names rows ≡ row_names others → row_names (without_row n rows) ≡ row_names (without_row n others)
same_without n rows others h = names_without_row n rows ∙ ap (filter (λ (x : Name). not (same_name n x))) h ∙ sym (names_without_row n others)

pub same_again : {A B : Type 0} (n : Name) (w : B) (rows : Rows A) (others : Rows B) → row_names rows ≡ row_names others → IsTable rows → is_some (row_of rows n) ≡ true → row_names rows ≡ row_names (with_row n w others)
same_again n w rows others h t there =
    sym (with_present n (row_names rows) t (among_member (row_names rows) n (sym (row_among rows n) ∙ there))) ∙ ap (with_name n) h ∙ sym (names_with_row n w others)

pub same_there : {A B : Type 0} (n : Name) (rows : Rows A) (others : Rows B) → row_names rows ≡ row_names others → is_some (row_of rows n) ≡ is_some (row_of others n)
same_there n rows others h = row_among rows n ∙ ap (λ names. is_among names n) h ∙ sym (row_among others n)

-- an edit adds one name at most
with_few : (n : Name) (names : List Name) → length (with_name n names) ≤ suc (length names)
unfolding with_name
with_few n [] = omega arith
with_few n (name ∷ names) = by (same_name n name) (comes_before n name) (with_few n names)
  where
    by : (s b : Bool) → length (with_name n names) ≤ suc (length names)
        → length (cond s (name ∷ names) (cond b (n ∷ name ∷ names) (name ∷ with_name n names))) ≤ suc (suc (length names))
    by true b h = omega (arith, h)
    by false true h = omega (arith, h)
    by false false h = omega (arith, h)

module _ {A : Type 0} (n : Name) (rows : Rows A) where
  pub with_row_few : (v : A) → length (with_row n v rows) ≤ suc (length rows)
  with_row_few v =
      let after = names_long (with_row n v rows) in
      let names = ap length (names_with_row n v rows) in
      let before = names_long rows in
      let few = with_few n (row_names rows) in
      omega (arith, after, names, before, few)

  pub without_row_few : length (without_row n rows) ≤ length rows
  unfolding without_row
  without_row_few = filter_within (λ (row : Name × A). not (same_name n row.0)) rows

-- ---- candidates that are new

pub new_kept : {Answer : Type 0} (stages : Rows (Stage Answer)) (graph : Graph) (count : ℕ) (candidates : Candidates) → IsTable stages → row_names stages ≡ row_names graph → count ≡ length graph → AreNew count candidates
    → AreKept stages graph candidates
new_kept stages graph count candidates t names long new =
    let rows = names_long stages in
    let others = names_long graph in
    let same = ap length names in
    all_kept stages graph (λ list. list.items) count candidates.candidate candidates.parked.items t names (omega (arith, rows, others, same, long)) new

-- ---- a row that is added, and taken back

module _ {A : Type 0} (n : Name) (v : A) where
  abbrev kept : Rows A → Rows A
  kept rows = filter (λ (row : Name × A). not (same_name n row.0)) rows

  without_with : (rows : Rows A) → (Member n (row_names rows) → ⊥) → without_row n (with_row n v rows) ≡ rows
  unfolding without_row with_row
  without_with [] a = ap (λ b. cond (not b) ((n, v) ∷ []) []) (same_itself n)
  without_with (row ∷ rows) a = by (same_name n row.0) (comes_before n row.0) refl (without_absent n (row ∷ rows) a) (without_with rows (λ m. a (inr m)))
    where
      by : (s b : Bool) → same_name n row.0 ≡ s → kept (row ∷ rows) ≡ row ∷ rows → kept (with_row n v rows) ≡ rows
          → kept (cond s ((n, v) ∷ rows) (cond b ((n, v) ∷ row ∷ rows) (row ∷ with_row n v rows))) ≡ row ∷ rows
      by true b e f g = absurd (a (inl (same_sound n row.0 e)))
      by false true e f g = ap (λ c. cond (not c) ((n, v) ∷ kept (row ∷ rows)) (kept (row ∷ rows))) (same_itself n) ∙ f
      by false false e f g = ap (λ c. cond (not c) (row ∷ kept (with_row n v rows)) (kept (with_row n v rows))) e ∙ ap (λ rest. row ∷ rest) g

pub taken_back : {A : Type 0} (n : Name) (v : A) (rows : Rows A) → is_some (row_of rows n) ≡ false → without_row n (with_row n v rows) ≡ rows
taken_back n v rows absent = without_with n v rows (λ m. true≢false (sym (row_among rows n ∙ member_among (row_names rows) n m) ∙ absent))

-- ---- the stages have sorted inputs

module _ {A : Type 0} (rows : Rows (Stage A)) where
  pub sorted_with : (edit : Edit) → HaveSortedInputs rows → HaveSortedInputs (stages_with edit rows)
  sorted_with (Drop n) sorted x stage h = by (same_name x n) (sym (row_without n rows x) ∙ h)
    where
      by : (b : Bool) → cond b None (row_of rows x) ≡ Some stage → HasSortedInputs stage
      by true q = absurd (cc)
      by false q = sorted x stage q
  sorted_with (Put n text) sorted x stage h = by (is_some (row_of rows n)) h
    where
      own : (b : Bool) → cond b (Some Waiting) (row_of rows x) ≡ Some stage → HasSortedInputs stage
      own true q = subst HasSortedInputs (same_Some _ _ q) tt
      own false q = sorted x stage q

      by : (b : Bool) → row_of (cond b rows (with_row n Waiting rows)) x ≡ Some stage → HasSortedInputs stage
      by true q = sorted x stage q
      by false q = own (same_name x n) (sym (row_with n Waiting rows x) ∙ q)

pub sorted_added : {A : Type 0} (n : Name) (rows : Rows (Stage A)) → is_some (row_of rows n) ≡ false → HaveSortedInputs rows → HaveSortedInputs (with_row n Waiting rows)
sorted_added n rows absent sorted = subst HaveSortedInputs (ap (λ b. cond b rows (with_row n Waiting rows)) absent) (sorted_with rows (Put n []) sorted)

-- ---- the graph

module _ {Answer Meaning : Type 0} (subject : Subject Meaning) (meaning : Answer → Meaning) (H : History) (graph : Graph) (holds : HoldsDependencies graph subject.dependencies (library_after H)) where
  in_place_holds : (edit : Edit) (names : List Name) → AreDependencies subject.dependencies edit names → HoldsDependencies (graph_in_place names edit graph) subject.dependencies (edited (library_after H) edit)
  in_place_holds (Put n t) names e =
      subst (λ row. HoldsDependencies (with_row n row graph) subject.dependencies (edited (library_after H) (Put n t))) (sym e) (edited_holds graph subject.dependencies (library_after H) holds (Put n t))
  in_place_holds (Drop n) names e = edited_holds graph subject.dependencies (library_after H) holds (Drop n)

  pub changed_holds : (edit : Edit) (change : Change Answer) → IsChange subject meaning H edit change → HoldsDependencies (graph_changed change edit graph) subject.dependencies (edited (library_after H) edit)
  changed_holds edit (InPlace names) c = in_place_holds edit names c.1
  changed_holds edit (Anew next stages rings) c = c.0

  -- where there are no rings, no module is ungrounded
  pub changed_sound : (edit : Edit) (change : Change Answer) → IsChange subject meaning H edit change → rings_in change ≡ false → (n : Name) → is_ungrounded subject.dependencies (edited (library_after H) edit) n ≡ false
  changed_sound edit (InPlace names) c h = c.0
  changed_sound edit (Anew next stages rings) c h = c.2 h
