-- Verdicts that are gathered from a library's texts.
use Rattle.std.proofs.Common.{◌≡◌, ℕ, true, false, cond, List, [], ◌∷◌, ◌++◌, Option, Some, None, is_some, suc, take, inl, inr, refl, sym, ap, ◌∙◌, subst, true≢false, slice_get, ⊎_elim}
use Rattle.std.specs.Prelude.{option_map}
use Rattle.std.proofs.lemmas.List.{map-append}
use Rattle.name_meaning.specs.Names.{Name, Text, is_among}
use Rattle.name_meaning.specs.Rows.{Rows, row_names, row_of}
use Rattle.name_laws.proofs.Order.{among_member, member_among}
use Rattle.name_laws.proofs.Rows.{row_among}
use Rattle.name_laws.proofs.RowLookups.{row_mapped}
use Rattle.list_laws.proofs.Options.{some_mapped}
use Rattle.edit_log_meaning.specs.Log.{Log, Library, library_of, is_present, names_of, text_of}
use Rattle.edit_log_laws.proofs.Libraries.{present_among, library_ascending}
use Rattle.list_laws.proofs.Members.{Member, in_filter, in_append, place_member}
use Rattle.list_laws.proofs.Places.{take_more}
use Rattle.module_graph_meaning.specs.Walks.{is_grounded, is_ungrounded, ungrounded_names}
use Rattle.module_graph_meaning.specs.Graphs.{Graph, HoldsDependencies, graph_grounded}
use Rattle.module_graph_meaning.specs.Subject.{present_answer, answers_of}
use Rattle.module_graph_laws.proofs.Graphs.{graph_grounds}
use Rattle.text_meaning.specs.Dependencies.{dependencies}
use Rattle.verdict_meaning.specs.Verdicts as meaning
use Rattle.verdict_meaning.specs.Rounds.{modules, verdict_of}
use Rattle.verdict_laws.proofs.Verdicts.{verdict_exactly}
use Rattle.mmt_interface.specs.Readings.{read_verdict, read_faces}
use Rattle.mmt_interface.specs.declared.verdict.Verdict.{Verdict}
use Rattle.module_graph.specs.Subjects.{IsGiven, IsCyclic, read_answers}
use Rattle.verdict_board.proofs.EditSteps.{row_last}
use Rattle.module_check.specs.JudgingOrders.{HaveAll}
use Rattle.module_check.specs.Known.{AreVerdicts}

-- The text at hand is a text of a present name.
pub text_there : (library : Library) (name : Name) (o : Option Text) → o ≡ text_of library name → is_present library name ≡ true → o ≡ None → ⊥
text_there library name o e p h = true≢false (sym p ∙ ap is_some (sym e ∙ h))

module _ (library : Library) where
  pub no_verdicts : AreVerdicts library []
  unfolding row_of
  no_verdicts name verdict h = absurd (cc)

  -- One verdict more.
  pub verdicts_more : (faces : Rows Verdict) (n : Name) (v : Verdict) → AreVerdicts library faces → verdict_of library n ≡ Some (read_verdict v) → AreVerdicts library (faces ++ (n, v) ∷ [])
  verdicts_more faces n v known h name verdict found =
      ⊎_elim (λ e. known name verdict e) (λ e. ap (verdict_of library) e.0 ∙ h ∙ ap (λ z. Some z) e.1)
      (row_last (read_faces faces) n name (read_verdict v) verdict
      (ap (λ rows. row_of rows name) (sym (map-append (λ (row : Name × Verdict). (row.0, read_verdict row.1)) faces ((n, v) ∷ []))) ∙ found))

  -- ---- the answer of a name

  pub answer_there : (faces : Rows Verdict) (n : Name) (v : Verdict) → AreVerdicts library faces → row_of faces n ≡ Some v → Some (read_verdict v) ≡ present_answer modules library n
  answer_there faces n v known found =
      let told : verdict_of library n ≡ Some (read_verdict v) = known n (read_verdict v) (row_mapped read_verdict faces n ∙ ap (option_map read_verdict) found) in
      let present : is_present library n ≡ true = sym (verdict_exactly library n) ∙ ap is_some told in
      sym (ap (λ b. cond b (verdict_of library n) None) present ∙ told)

  -- A present name whose verdict is due has one.
  pub answer_due : (faces : Rows Verdict) (n : Name) (text : Text) → (is_present library n ≡ true → is_among (row_names faces) n ≡ true) → row_of faces n ≡ None → Some text ≡ text_of library n → ⊥
  answer_due faces n text there none has = true≢false (sym (row_among faces n ∙ there (ap is_some (sym has))) ∙ ap is_some none)

  pub answer_absent : (n : Name) → text_of library n ≡ None → None ≡ present_answer modules library n
  answer_absent n h = sym (ap (λ b. cond b (verdict_of library n) None) (ap is_some h))

  -- Verdicts on all present names are the library's.
  pub all_verdicts : (faces : Rows Verdict) → AreVerdicts library faces → HaveAll library (row_names faces) → (name : Name) → row_of (read_faces faces) name ≡ verdict_of library name
  all_verdicts faces known all name = by (row_of (read_faces faces) name) (verdict_of library name) refl refl
    where
      by : (a b : Option meaning.Verdict) → row_of (read_faces faces) name ≡ a → verdict_of library name ≡ b → a ≡ b
      by (Some v) b g h = sym (known name v g) ∙ h
      by None None g h = refl
      by None (Some w) g h =
          let present : is_present library name ≡ true = sym (verdict_exactly library name) ∙ ap is_some h in
          let there : is_some (row_of (read_faces faces) name) ≡ true = ap is_some (row_mapped read_verdict faces name) ∙ some_mapped read_verdict (row_of faces name) ∙ row_among faces name ∙ all name present in
          absurd (true≢false (sym there ∙ ap is_some g))

  -- A name among the ungrounded ones.
  pub bad_ungrounded : (bad : List Name) (place : ℕ) (n : Name) → bad ≡ ungrounded_names dependencies library → slice_get bad place ≡ Some n → is_ungrounded dependencies library n ≡ true
  unfolding is_ungrounded
  bad_ungrounded bad place n e here = member_among (ungrounded_names dependencies library) n (subst (Member n) e (place_member bad place n here))

-- What judging a module needs.
pub given_here : (log : Log) (name : Name) (text : Text) (answers : List (Name × Option Verdict)) → Some text ≡ text_of (library_of log) name → is_grounded dependencies (library_of log) name ≡ true
    → read_answers read_verdict answers ≡ answers_of modules (library_of log) name → IsGiven modules name text (read_answers read_verdict answers) (library_of log)
given_here log name text answers has grounded reached = record { is_library = library_ascending log; has = sym has; grounded = grounded; reached = sym reached }

pub cyclic_here : (log : Log) (name : Name) (text : Text) (bad : List Name) → Some text ≡ text_of (library_of log) name → is_ungrounded dependencies (library_of log) name ≡ true
    → bad ≡ ungrounded_names dependencies (library_of log) → IsCyclic modules name text bad (library_of log)
cyclic_here log name text bad has ungrounded others = record { is_library = library_ascending log; has = sym has; ungrounded = ungrounded; others = sym others }
