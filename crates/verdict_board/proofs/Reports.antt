-- What is told of a name, by its stage.
use Rattle.std.proofs.Common.{◌≡◌, ℕ, suc, Bool, true, false, not, List, [], ◌∷◌, ◌++◌, map, filter, take, slice_get, Option, Some, None, option_map, is_some, cond, ◌&&◌, refl, sym, ap, ◌∙◌, subst, true≢false, append-nil}
use Rattle.std.proofs.lemmas.Bool.{and_parts, and_from, not-true, or_left, or_right, or_from, and_left, and_right}
use Rattle.std.proofs.lemmas.List.{map-append}
use Rattle.std.proofs.lemmas.List.Elements.{filter-append}
use Rattle.name_meaning.specs.Names.{Name, is_among, is_ascending}
use Rattle.name_meaning.specs.Rows.{Rows, row_names, row_of, IsTable}
use Rattle.name_laws.proofs.Order.{ascending_filtered}
use Rattle.name_laws.proofs.Rows.{row_among}
use Rattle.name_table.proofs.Fronts.{ascending_front}
use Rattle.edit_log_meaning.specs.Log.{Library, is_present}
use Rattle.edit_log_laws.proofs.Libraries.{present_among}
use Rattle.module_graph_meaning.specs.Walks.{Dependencies, is_grounded, is_ungrounded}
use Rattle.module_graph_meaning.specs.Reach.{reach}
use Rattle.module_graph_meaning.specs.Subject.{Subject, present_answer, answers_of}
use Rattle.list_laws.proofs.Members.{Member}
use Rattle.board_laws.proofs.Resting.{standing_reach}
use Rattle.board_laws.proofs.Standings.{standing_grounded}
use Rattle.list_laws.proofs.Places.{take_more}
use Rattle.board_meaning.specs.Events.{History, library_after, version_after}
use Rattle.board_meaning.specs.Standing.{stands}
use Rattle.board_meaning.specs.Machine.{IsVerdict, IsPending, IsAbsent, told_by, is_known, report_reply, answers_reply}
use Rattle.board_meaning.specs.Legal.{IsLegal}
use Rattle.module_graph.specs.Subjects.{read_answers}
use Rattle.verdict_board.specs.declared.stage.Stage.{Stage}
use Rattle.verdict_board.specs.declared.stage.Stage.TheVariants.{Waiting, Claimed, Standing, Cyclic}
use Rattle.verdict_board.specs.Stages.{answer_in, standing_in, IsStage, AreStages}
use Rattle.verdict_board.proofs.Currents.{current_grounded, current_stands_not}

pub grounded_not : (D : Dependencies) (L : Library) (n : Name) → is_grounded D L n ≡ true → is_ungrounded D L n ≡ false
grounded_not D L n h = not-true (is_ungrounded D L n) (and_parts (is_present L n) (not (is_ungrounded D L n)) h).1

pub ungrounded_not : (D : Dependencies) (L : Library) (n : Name) → is_ungrounded D L n ≡ true → is_grounded D L n ≡ false
ungrounded_not D L n h = by (is_present L n) (is_ungrounded D L n) h
  where
    by : (a b : Bool) → b ≡ true → (a && not b) ≡ false
    by true true q = refl
    by true false q = absurd (true≢false (sym q))
    by false b q = refl

module _ {Answer Meaning : Type 0} (subject : Subject Meaning) (meaning : Answer → Meaning) (H : History) (l : IsLegal subject.dependencies H) where
  abbrev D : Dependencies
  D = subject.dependencies

  abbrev L : Library
  L = library_after H

  pub known_stage : (n : Name) (stage : Stage Answer) (a : Answer) → IsStage subject meaning H n stage → answer_in stage ≡ Some a → (is_known D H n ≡ true) × (subject.answer L n ≡ Some (meaning a))
  known_stage n Waiting a k h = absurd (cc)
  known_stage n (Claimed c inputs) a k h = absurd (cc)
  known_stage n (Standing b inputs) a k h =
      let q : b ≡ a = cc in
      (or_right (is_ungrounded D L n) (stands D H n) k.standing, k.answers ∙ ap (λ z. Some (meaning z)) q)
  known_stage n (Cyclic b) a k h =
      let q : b ≡ a = cc in
      (or_left (is_ungrounded D L n) (stands D H n) k.ungrounded, k.answers ∙ ap (λ z. Some (meaning z)) q)

  pub unknown_stage : (n : Name) (stage : Stage Answer) → IsStage subject meaning H n stage → answer_in stage ≡ None → is_known D H n ≡ false
  unknown_stage n Waiting k h = or_from (is_ungrounded D L n) (stands D H n) (grounded_not D L n k.grounded) k.stands_not
  unknown_stage n (Claimed c inputs) k h = or_from (is_ungrounded D L n) (stands D H n) (grounded_not D L n (current_grounded D H l n c k.current)) (current_stands_not D H l n c k.current)
  unknown_stage n (Standing b inputs) k h = absurd (cc)
  unknown_stage n (Cyclic b) k h = absurd (cc)

  module _ (stages : Rows (Stage Answer)) (k : AreStages subject meaning H stages) where
    pub staged_present : (n : Name) → is_some (row_of stages n) ≡ is_present L n
    staged_present n = row_among stages n ∙ ap (λ names. is_among names n) k.names ∙ sym (present_among L n)

    pub present_row : (n : Name) (stage : Stage Answer) → row_of stages n ≡ Some stage → is_present L n ≡ true
    present_row n stage h = sym (staged_present n) ∙ ap is_some h

    pub absent_row : (n : Name) → row_of stages n ≡ None → is_present L n ≡ false
    absent_row n h = sym (staged_present n) ∙ ap is_some h

    pub told_absent : (n : Name) (version : ℕ) → version ≡ version_after H → row_of stages n ≡ None → IsAbsent version ≡ report_reply subject H n
    unfolding report_reply
    told_absent n version v h =
        ap (λ (z : ℕ). IsAbsent z) v
        ∙ sym (ap (λ (b : Bool). told_by (version_after H) b (is_known D H n) (subject.answer L n)) (absent_row n h))

    pub told_verdict : (n : Name) (version : ℕ) (stage : Stage Answer) (a : Answer) → version ≡ version_after H → row_of stages n ≡ Some stage → answer_in stage ≡ Some a
        → IsVerdict (meaning a) version ≡ report_reply subject H n
    unfolding report_reply
    told_verdict n version stage a v h e =
        let q = known_stage n stage a (k.staged n stage h) e in
        ap (λ (z : ℕ). IsVerdict (meaning a) z) v
        ∙ sym (ap (λ (b : Bool). told_by (version_after H) b (is_known D H n) (subject.answer L n)) (present_row n stage h)
        ∙ ap (λ (b : Bool). told_by (version_after H) true b (subject.answer L n)) q.0
        ∙ ap (λ (o : Option Meaning). told_by (version_after H) true true o) q.1)

    pub told_pending : (n : Name) (version : ℕ) (stage : Stage Answer) → version ≡ version_after H → row_of stages n ≡ Some stage → answer_in stage ≡ None
        → IsPending version ≡ report_reply subject H n
    unfolding report_reply
    told_pending n version stage v h e =
        ap (λ (z : ℕ). IsPending z) v
        ∙ sym (ap (λ (b : Bool). told_by (version_after H) b (is_known D H n) (subject.answer L n)) (present_row n stage h)
        ∙ ap (λ (b : Bool). told_by (version_after H) true b (subject.answer L n)) (unknown_stage n stage (k.staged n stage h) e))

    -- ---- answers

    pub answer_absent : (n : Name) → row_of stages n ≡ None → None ≡ present_answer subject L n
    answer_absent n h = sym (ap (λ (b : Bool). cond b (subject.answer L n) None) (absent_row n h))

    pub answer_known : (n : Name) (stage : Stage Answer) (a : Answer) → row_of stages n ≡ Some stage → answer_in stage ≡ Some a → Some (meaning a) ≡ present_answer subject L n
    answer_known n stage a h e =
        sym (ap (λ (b : Bool). cond b (subject.answer L n) None) (present_row n stage h) ∙ (known_stage n stage a (k.staged n stage h) e).1)

    pub answer_unknown : (n : Name) (stage : Stage Answer) → (is_present L n ≡ true → is_known D H n ≡ true) → row_of stages n ≡ Some stage → answer_in stage ≡ None → ⊥
    answer_unknown n stage f h e = true≢false (sym (f (present_row n stage h)) ∙ unknown_stage n stage (k.staged n stage h) e)

    -- ---- the answers of a standing name's reach

    standing_stage : (n : Name) (stage : Stage Answer) (inputs : List Name) → IsStage subject meaning H n stage → standing_in stage ≡ Some inputs → (stands D H n ≡ true) × (inputs ≡ reach D L n)
    standing_stage n Waiting inputs k h = absurd (cc)
    standing_stage n (Claimed c names) inputs k h = absurd (cc)
    standing_stage n (Standing b names) inputs k h = let q : names ≡ inputs = cc in (k.standing, sym q ∙ k.reached)
    standing_stage n (Cyclic b) inputs k h = absurd (cc)

    not_standing : (n : Name) (stage : Stage Answer) → IsStage subject meaning H n stage → standing_in stage ≡ None → (is_grounded D L n && stands D H n) ≡ false
    not_standing n Waiting k h = and_right (is_grounded D L n) (stands D H n) k.stands_not
    not_standing n (Claimed c inputs) k h = and_right (is_grounded D L n) (stands D H n) (current_stands_not D H l n c k.current)
    not_standing n (Standing b inputs) k h = absurd (cc)
    not_standing n (Cyclic b) k h = and_left (is_grounded D L n) (stands D H n) (ungrounded_not D L n k.ungrounded)

    module _ (n : Name) (stage : Stage Answer) (inputs : List Name) (h : row_of stages n ≡ Some stage) (e : standing_in stage ≡ Some inputs) where
      pub inputs_reached : inputs ≡ reach D L n
      inputs_reached = (standing_stage n stage inputs (k.staged n stage h) e).1

      pub inputs_known : (other : Name) → Member other inputs → is_present L other ≡ true → is_known D H other ≡ true
      inputs_known other m p =
          or_right (is_ungrounded D L other) (stands D H other)
          (standing_reach D H l n other (standing_stage n stage inputs (k.staged n stage h) e).0 (subst (Member other) inputs_reached m) p)

      pub answers_told : Some (answers_of subject L n) ≡ answers_reply subject H n
      unfolding answers_reply
      answers_told =
          let t = (standing_stage n stage inputs (k.staged n stage h) e).0 in
          sym (ap (λ (b : Bool). cond b (Some (answers_of subject L n)) None) (and_from (is_grounded D L n) (stands D H n) (standing_grounded D H l n t) t))

    pub answers_of_absent : (n : Name) → row_of stages n ≡ None → None ≡ answers_reply subject H n
    unfolding answers_reply
    answers_of_absent n h =
        sym (ap (λ (b : Bool). cond b (Some (answers_of subject L n)) None)
        (and_left (is_grounded D L n) (stands D H n) (ap (λ (b : Bool). b && not (is_ungrounded D L n)) (absent_row n h))))

    pub answers_not_told : (n : Name) (stage : Stage Answer) → row_of stages n ≡ Some stage → standing_in stage ≡ None → None ≡ answers_reply subject H n
    unfolding answers_reply
    answers_not_told n stage h e =
        sym (ap (λ (b : Bool). cond b (Some (answers_of subject L n)) None) (not_standing n stage (k.staged n stage h) e))

-- ---- answers of a reach, one after another

pub filter_next : {A : Type 0} (p : A → Bool) (xs : List A) (i : ℕ) (x : A) → slice_get xs i ≡ Some x → filter p (take (suc i) xs) ≡ filter p (take i xs) ++ cond (p x) (x ∷ []) []
filter_next p xs i x h = ap (filter p) (take_more xs i x h) ∙ filter-append p (take i xs) (x ∷ [])

names_read : {Answer Meaning : Type 0} (meaning : Answer → Meaning) (rows : List (Name × Option Answer)) → row_names (read_answers meaning rows) ≡ row_names rows
names_read meaning [] = refl
names_read meaning (row ∷ rows) = ap (λ z. row.0 ∷ z) (names_read meaning rows)

names_mapped : {Meaning : Type 0} (f : Name → Option Meaning) (names : List Name) → row_names (map (λ (other : Name). (other, f other)) names) ≡ names
names_mapped f [] = refl
names_mapped f (n ∷ names) = ap (λ z. n ∷ z) (names_mapped f names)

module _ {Answer Meaning : Type 0} (meaning : Answer → Meaning) (f : Name → Option Meaning) (p : Name → Bool) (reached : List Name) where
  -- these answers are those of the first names of the reach
  abbrev pub AreAnswers : ℕ → List (Name × Option Answer) → Type 0
  AreAnswers i answers = read_answers meaning answers ≡ map (λ (other : Name). (other, f other)) (filter p (take i reached))

  pub answers_skip : (i : ℕ) (n : Name) (answers : List (Name × Option Answer)) → slice_get reached i ≡ Some n → p n ≡ false → AreAnswers i answers → AreAnswers (suc i) answers
  answers_skip i n answers h q a =
      a ∙ sym (ap (map (λ (other : Name). (other, f other))) (filter_next p reached i n h ∙ ap (λ b. filter p (take i reached) ++ cond b (n ∷ []) []) q ∙ append-nil (filter p (take i reached))))

  pub answers_more : (i : ℕ) (n : Name) (answers : List (Name × Option Answer)) (answer : Option Answer) → slice_get reached i ≡ Some n → p n ≡ true → option_map meaning answer ≡ f n → AreAnswers i answers
      → AreAnswers (suc i) (answers ++ (n, answer) ∷ [])
  answers_more i n answers answer h q e a =
      map-append (λ (row : Name × Option Answer). (row.0, option_map meaning row.1)) answers ((n, answer) ∷ [])
      ∙ (λ j. a j ++ (n, e j) ∷ [])
      ∙ sym (ap (map (λ (other : Name). (other, f other))) (filter_next p reached i n h ∙ ap (λ b. filter p (take i reached) ++ cond b (n ∷ []) []) q)
      ∙ map-append (λ (other : Name). (other, f other)) (filter p (take i reached)) (n ∷ []))

  pub answers_table : (i : ℕ) (answers : List (Name × Option Answer)) → is_ascending reached ≡ true → AreAnswers i answers → IsTable answers
  answers_table i answers t a =
      ap is_ascending (sym (names_read meaning answers) ∙ ap row_names a ∙ names_mapped f (filter p (take i reached)))
      ∙ ascending_filtered p (take i reached) (ascending_front reached i t)
