-- Which names are ready, by their stages.
use Rattle.std.proofs.Common.{◌≡◌, ℕ, zero, suc, ◌<◌, Bool, true, false, not, List, [], ◌∷◌, find, slice_get, Option, Some, None, is_some, cond, ◌||◌, ◌&&◌, ⊎_elim, refl, sym, ap, ◌∙◌, subst, true≢false, arith}
use Rattle.std.specs.List.{list_all}
use Rattle.std.proofs.lemmas.Option.{same_Some}
use Rattle.std.specs.Cmp.{both_ways}
use Rattle.std.proofs.lemmas.Bool.{and_from, and_left, and_right, not-true, not_from_false, false_from_ne_true}
use Rattle.name_meaning.specs.Names.{Name}
use Rattle.name_meaning.specs.Rows.{Rows, row_names, row_of}
use Rattle.name_laws.proofs.Order.{member_among}
use Rattle.name_laws.proofs.Rows.{row_among}
use Rattle.edit_log_meaning.specs.Log.{Library, names_of, is_present}
use Rattle.module_graph_meaning.specs.Walks.{Dependencies}
use Rattle.module_graph_meaning.specs.Graphs.{Graph, HoldsDependencies}
use Rattle.module_graph_meaning.specs.Subject.{Subject}
use Rattle.list_laws.proofs.Members.{all_at, all_of, place_member}
use Rattle.board_meaning.specs.Events.{History, library_after}
use Rattle.board_meaning.specs.Claims.{has_current_claim}
use Rattle.board_meaning.specs.Standing.{stands}
use Rattle.board_meaning.specs.Ready.{is_closed, dependencies_stand, is_ready, least_ready}
use Rattle.board_meaning.specs.Legal.{IsLegal}
use Rattle.board_laws.proofs.Standings.{ready_parts, ready_from, standing_grounded}
use Rattle.verdict_board.specs.declared.stage.Stage.{Stage}
use Rattle.verdict_board.specs.declared.stage.Stage.TheVariants.{Waiting, Claimed, Standing, Cyclic}
use Rattle.verdict_board.specs.Stages.{is_waiting, standing_in, IsStage, AreStages}
use Rattle.verdict_board.specs.Readiness.{awaits_claim, lacks_verdict, IsReady, IsUnready, IsUnreadyAt, IsFirstReady, NoneIsReady}
use Rattle.verdict_board.proofs.Currents.{current_stands_not, current_told, told_current}
use Rattle.verdict_board.proofs.Reports.{present_row, absent_row, ungrounded_not}

-- ---- lists

pub first_found : {A : Type 0} (p : A → Bool) (xs : List A) (i : ℕ) (x : A) → slice_get xs i ≡ Some x → p x ≡ true → ((j : ℕ) (y : A) → j < i → slice_get xs j ≡ Some y → p y ≡ false) → find p xs ≡ Some x
first_found p [] i x h q f = absurd (cc)
first_found p (y ∷ xs) zero x h q f = let e : y ≡ x = cc in ap (λ b. cond b (Some y) (find p xs)) (ap p e ∙ q) ∙ ap Some e
first_found p (y ∷ xs) (suc i) x h q f =
    ap (λ b. cond b (Some y) (find p xs)) (f 0 y (omega arith) refl) ∙ first_found p xs i x h q (λ j z w g. f (suc j) z (omega (arith, w)) g)

pub none_found : {A : Type 0} (p : A → Bool) (xs : List A) → ((j : ℕ) (y : A) → slice_get xs j ≡ Some y → p y ≡ false) → find p xs ≡ None
none_found p [] f = refl
none_found p (y ∷ xs) f = ap (λ b. cond b (Some y) (find p xs)) (f 0 y refl) ∙ none_found p xs (λ j z g. f (suc j) z g)

-- ---- modules

module _ {Answer Meaning : Type 0} (subject : Subject Meaning) (meaning : Answer → Meaning) (H : History) (l : IsLegal subject.dependencies H) where
  abbrev D : Dependencies
  D = subject.dependencies

  abbrev L : Library
  L = library_after H

  pub standing_told : (n : Name) (stage : Stage Answer) → IsStage subject meaning H n stage → stands D H n ≡ is_some (standing_in stage)
  standing_told n Waiting k = k.stands_not
  standing_told n (Claimed c inputs) k = current_stands_not D H l n c k.current
  standing_told n (Standing a inputs) k = k.standing
  standing_told n (Cyclic a) k = false_from_ne_true (stands D H n) (λ t. true≢false (sym (standing_grounded D H l n t) ∙ ungrounded_not D L n k.ungrounded))

  -- a name is ready where it waits and its dependencies stand
  pub stage_ready : (n : Name) (stage : Stage Answer) → IsStage subject meaning H n stage → is_closed H ≡ false → is_ready D H n ≡ (is_waiting stage && dependencies_stand D H n)
  stage_ready n Waiting k o =
      both_ways (is_ready D H n) (dependencies_stand D H n) (λ r. (ready_parts D H n r).rests)
      (λ r. ready_from D H n (record {
        grounded = k.grounded;
        stands_not = not_from_false (stands D H n) k.stands_not;
        rests = r;
        claimed_not = not_from_false (has_current_claim D H n) (false_from_ne_true (has_current_claim D H n) (λ t. let q = told_current D H l n t in k.claimed_not q.0 q.1));
        closed_not = not_from_false (is_closed H) o;
      }))
  stage_ready n (Claimed c inputs) k o =
      false_from_ne_true (is_ready D H n) (λ r. true≢false (sym (current_told D H l n c k.current) ∙ not-true (has_current_claim D H n) (ready_parts D H n r).claimed_not))
  stage_ready n (Standing a inputs) k o =
      false_from_ne_true (is_ready D H n) (λ r. true≢false (sym k.standing ∙ not-true (stands D H n) (ready_parts D H n r).stands_not))
  stage_ready n (Cyclic a) k o =
      false_from_ne_true (is_ready D H n) (λ r. true≢false (sym (ready_parts D H n r).grounded ∙ ungrounded_not D L n k.ungrounded))

  pub closed_unready : is_closed H ≡ true → None ≡ least_ready D H
  unfolding least_ready
  closed_unready c =
      sym (none_found (is_ready D H) (names_of L) (λ j n g. false_from_ne_true (is_ready D H n) (λ r. true≢false (sym c ∙ not-true (is_closed H) (ready_parts D H n r).closed_not))))

  -- the test of each direct dependency
  abbrev pub stands_or_absent : Name → Bool
  stands_or_absent other = not (is_present L other) || stands D H other

  module _ (stages : Rows (Stage Answer)) (k : AreStages subject meaning H stages) (graph : Graph) (holds : HoldsDependencies graph D L) (o : is_closed H ≡ false) where
    rest_told : (other : Name) → stands_or_absent other ≡ not (lacks_verdict (row_of stages other))
    rest_told other = by (row_of stages other) refl
      where
        by : (row : Option (Stage Answer)) → row_of stages other ≡ row → stands_or_absent other ≡ not (lacks_verdict row)
        by None e = ap (λ b. not b || stands D H other) (absent_row subject meaning H l stages k other e)
        by (Some stage) e =
            ap (λ b. not b || stands D H other) (present_row subject meaning H l stages k other stage e) ∙ standing_told other stage (k.staged other stage e)
            ∙ twice (is_some (standing_in stage))
          where
            twice : (b : Bool) → b ≡ not (not b)
            twice true = refl
            twice false = refl

    rests_told : (n : Name) (dependencies : List Name) → is_present L n ≡ true → row_of graph n ≡ Some dependencies → dependencies_stand D H n ≡ list_all stands_or_absent dependencies
    unfolding dependencies_stand
    rests_told n dependencies p h = ap (list_all stands_or_absent) (same_Some _ _ (sym (holds.rows n p) ∙ h))

    pub unready_told : (n : Name) (stage : Stage Answer) → row_of stages n ≡ Some stage → IsUnready stages graph n → is_ready D H n ≡ false
    unready_told n stage h u =
        stage_ready n stage (k.staged n stage h) o
        ∙ ⊎_elim (λ w. and_left (is_waiting stage) (dependencies_stand D H n) (sym (ap awaits_claim h) ∙ w))
        (λ q. and_right (is_waiting stage) (dependencies_stand D H n)
        (rests_told n q.1.dependencies (present_row subject meaning H l stages k n stage h) q.1.row
        ∙ false_from_ne_true (list_all stands_or_absent q.1.dependencies)
        (λ a. true≢false (sym (all_at stands_or_absent q.1.dependencies q.0 a q.1.depends) ∙ rest_told q.0 ∙ ap not q.1.lacks))))
        u

    pub ready_told : (n : Name) (stage : Stage Answer) → row_of stages n ≡ Some stage → IsReady stages graph n → is_ready D H n ≡ true
    ready_told n stage h r =
        stage_ready n stage (k.staged n stage h) o
        ∙ and_from (is_waiting stage) (dependencies_stand D H n) (sym (ap awaits_claim h) ∙ r.waits)
        (rests_told n r.dependencies (present_row subject meaning H l stages k n stage h) r.row
        ∙ all_of stands_or_absent r.dependencies (λ other m. rest_told other ∙ ap not (r.rests other m)))

    some_row : (place : ℕ) (n : Name) → slice_get (row_names stages) place ≡ Some n → (stage : Stage Answer) × (row_of stages n ≡ Some stage)
    some_row place n h = by (row_of stages n) (row_among stages n ∙ member_among (row_names stages) n (place_member (row_names stages) place n h))
      where
        by : (row : Option (Stage Answer)) → is_some row ≡ true → (stage : Stage Answer) × (row ≡ Some stage)
        by None s = absurd (true≢false (sym s))
        by (Some stage) s = (stage, refl)

    unready_at : (place : ℕ) (n : Name) → slice_get (row_names stages) place ≡ Some n → IsUnreadyAt stages graph place → is_ready D H n ≡ false
    unready_at place n h u = let q = some_row place n h in unready_told n q.0 q.1 (u n h)

    pub least_told : (place : ℕ) (n : Name) → slice_get (row_names stages) place ≡ Some n → IsFirstReady stages graph place → Some n ≡ least_ready D H
    unfolding least_ready
    least_told place n h f =
        let same : f.ready.0 ≡ n = same_Some _ _ (sym f.ready.1 ∙ h) in
        let q = some_row place n h in
        sym (ap (find (is_ready D H)) (sym k.names)
        ∙ first_found (is_ready D H) (row_names stages) place n h (ready_told n q.0 q.1 (subst (IsReady stages graph) same f.ready.2)) (λ j m less g. unready_at j m g (f.before j less)))

    pub none_told : NoneIsReady stages graph → None ≡ least_ready D H
    unfolding least_ready
    none_told u = sym (ap (find (is_ready D H)) (sym k.names) ∙ none_found (is_ready D H) (row_names stages) (λ j m g. unready_at j m g (u j)))
