-- How modules stand after an edit.
use Rattle.std.proofs.Common.{◌≡◌, ℕ, zero, suc, ◌+◌, ◌<◌, ◌^◌, Bool, true, false, not, List, [], ◌∷◌, ◌++◌, length, filter, Some, cond, ◌&&◌, ⊎_elim, refl, sym, ap, ◌∙◌, subst, true≢false, arith, length-append, eq-eqb}
use Rattle.std.specs.List.{list_any}
use Rattle.std.proofs.Math.Bool.{or-false}
use Rattle.std.proofs.lemmas.Bool.{false_from_ne_true}
use Rattle.name_meaning.specs.Names.{Name, same_name, is_among, is_ascending}
use Rattle.name_meaning.specs.Rows.{Rows, row_names}
use Rattle.name_laws.proofs.Order.{same_sound, same_itself, among_member, member_among, ascending_filtered}
use Rattle.edit_log_meaning.specs.Log.{Edit, Log, Library, edited, edited_name, library_of, names_of, is_present}
use Rattle.edit_log_meaning.specs.Append.{Made}
use Rattle.edit_log_laws.proofs.Libraries.{library_last, library_ascending}
use Rattle.module_graph_meaning.specs.Walks.{Dependencies, is_grounded, is_ungrounded, ungrounded_names, walking, direct}
use Rattle.module_graph_meaning.specs.Reach.{reach, AgreesOn}
use Rattle.module_graph_meaning.specs.Graphs.{Graph, graph_grounded, HoldsDependencies}
use Rattle.module_graph_meaning.specs.Subject.{Subject, KeepsToReach}
use Rattle.module_graph_laws.proofs.Agreement.{reach_same}
use Rattle.module_graph_laws.proofs.Graphs.{graph_grounds}
use Rattle.module_graph_laws.proofs.Reaching.{one_list, reach_ascending}
use Rattle.module_graph_laws.proofs.Walking.{walking_present, in_present, in_ungrounded, ungrounded_in}
use Rattle.list_laws.proofs.Members.{Member, in_filter, filter_in}
use Rattle.list_laws.proofs.Options.{clash}
use Rattle.board_meaning.specs.Events.{EditMade, Entry, History, log_of, library_after, version_after}
use Rattle.board_meaning.specs.Claims.{claimed_name, claim_at}
use Rattle.board_meaning.specs.Standing.{stands}
use Rattle.board_meaning.specs.Ready.{is_closed}
use Rattle.board_meaning.specs.Machine.{EditCall, edit_event, edit_reply, event_of, may_call}
use Rattle.board_meaning.specs.Legal.{IsLegal}
use Rattle.board_laws.proofs.Histories.{log_some, text_entry}
use Rattle.board_laws.proofs.Standings.{standing_grounded}
use Rattle.board_laws.proofs.Following.{installs_last, edit_leaves}
use Rattle.verdict_board.specs.declared.candidates.Candidates.{Candidates}
use Rattle.verdict_board.specs.declared.stage.Stage.{Stage}
use Rattle.verdict_board.specs.declared.stage.Stage.TheVariants.{Waiting, Claimed, Standing, Cyclic}
use Rattle.verdict_board.specs.Entries.{entry}
use Rattle.verdict_board.specs.Stages.{stage_after, HasSortedInputs, IsCurrent, IsWaiting, IsStage, AreStages}
use Rattle.verdict_board.specs.Searching.{AreKept}
use Rattle.verdict_board.specs.Keeping.{IsKept, HasRoom}
use Rattle.verdict_board.proofs.Currents.{current_more, current_less, claim_more, current_grounded, current_reach, current_stands_not, one_current}
use Rattle.verdict_board.proofs.Reports.{ungrounded_not}
use Rattle.verdict_board.proofs.Rooms.{closed_more, opened_same}
use Rattle.verdict_board.proofs.Calls.{legal_with}
use Rattle.verdict_board.proofs.Transitions.{present_of}

pub library_edited : (H : History) (edit : Edit) (pass version : ℕ) → library_after (H ++ entry pass version (EditMade edit) ∷ []) ≡ edited (library_after H) edit
library_edited H edit pass version = ap library_of (log_some H (entry pass version (EditMade edit)) edit refl) ∙ library_last (log_of H) edit

module _ {Answer Meaning : Type 0} (subject : Subject Meaning) (meaning : Answer → Meaning) (H : History) (l : IsLegal subject.dependencies H) (edit : Edit) (pass version : ℕ) where
  abbrev D : Dependencies
  D = subject.dependencies

  abbrev L : Library
  L = library_after H

  abbrev e : Entry
  e = entry pass version (EditMade edit)

  abbrev m : Name
  m = edited_name edit

  current_before : (n : Name) (c : ℕ) → IsCurrent D (H ++ e ∷ []) n c → claim_at H c ≡ Some n
  current_before n c k = ⊎_elim (λ at. at) (λ q. absurd (clash (claimed_name (EditMade edit)) refl q.1)) (claim_more H e c n k.claimed)

  was_current : (n : Name) (c : ℕ) → IsCurrent D (H ++ e ∷ []) n c → IsCurrent D H n c
  was_current n c k = (current_less D H e n c k (current_before n c k)).0

  leaves : (n : Name) → stands D (H ++ e ∷ []) n ≡ (stands D H n && not (is_among (reach D L n) m))
  leaves n = edit_leaves D H l e n edit refl refl

  falls : (n : Name) → stands D H n ≡ false → stands D (H ++ e ∷ []) n ≡ false
  falls n h = leaves n ∙ ap (λ b. b && not (is_among (reach D L n) m)) h

  -- a name of a reach that lacks the edited name is not edited
  not_hit : (names : List Name) → is_among names m ≡ false → (x : Name) → Member x names → same_name x m ≡ false
  not_hit names h x i = false_from_ne_true (same_name x m) (λ s. true≢false (sym (member_among names m (subst (λ z. Member z names) (same_sound x m s) i)) ∙ h))

  agrees : (n : Name) → is_among (reach D L n) m ≡ false → AgreesOn L (library_after (H ++ e ∷ [])) (reach D L n)
  agrees n h x a = sym (text_entry H e x (not_hit (reach D L n) h x (among_member (reach D L n) x a)))

  reach_on : (n : Name) → is_among (reach D L n) m ≡ false → reach D (library_after (H ++ e ∷ [])) n ≡ reach D L n
  reach_on n h = reach_same D L (library_after (H ++ e ∷ [])) n (agrees n h)

  waits : (n : Name) → is_grounded D (library_after (H ++ e ∷ [])) n ≡ true → stands D H n ≡ false → ((c : ℕ) → IsCurrent D (H ++ e ∷ []) n c → ⊥) → IsWaiting D (H ++ e ∷ []) n
  waits n g s f = record { grounded = g; stands_not = falls n s; claimed_not = f }

  -- a claim with the edited name among its inputs is not current after the edit
  hit : (n : Name) (c : ℕ) → IsCurrent D H n c → is_among (reach D L n) m ≡ true → (d : ℕ) → IsCurrent D (H ++ e ∷ []) n d → ⊥
  hit n c k a d i =
      let same : d ≡ c = one_current D H l n d c (was_current n d i) k in
      let q = current_less D H e n d i (current_before n d i) in
      true≢false (sym (same_itself m) ∙ q.2 m (subst (λ (names : List Name). Member m names) (current_reach D H l n d q.0) (among_member (reach D L n) m a)))

  pub grounded_after : KeepsToReach subject → (n : Name) (stage : Stage Answer) → is_grounded D (library_after (H ++ entry pass version (EditMade edit) ∷ [])) n ≡ true → IsStage subject meaning H n stage
      → IsStage subject meaning (H ++ entry pass version (EditMade edit) ∷ []) n (stage_after (edited_name edit) stage)
  grounded_after keeps n Waiting g k = waits n g k.stands_not (λ c i. k.claimed_not c (was_current n c i))
  grounded_after keeps n (Cyclic a) g k =
      waits n g (false_from_ne_true (stands D H n) (λ t. true≢false (sym (standing_grounded D H l n t) ∙ ungrounded_not D L n k.ungrounded)))
      (λ c i. true≢false (sym (current_grounded D H l n c (was_current n c i)) ∙ ungrounded_not D L n k.ungrounded))
  grounded_after keeps n (Claimed c inputs) g k = by (is_among inputs m) refl
    where
      by : (b : Bool) → is_among inputs m ≡ b → IsStage subject meaning (H ++ e ∷ []) n (cond b Waiting (Claimed c inputs))
      by true h = waits n g (current_stands_not D H l n c k.current) (hit n c k.current (ap (λ names. is_among names m) (sym k.reached) ∙ h))
      by false h =
          let h' : is_among (reach D L n) m ≡ false = ap (λ names. is_among names m) (sym k.reached) ∙ h in
          record {
            current = current_more D H e n c k.current refl (λ x i. not_hit (reach D L n) h' x (subst (λ (names : List Name). Member x names) (sym (current_reach D H l n c k.current)) i));
            reached = k.reached ∙ sym (reach_on n h');
          }
  grounded_after keeps n (Standing a inputs) g k = by (is_among inputs m) refl
    where
      by : (b : Bool) → is_among inputs m ≡ b → IsStage subject meaning (H ++ e ∷ []) n (cond b Waiting (Standing a inputs))
      by true h = record {
        grounded = g;
        stands_not = leaves n ∙ ap (λ b. stands D H n && not b) (ap (λ names. is_among names m) (sym k.reached) ∙ h) ∙ and_not (stands D H n);
        claimed_not = λ c i. true≢false (sym k.standing ∙ current_stands_not D H l n c (was_current n c i));
      }
        where
          and_not : (b : Bool) → (b && false) ≡ false
          and_not true = refl
          and_not false = refl
      by false h =
          let h' : is_among (reach D L n) m ≡ false = ap (λ names. is_among names m) (sym k.reached) ∙ h in
          record {
            standing = leaves n ∙ ap (λ b. b && not (is_among (reach D L n) m)) k.standing ∙ ap not h';
            answers = sym (keeps L (library_after (H ++ e ∷ [])) n (library_ascending (log_of H)) (library_ascending (log_of (H ++ e ∷ []))) (standing_grounded D H l n k.standing) (agrees n h')) ∙ k.answers;
            reached = k.reached ∙ sym (reach_on n h');
          }

  -- a name that is new
  pub new_after : (n : Name) → is_present L n ≡ false → is_grounded D (library_after (H ++ entry pass version (EditMade edit) ∷ [])) n ≡ true → IsWaiting D (H ++ entry pass version (EditMade edit) ∷ []) n
  new_after n p g =
      waits n g (false_from_ne_true (stands D H n) (λ t. true≢false (sym (present_of D L n (standing_grounded D H l n t)) ∙ p)))
      (λ c i. true≢false (sym (present_of D L n (current_grounded D H l n c (was_current n c i))) ∙ p))

  pub sorted_inputs : (n : Name) (stage : Stage Answer) → IsStage subject meaning H n stage → HasSortedInputs stage
  sorted_inputs n Waiting k = tt
  sorted_inputs n (Cyclic a) k = tt
  sorted_inputs n (Claimed c inputs) k = ap is_ascending k.reached ∙ reach_ascending D L n
  sorted_inputs n (Standing a inputs) k = ap is_ascending k.reached ∙ reach_ascending D L n

-- ---- the tables

module _ {Answer Meaning : Type 0} (subject : Subject Meaning) (meaning : Answer → Meaning) (H : History) (log : Log) (graph : Graph) (stages : Rows (Stage Answer)) (closed : Bool) (opened entries installed : ℕ) {candidates : Candidates} {rings : Bool}
    (k : IsKept subject meaning H log graph stages closed opened entries installed candidates rings) (edit : Edit) (pass version made : ℕ) where
  pub kept_edit : (new_log : Log) (new_graph : Graph) (new_stages : Rows (Stage Answer)) (new_candidates : Candidates) (new_rings : Bool) → AreKept new_stages new_graph new_candidates
      → (new_rings ≡ false → (name : Name) → is_ungrounded subject.dependencies (edited (library_after H) edit) name ≡ false) → pass ≡ 0 → edit_reply H edit ≡ Made made → version ≡ suc (version_after H) → new_log ≡ log ++ edit ∷ []
      → HoldsDependencies new_graph subject.dependencies (edited (library_after H) edit)
      → AreStages subject meaning (H ++ entry pass version (EditMade edit) ∷ []) new_stages → entries < 2 ^ 62 → opened < 2 ^ 62
      → IsKept subject meaning (H ++ entry pass version (EditMade edit) ∷ []) new_log new_graph new_stages closed opened (entries + 1) installed new_candidates new_rings
  unfolding event_of may_call
  kept_edit new_log new_graph new_stages new_candidates new_rings kept sound front answer v logged holds staged few less = record {
    legal = legal_with subject.dependencies H pass (EditCall edit) (EditMade edit) version (ap (edit_event edit) answer) v k.legal (eq-eqb pass 0 front);
    logged = logged ∙ ap (λ (log : Log). log ++ edit ∷ []) k.logged ∙ sym (log_some H e edit refl);
    holds = subst (HoldsDependencies new_graph subject.dependencies) (sym (library_edited H edit pass version)) holds;
    staged = staged;
    closed_is = k.closed_is ∙ sym (closed_more H e ∙ or-false (is_closed H));
    opened_all = let a = opened_same H e refl in let b = k.opened_all in omega (arith, a, b);
    counted = let a = length-append H (e ∷ []) in let b = k.counted in omega (arith, a, b);
    installed_all = let a = installs_last H e in let b = k.installed_all in omega (arith, a, b);
    room = room closed;
    candidates_all = kept;
    sound = λ r name. ap (λ library. is_ungrounded subject.dependencies library name) (library_edited H edit pass version) ∙ sound r name;
  }
    where
      e : Entry
      e = entry pass version (EditMade edit)

      room : (b : Bool) → HasRoom b opened (entries + 1)
      room true = omega (arith, few, less)
      room false = omega (arith, few, less)

-- ---- the ungrounded names, as a list

pub walking_ascending : (D : Dependencies) (L : Library) → is_ascending (names_of L) ≡ true → (k : ℕ) → is_ascending (walking D L k) ≡ true
unfolding walking
walking_ascending D L t zero = t
walking_ascending D L t (suc k) = ascending_filtered (λ n. list_any (is_among (walking D L k)) (direct D L n)) (names_of L) t

module _ (graph : Graph) (D : Dependencies) (L : Library) (holds : HoldsDependencies graph D L) where
  grounded_among : (n : Name) → Member n (names_of L) → is_among (graph_grounded graph) n ≡ is_grounded D L n
  grounded_among n i = ap (λ names. is_among names n) (graph_grounds graph D L holds) ∙ by (is_grounded D L n) refl
    where
      by : (b : Bool) → is_grounded D L n ≡ b → is_among (filter (is_grounded D L) (names_of L)) n ≡ b
      by true g = member_among (filter (is_grounded D L) (names_of L)) n (filter_in (is_grounded D L) (names_of L) n i g)
      by false g = false_from_ne_true (is_among (filter (is_grounded D L) (names_of L)) n) (λ a. true≢false (sym (in_filter (is_grounded D L) (names_of L) n (among_member (filter (is_grounded D L) (names_of L)) n a)).1 ∙ g))

  pub ungrounded_listed : is_ascending (names_of L) ≡ true → filter (λ n. not (is_among (graph_grounded graph) n)) (row_names graph) ≡ ungrounded_names D L
  unfolding ungrounded_names
  ungrounded_listed t =
      ap (filter (λ n. not (is_among (graph_grounded graph) n))) holds.names
      ∙ one_list (filter (λ n. not (is_among (graph_grounded graph) n)) (names_of L)) (walking D L (length L)) (ascending_filtered (λ n. not (is_among (graph_grounded graph) n)) (names_of L) t) (walking_ascending D L t (length L))
      (λ z i. let q = in_filter (λ n. not (is_among (graph_grounded graph) n)) (names_of L) z i in ungrounded_in D L z (ungrounded z q.0 (sym (ap not (grounded_among z q.0)) ∙ q.1)))
      (λ z i. let p = walking_present D L (length L) z i in
      filter_in (λ n. not (is_among (graph_grounded graph) n)) (names_of L) z p (ap not (grounded_among z p ∙ ungrounded_not D L z (in_ungrounded D L z i))))
    where
      ungrounded : (z : Name) → Member z (names_of L) → not (is_grounded D L z) ≡ true → is_ungrounded D L z ≡ true
      ungrounded z i h = by (is_present L z) (is_ungrounded D L z) (in_present D L z i) h
        where
          by : (a b : Bool) → a ≡ true → not (a && not b) ≡ true → b ≡ true
          by true true p q = refl
          by true false p q = q
          by false b p q = absurd (true≢false (sym p))
