-- The faces of all accepted modules of a library are coherent.
use Rattle.std.proofs.Common.{◌≡◌, ℕ, zero, suc, Bool, true, false, cond, not, List, [], ◌∷◌, filter, length, Option, Some, None, is_some, Ok, Err, ◌⊎◌, inl, inr, ⊎_elim, refl, sym, ap, ◌∙◌, subst, true≢false}
use Rattle.std.specs.Prelude.{⊤}
use Rattle.std.proofs.lemmas.Bool.{cases_Bool}
use Rattle.name_meaning.specs.Names.{same_name as same_bytes, Name, Text, same_name, is_among}
use Rattle.edit_log_meaning.specs.Log.{Library, text_of, is_present}
use Rattle.list_laws.proofs.Members.{Member, filter_in}
use Rattle.name_laws.proofs.Order.{member_among, same_sound, same_itself}
use Rattle.module_graph_meaning.specs.Walks.{of_text, direct, walking, is_ungrounded, is_grounded, ungrounded_names}
use Rattle.module_graph_meaning.specs.Reach.{reach}
use Rattle.module_graph_laws.proofs.Walking.{present_in}
use Rattle.module_graph_laws.proofs.Reaching.{reach_least}
use Rattle.text_meaning.specs.Trees.{Module, SigModule, ViewModule, first_name}
use Rattle.text_meaning.specs.Reading.{ModuleText, ModuleTree, JudgementTree, Answer, Read, Syntax, TooDeep, Unsupported}
use Rattle.text_meaning.specs.TextAnswers.{read}
use Rattle.library_meaning.specs.Faces.{TheoryFace, ViewFace, Known, IsAbsent, IsTheory, IsView, Environment}
use Rattle.library_meaning.specs.Coherence.{IsCoherentTheory, IsCoherentView, IsCoherent}
use Rattle.elaborate_meaning.specs.Rules.{Rule}
use Rattle.link_meaning.specs.Refusals.{Refusal, Outcome, demand}
use Rattle.link_laws.proofs.Covered.{good_same}
use Rattle.link_laws.proofs.Valued.{demand_holds}
use Rattle.text_meaning.specs.Dependencies.{Dependency, dependencies}
use Rattle.verdict_meaning.specs.Modules.{empty_theory, declare_all, checked_view}
use Rattle.verdict_meaning.specs.Verdicts.{Interface, Theory, View, Verdict, Accepted, Refused, verdict_by, known_by, written_name, checked, cycle_at, judge_tree, judge_answer, judge}
use Rattle.verdict_meaning.specs.Rounds.{verdict_under, known_if, known_of, others_reached, verdicts, verdict_of, told_by, known_to}
use Rattle.verdict_laws.proofs.Shortness.{Short, short_reached, reach_within_reach}
use Rattle.verdict_laws.proofs.Rounds.{in_others}
use Rattle.verdict_laws.proofs.Verdicts.{not_ungrounded, verdict_exactly, verdict_is_judged, ungrounded_is_cycle}
use Rattle.coherence_laws.specs.CoherenceLaws.{AreClosed, FacesAreCoherent, GroundedKnowCoherent, ClosedAreCoherent}
use Rattle.coherence_laws.proofs.ModulesHold.{declare_all_holds, empty_holds, view_holds}
use Rattle.coherence_laws.proofs.Transfer.{Extends, theory_transfers, view_transfers}
use Rattle.std.proofs.lemmas.Option.{same_Some}
use Rattle.list_laws.proofs.Answers.{came_by}

-- ---- one module

-- what an accepted module shows is coherent under its name
abbrev pub Shows : Environment → Name → Interface → Type 0
Shows environment name (Theory face size) = IsCoherentTheory environment name face
Shows environment name (View face) = IsCoherentView environment name face

abbrev pub Holds : Environment → Name → Verdict → Type 0
Holds environment name (Accepted interface) = Shows environment name interface
Holds environment name (Refused refusal) = ⊤

pub cycle_refuses : (name : Name) (o : Option Dependency) (interface : Interface) → cycle_at name o ≡ Ok interface → ⊥
cycle_refuses name None interface h = absurd (cc)
cycle_refuses name (Some dependency) interface h = absurd (cc)

module _ (environment : Environment) (coherent : IsCoherent environment) (name : Name) (absent : environment name ≡ IsAbsent) where
  checked_shows : (tree : Module) (interface : Interface) → first_name (written_name tree).path ≡ name → checked environment tree ≡ Ok interface → Shows environment name interface
  checked_shows (SigModule written decls) interface e h =
      let d = came_by (declare_all environment (empty_theory (first_name written.path)) decls) _ interface h in
      let w = declare_all_holds environment coherent decls name (empty_theory (first_name written.path)) d.item e absent (empty_holds environment coherent (first_name written.path)) d.came in
      subst (Shows environment name) (good_same d.goes) (subst (λ n. IsCoherentTheory environment n d.item) w.named w.is)
  checked_shows (ViewModule written domain codomain assigns) interface e h =
      let d = came_by (checked_view environment written domain codomain assigns) _ interface h in
      let w = view_holds environment coherent written domain codomain assigns d.item d.came in
      subst (Shows environment name) (good_same d.goes) (subst (λ n. IsCoherentView environment n d.item) (w.1 ∙ e) w.0)

  tree_shows : (ungrounded : Name → Bool) (tree : Module) (b : Bool) (interface : Interface) → judge_tree environment ungrounded name tree b ≡ Ok interface → Shows environment name interface
  tree_shows ungrounded tree true interface h = absurd (cycle_refuses name _ interface h)
  tree_shows ungrounded tree false interface h =
      let n = came_by (demand (same_bytes (first_name (written_name tree).path) name) (written_name tree).span Rule.WrongName (written_name tree).path) _ interface h in
      checked_shows tree interface (same_sound (first_name (written_name tree).path) name (demand_holds (same_bytes (first_name (written_name tree).path) name) (written_name tree).span Rule.WrongName (written_name tree).path n.item n.came)) n.goes

  answer_shows : (ungrounded : Name → Bool) (answer : Answer) (interface : Interface) → judge_answer environment ungrounded name answer ≡ Ok interface → Shows environment name interface
  answer_shows ungrounded (Read (ModuleTree tree)) interface h = tree_shows ungrounded tree (ungrounded name) interface h
  answer_shows ungrounded (Read (JudgementTree tree)) interface h = absurd (cc)
  answer_shows ungrounded (Syntax at) interface h = absurd (cc)
  answer_shows ungrounded (TooDeep at) interface h = absurd (cc)
  answer_shows ungrounded (Unsupported at) interface h = absurd (cc)

  outcome_holds : (outcome : Outcome Interface) → ((interface : Interface) → outcome ≡ Ok interface → Shows environment name interface) → Holds environment name (verdict_by outcome)
  outcome_holds (Ok interface) f = f interface refl
  outcome_holds (Err refusal) f = tt

  pub judge_holds : (ungrounded : Name → Bool) (text : Text) → Holds environment name (judge environment ungrounded name text)
  unfolding judge
  judge_holds ungrounded text = outcome_holds (judge_answer environment ungrounded name (read ModuleText text)) (answer_shows ungrounded (read ModuleText text))

-- ---- what reaches what

module _ (library : Library) where
  text_by : (name : Name) (o : Option Text) → text_of library name ≡ o → Short dependencies library zero name → o ≡ None
  unfolding walking
  text_by name None e s = refl
  text_by name (Some text) e s = absurd (s (present_in dependencies library name (ap is_some e)))

  none_direct : (name : Name) → text_of library name ≡ None → direct dependencies library name ≡ []
  unfolding direct
  none_direct name e = ap (of_text (dependencies name)) e

  -- an absent name reaches itself alone
  pub absent_reach : (name x : Name) → Short dependencies library zero name → Member x (reach dependencies library name) → x ≡ name
  absent_reach name x s m =
      ⊎_elim (λ e. e) (λ e. absurd e)
      (reach_least dependencies library name (name ∷ [])
      (λ y d p q. absurd (subst (Member d) (none_direct name (text_by name (text_of library name) refl s)) (⊎_elim (λ e. subst (λ z. Member d (direct dependencies library z)) e q) (λ e. absurd e) p))) (inl refl) x m)

  pub others_not : (name x : Name) → same_name name x ≡ false → x ≡ name → ⊥
  others_not name x f e = true≢false (sym (same_itself name) ∙ ap (same_name name) (sym e) ∙ f)

  -- of two names, where walks end, not each reaches the other
  no_return : (n : ℕ) (name x : Name) → Short dependencies library n name → is_among (others_reached library name) x ≡ true → is_among (others_reached library x) name ≡ true → ⊥
  no_return zero name x s p q = let r = in_others library name x p in others_not name x r.1 (absent_reach name x s r.0)
  no_return (suc zero) name x s p q =
      let r = in_others library name x p in
      let t = in_others library x name q in
      others_not x name t.1 (absent_reach x name (short_reached dependencies library zero name x s r.0 r.1) t.0)
  no_return (suc (suc n)) name x s p q =
      let r = in_others library name x p in
      let t = in_others library x name q in
      no_return n name x (short_reached dependencies library n x name (short_reached dependencies library (suc n) name x s r.0 r.1) t.0 t.1) p q

  pub in_reach : (name y : Name) → Member y (reach dependencies library name) → same_name name y ≡ false → is_among (others_reached library name) y ≡ true
  unfolding others_reached
  in_reach name y m f = member_among (filter (λ (z : Name). not (same_name name z)) (reach dependencies library name)) y (filter_in (λ (z : Name). not (same_name name z)) (reach dependencies library name) y m (ap not f))

  pub known_here : (name y : Name) (b : Bool) → is_among (others_reached library name) y ≡ b → known_to library name y ≡ cond b (known_if (verdict_under (verdicts library) y)) IsAbsent
  known_here name y b e = ap (λ z. cond z (known_if (verdict_under (verdicts library) y)) IsAbsent) e

  -- what the others reach is among the others
  pub reached_again : (n : ℕ) (name x y : Name) → Short dependencies library n name → is_among (others_reached library name) x ≡ true → is_among (others_reached library x) y ≡ true
      → is_among (others_reached library name) y ≡ true
  reached_again n name x y s p q =
      let r = in_others library name x p in
      let t = in_others library x y q in
      in_reach name y (reach_within_reach dependencies library name x r.0 y t.0)
      (⊎_elim (λ e. absurd (no_return n name x s p (subst (λ z. is_among (others_reached library x) z ≡ true) (sym (same_sound name y e)) q))) (λ e. e) (cases_Bool (same_name name y)))

  pub extends_to : (n : ℕ) (name x : Name) → Short dependencies library n name → is_among (others_reached library name) x ≡ true → Extends (known_to library x) (known_to library name)
  extends_to n name x s p y = by (is_among (others_reached library x) y) refl
    where
      by : (b : Bool) → is_among (others_reached library x) y ≡ b → (known_to library x y ≡ IsAbsent) ⊎ (known_to library name y ≡ known_to library x y)
      by true e = inr (known_here name y true (reached_again n name x y s p e) ∙ sym (known_here x y true e))
      by false e = inl (known_here x y false e)

  -- a name does not reach itself among others
  pub itself_absent : (name : Name) → known_to library name name ≡ IsAbsent
  itself_absent name = by (is_among (others_reached library name) name) refl
    where
      by : (b : Bool) → is_among (others_reached library name) name ≡ b → known_to library name name ≡ IsAbsent
      by true e = absurd (others_not name name ((in_others library name name e).1) refl)
      by false e = known_here name name false e

  -- ---- what is known is coherent

  pub told_under : (x : Name) → known_if (verdict_of library x) ≡ known_if (verdict_under (verdicts library) x)
  unfolding verdict_of
  told_under x = refl

  pub record Told (o : Option Verdict) (known : Known) : Type 0 where
    pub verdict : Verdict
    pub is : o ≡ Some verdict
    pub known_is : known_by verdict ≡ known

  pub told : (o : Option Verdict) (known : Known) → known_if o ≡ known → (known ≡ IsAbsent → ⊥) → Told o known
  told None known h f = absurd (f (sym h))
  told (Some verdict) known h f = record { verdict = verdict; is = refl; known_is = h }

  pub theory_shown : (environment : Environment) (name : Name) (verdict : Verdict) (face : TheoryFace) → known_by verdict ≡ IsTheory face → Holds environment name verdict → IsCoherentTheory environment name face
  theory_shown environment name (Accepted (Theory found size)) face e h = subst (IsCoherentTheory environment name) (same e) h
    where
      same : {x y : TheoryFace} → IsTheory x ≡ IsTheory y → x ≡ y
      same q = cc
  theory_shown environment name (Accepted (View found)) face e h = absurd (cc)
  theory_shown environment name (Refused refusal) face e h = absurd (cc)

  pub view_shown : (environment : Environment) (name : Name) (verdict : Verdict) (face : ViewFace) → known_by verdict ≡ IsView face → Holds environment name verdict → IsCoherentView environment name face
  view_shown environment name (Accepted (Theory found size)) face e h = absurd (cc)
  view_shown environment name (Accepted (View found)) face e h = subst (IsCoherentView environment name) (same e) h
    where
      same : {x y : ViewFace} → IsView x ≡ IsView y → x ≡ y
      same q = cc
  view_shown environment name (Refused refusal) face e h = absurd (cc)

  pub record Sound (name : Name) : Type 0 where
    pub coherent : IsCoherent (known_to library name)
    pub holds : (verdict : Verdict) → verdict_of library name ≡ Some verdict → Holds (known_to library name) name verdict

  pub verdict_text : (name : Name) (o : Option Text) (verdict : Verdict) → text_of library name ≡ o → verdict_of library name ≡ Some verdict → (text : Text) × (text_of library name ≡ Some text)
  verdict_text name None verdict e h = absurd (true≢false (sym (ap is_some h) ∙ has_verdict ∙ ap is_some e))
    where
      has_verdict : is_some (verdict_of library name) ≡ is_some (text_of library name)
      has_verdict = verdict_exactly library name
  verdict_text name (Some text) verdict e h = (text, e)

  sound_by : (name : Name) → IsCoherent (known_to library name) → Sound name
  sound_by name c =
      record {
        coherent = c;
        holds = λ verdict h. (let t = verdict_text name (text_of library name) verdict refl h in
            subst (Holds (known_to library name) name) (same_Some _ _ (sym (verdict_is_judged library name t.0 t.1) ∙ h)) (judge_holds (known_to library name) c name (itself_absent name) (is_among (ungrounded_names dependencies library)) t.0));
      }

  -- what is known to a name comes from the verdict on one that it reaches
  pub verdict_reached : (name x : Name) (known : Known) → known_to library name x ≡ known → (known ≡ IsAbsent → ⊥) → (is_among (others_reached library name) x ≡ true) × Told (verdict_of library x) known
  verdict_reached name x known e q = by (is_among (others_reached library name) x) refl
    where
      by : (b : Bool) → is_among (others_reached library name) x ≡ b → (is_among (others_reached library name) x ≡ true) × Told (verdict_of library x) known
      by true g = (g, told (verdict_of library x) known (told_under x ∙ sym (known_here name x true g) ∙ e) q)
      by false g = absurd (q (sym e ∙ known_here name x false g))

  -- from the names that a name reaches
  coherent_by : (n : ℕ) (name : Name) → Short dependencies library n name → ((x : Name) → is_among (others_reached library name) x ≡ true → (verdict : Verdict) → verdict_of library x ≡ Some verdict → Sound x) → IsCoherent (known_to library name)
  coherent_by n name s f =
      record {
        theories = λ x face e. (let r = verdict_reached name x (IsTheory face) e (λ q. absurd (cc)) in
            let v = r.1 in
            let d = f x r.0 v.verdict v.is in
            theory_transfers (known_to library x) (known_to library name) d.coherent (extends_to n name x s r.0) x face (theory_shown (known_to library x) x v.verdict face v.known_is (d.holds v.verdict v.is)));
        views = λ x face e. (let r = verdict_reached name x (IsView face) e (λ q. absurd (cc)) in
            let v = r.1 in
            let d = f x r.0 v.verdict v.is in
            view_transfers (known_to library x) (known_to library name) d.coherent (extends_to n name x s r.0) x face (view_shown (known_to library x) x v.verdict face v.known_is (d.holds v.verdict v.is)));
      }

  pub sound : (n : ℕ) (name : Name) → Short dependencies library n name → Sound name
  sound zero name s =
      sound_by name (coherent_by zero name s (λ x p verdict h. absurd (
      let r = in_others library name x p in others_not name x r.1 (absent_reach name x s r.0))))
  sound (suc n) name s =
      sound_by name (coherent_by (suc n) name s (λ x p verdict h. (let r = in_others library name x p in sound n x (short_reached dependencies library n name x s r.0 r.1))))

  -- ---- the whole library

  pub accepted_short : (name : Name) (interface : Interface) → verdict_of library name ≡ Some (Accepted interface) → Short dependencies library (length library) name
  unfolding ungrounded_names is_ungrounded
  accepted_short name interface h m =
      let c = ungrounded_is_cycle library name (member_among (walking dependencies library (length library)) name m) in
      clash (same_Some _ _ (sym h ∙ c.refused))
    where
      clash : {i : Interface} {r : Refusal} → Accepted i ≡ Refused r → ⊥
      clash e = absurd (cc)

  pub tells_more : (name : Name) → Extends (known_to library name) (told_by library)
  tells_more name y = by (is_among (others_reached library name) y) refl
    where
      by : (b : Bool) → is_among (others_reached library name) y ≡ b → (known_to library name y ≡ IsAbsent) ⊎ (told_by library y ≡ known_to library name y)
      by true e = inr (told_under y ∙ sym (known_here name y true e))
      by false e = inl (known_here name y false e)

  pub accepted_theory : (name : Name) (verdict : Verdict) (face : TheoryFace) → verdict_of library name ≡ Some verdict → known_by verdict ≡ IsTheory face → Short dependencies library (length library) name
  accepted_theory name (Accepted interface) face h e = accepted_short name interface h
  accepted_theory name (Refused refusal) face h e = absurd (cc)

  pub accepted_view : (name : Name) (verdict : Verdict) (face : ViewFace) → verdict_of library name ≡ Some verdict → known_by verdict ≡ IsView face → Short dependencies library (length library) name
  accepted_view name (Accepted interface) face h e = accepted_short name interface h
  accepted_view name (Refused refusal) face h e = absurd (cc)

  pub library_coherent : IsCoherent (told_by library)
  library_coherent =
      record {
        theories = λ name face e. (let v = told (verdict_of library name) (IsTheory face) e (λ q. absurd (cc)) in
            let d = sound (length library) name (accepted_theory name v.verdict face v.is v.known_is) in
            theory_transfers (known_to library name) (told_by library) d.coherent (tells_more name) name face (theory_shown (known_to library name) name v.verdict face v.known_is (d.holds v.verdict v.is)));
        views = λ name face e. (let v = told (verdict_of library name) (IsView face) e (λ q. absurd (cc)) in
            let d = sound (length library) name (accepted_view name v.verdict face v.is v.known_is) in
            view_transfers (known_to library name) (told_by library) d.coherent (tells_more name) name face (view_shown (known_to library name) name v.verdict face v.known_is (d.holds v.verdict v.is)));
      }

  -- ---- names that are closed under their reach

  pub known_in : (names : List Name) (y : Name) (b : Bool) → is_among names y ≡ b → known_of names (verdicts library) y ≡ cond b (known_if (verdict_under (verdicts library) y)) IsAbsent
  known_in names y b e = ap (λ z. cond z (known_if (verdict_under (verdicts library) y)) IsAbsent) e

  none_known : (o : Option Verdict) → is_some o ≡ false → known_if o ≡ IsAbsent
  none_known None h = refl
  none_known (Some verdict) h = absurd (true≢false h)

  pub absent_known : (y : Name) → is_present library y ≡ false → known_if (verdict_under (verdicts library) y) ≡ IsAbsent
  absent_known y e = sym (told_under y) ∙ none_known (verdict_of library y) (verdict_exactly library y ∙ e)

  pub closed_extends : (names : List Name) → AreClosed library names → (name : Name) → is_among names name ≡ true → Extends (known_to library name) (known_of names (verdicts library))
  closed_extends names closed name n y = by (is_among (others_reached library name) y) (is_present library y) refl refl
    where
      by : (b p : Bool) → is_among (others_reached library name) y ≡ b → is_present library y ≡ p
          → (known_to library name y ≡ IsAbsent) ⊎ (known_of names (verdicts library) y ≡ known_to library name y)
      by false p e q = inl (known_here name y false e)
      by true false e q = inl (known_here name y true e ∙ absent_known y q)
      by true true e q =
          inr (known_in names y true (closed name y n (member_among (reach dependencies library name) y (in_others library name y e).0) q) ∙ sym (known_here name y true e))

  pub listed : (names : List Name) (x : Name) (known : Known) → known_of names (verdicts library) x ≡ known → (known ≡ IsAbsent → ⊥)
      → (is_among names x ≡ true) × Told (verdict_of library x) known
  listed names x known e q = by (is_among names x) refl
    where
      by : (b : Bool) → is_among names x ≡ b → (is_among names x ≡ true) × Told (verdict_of library x) known
      by true g = (g, told (verdict_of library x) known (told_under x ∙ sym (known_in names x true g) ∙ e) q)
      by false g = absurd (q (sym e ∙ known_in names x false g))

  closed_coherent : (names : List Name) → AreClosed library names → IsCoherent (known_of names (verdicts library))
  closed_coherent names closed =
      record {
        theories = λ name face e. (let r = listed names name (IsTheory face) e (λ q. absurd (cc)) in
            let v = r.1 in
            let d = sound (length library) name (accepted_theory name v.verdict face v.is v.known_is) in
            theory_transfers (known_to library name) (known_of names (verdicts library)) d.coherent (closed_extends names closed name r.0) name face (theory_shown (known_to library name) name v.verdict face v.known_is (d.holds v.verdict v.is)));
        views = λ name face e. (let r = listed names name (IsView face) e (λ q. absurd (cc)) in
            let v = r.1 in
            let d = sound (length library) name (accepted_view name v.verdict face v.is v.known_is) in
            view_transfers (known_to library name) (known_of names (verdicts library)) d.coherent (closed_extends names closed name r.0) name face (view_shown (known_to library name) name v.verdict face v.known_is (d.holds v.verdict v.is)));
      }

-- no walk from a grounded name is as long as the library
pub grounded_short : (library : Library) (name : Name) → is_grounded dependencies library name ≡ true → Short dependencies library (length library) name
unfolding ungrounded_names
grounded_short library name g m = true≢false (sym (member_among (walking dependencies library (length library)) name m) ∙ not_ungrounded library name g)

pub grounded_know_coherent : GroundedKnowCoherent
grounded_know_coherent library name g = (sound library (length library) name (grounded_short library name g)).coherent

pub faces_are_coherent : FacesAreCoherent
faces_are_coherent library = library_coherent library

pub closed_are_coherent : ClosedAreCoherent
closed_are_coherent library names closed = closed_coherent library names closed
