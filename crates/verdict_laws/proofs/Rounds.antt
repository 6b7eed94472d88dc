-- Rounds: what a grounded name is judged as stays, and depends on its reach alone.
use Rattle.std.proofs.Common.{◌≡◌, ℕ, zero, suc, ◌≤◌, Bool, true, false, not, cond, List, [], ◌∷◌, map, filter, Option, Some, None, is_some, option_map, refl, sym, ap, ◌∙◌, true≢false, arith}
use Rattle.name_meaning.specs.Names.{Name, Text, is_among, same_name}
use Rattle.edit_log_meaning.specs.Log.{Library, text_of}
use Rattle.list_laws.proofs.Members.{Member, in_filter}
use Rattle.name_laws.proofs.Order.{among_member, member_among, same_sound}
use Rattle.module_graph_meaning.specs.Walks.{walking, is_ungrounded, ungrounded_names}
use Rattle.module_graph_meaning.specs.Reach.{reach, AgreesOn}
use Rattle.module_graph_laws.proofs.Walking.{present_in}
use Rattle.module_graph_laws.proofs.Reaching.{reach_first}
use Rattle.module_graph_laws.proofs.Agreement.{reach_same, ungrounded_agrees}
use Rattle.text_meaning.specs.Reading.{ModuleText, ModuleTree, JudgementTree, Answer, Read, Syntax, TooDeep, Unsupported}
use Rattle.text_meaning.specs.TextAnswers.{read}
use Rattle.library_meaning.specs.Faces.{IsAbsent, Environment}
use Rattle.text_meaning.specs.Dependencies.{dependencies}
use Rattle.verdict_meaning.specs.Verdicts.{Verdict, verdict_by, judge_tree, judge_answer, judge}
use Rattle.verdict_meaning.specs.Rounds.{Judged, verdict_under, known_if, known_of, others_reached, judge_module, rounds}
use Rattle.verdict_laws.proofs.Shortness.{Short, short_grounded, short_reached, reach_within_reach}

-- ---- one round

-- a module judged under this name
unfoldable pub judged_under : Library → List Name → List Judged → Name → Text → Verdict
judged_under library bad before name text = judge (known_of (others_reached library name) before) (is_among bad) name text

round_under : (library : Library) (bad : List Name) (before : List Judged) (part : Library) (name : Name)
    → verdict_under (map (judge_module library bad before) part) name ≡ option_map (judged_under library bad before name) (text_of part name)
unfolding verdict_under text_of judged_under
round_under library bad before [] name = refl
round_under library bad before (own ∷ part) name = by (same_name name own.name) refl (round_under library bad before part name)
  where
    by : (b : Bool) → same_name name own.name ≡ b
        → verdict_under (map (judge_module library bad before) part) name ≡ option_map (judged_under library bad before name) (text_of part name)
        → cond b (Some (judge_module library bad before own).verdict) (verdict_under (map (judge_module library bad before) part) name) ≡ option_map (judged_under library bad before name) (cond b (Some own.text) (text_of part name))
    by true e rest = ap (λ z. Some (judged_under library bad before z own.text)) (sym (same_sound name own.name e))
    by false e rest = rest

pub round_gives : (library : Library) (bad : List Name) (k : ℕ) (name : Name)
    → verdict_under (rounds library bad (suc k)) name ≡ option_map (judged_under library bad (rounds library bad k) name) (text_of library name)
unfolding rounds
round_gives library bad k name = round_under library bad (rounds library bad k) library name

absent_none : (library : Library) (bad : List Name) (k : ℕ) (name : Name) → text_of library name ≡ None → verdict_under (rounds library bad k) name ≡ None
unfolding rounds verdict_under
absent_none library bad zero name h = refl
absent_none library bad (suc k) name h = round_gives library bad k name ∙ ap (option_map (judged_under library bad (rounds library bad k) name)) h

-- ---- a grounded name is judged alike, whichever names are ungrounded

tree_alike : (environment : Environment) (one other : Name → Bool) (name : Name) (tree : _) (b c : Bool) → b ≡ false → c ≡ false → judge_tree environment one name tree b ≡ judge_tree environment other name tree c
tree_alike environment one other name tree b c e f = ap (judge_tree environment one name tree) e ∙ sym (ap (judge_tree environment other name tree) f)

answer_alike : (environment : Environment) (one other : Name → Bool) (name : Name) (answer : Answer) → one name ≡ false → other name ≡ false → judge_answer environment one name answer ≡ judge_answer environment other name answer
answer_alike environment one other name (Read (ModuleTree tree)) e f = tree_alike environment one other name tree (one name) (other name) e f
answer_alike environment one other name (Read (JudgementTree tree)) e f = refl
answer_alike environment one other name (Syntax at) e f = refl
answer_alike environment one other name (TooDeep at) e f = refl
answer_alike environment one other name (Unsupported at) e f = refl

pub judge_alike : (first second : Environment) (one other : Name → Bool) (name : Name) (text : Text) → ((x : Name) → first x ≡ second x) → one name ≡ false → other name ≡ false → judge first one name text ≡ judge second other name text
unfolding judge
judge_alike first second one other name text h e f =
    let same : first ≡ second = λ i x. h x i in
    ap (λ environment. verdict_by (judge_answer environment one name (read ModuleText text))) same ∙ ap verdict_by (answer_alike second one other name (read ModuleText text) e f)

-- ---- two libraries that agree on the reach

pub known_alike : (names : List Name) (one other : List Judged) (x : Name) → (is_among names x ≡ true → verdict_under one x ≡ verdict_under other x) → known_of names one x ≡ known_of names other x
known_alike names one other x h = by (is_among names x) refl
  where
    by : (b : Bool) → is_among names x ≡ b → cond b (known_if (verdict_under one x)) IsAbsent ≡ cond b (known_if (verdict_under other x)) IsAbsent
    by true e = ap known_if (h e)
    by false e = refl

pub in_others : (library : Library) (name x : Name) → is_among (others_reached library name) x ≡ true → Member x (reach dependencies library name) × (same_name name x ≡ false)
unfolding others_reached
in_others library name x h =
    let q = in_filter (λ (z : Name). not (same_name name z)) (reach dependencies library name) x (among_member (others_reached library name) x h) in
    (q.0, not_true (same_name name x) q.1)
  where
    not_true : (b : Bool) → not b ≡ true → b ≡ false
    not_true true e = absurd (true≢false (sym e))
    not_true false e = refl

others_same : (library other : Library) (name : Name) → reach dependencies other name ≡ reach dependencies library name → others_reached other name ≡ others_reached library name
unfolding others_reached
others_same library other name e = ap (filter (λ (z : Name). not (same_name name z))) e

mapped_alike : {A B : Type 0} (f g : A → B) (o q : Option A) → o ≡ q → ((x : A) → f x ≡ g x) → option_map f o ≡ option_map g q
mapped_alike f g o q e h = by o ∙ ap (option_map g) e
  where
    by : (o : Option _) → option_map f o ≡ option_map g o
    by None = refl
    by (Some x) = ap Some (h x)

module _ (library other : Library) where
  absent : (name : Name) → Short dependencies library zero name → text_of library name ≡ None
  unfolding walking
  absent name s = by (text_of library name) refl
    where
      by : (o : Option Text) → text_of library name ≡ o → o ≡ None
      by None e = refl
      by (Some text) e = absurd (s (present_in dependencies library name (ap is_some e)))

  judged_alike : (n k l : ℕ) (name : Name) → AgreesOn library other (reach dependencies library name) → Short dependencies library (suc n) name
      → ((x : Name) → AgreesOn library other (reach dependencies library x) → Short dependencies library n x → verdict_under (rounds library (ungrounded_names dependencies library) k) x ≡ verdict_under (rounds other (ungrounded_names dependencies other) l) x)
      → (text : Text) → judged_under library (ungrounded_names dependencies library) (rounds library (ungrounded_names dependencies library) k) name text ≡ judged_under other (ungrounded_names dependencies other) (rounds other (ungrounded_names dependencies other) l) name text
  unfolding judged_under ungrounded_names is_ungrounded
  judged_alike n k l name a s h text =
      let e = others_same library other name (reach_same dependencies library other name a) in
      judge_alike (known_of (others_reached library name) (rounds library (ungrounded_names dependencies library) k)) (known_of (others_reached other name) (rounds other (ungrounded_names dependencies other) l))
      (is_among (ungrounded_names dependencies library)) (is_among (ungrounded_names dependencies other)) name text
      (λ x. known_alike (others_reached library name) (rounds library (ungrounded_names dependencies library) k) (rounds other (ungrounded_names dependencies other) l) x
      (λ m. let r = in_others library name x m in
      h x (λ y g. a y (member_among (reach dependencies library name) y (reach_within_reach dependencies library name x r.0 y (among_member (reach dependencies library x) y g)))) (short_reached dependencies library n name x s r.0 r.1))
      ∙ ap (λ names. known_of names (rounds other (ungrounded_names dependencies other) l) x) (sym e))
      (short_grounded dependencies library (suc n) name s)
      (ungrounded_agrees dependencies library other name a ∙ short_grounded dependencies library (suc n) name s)

  pub rounds_agree : (n : ℕ) (name : Name) → AgreesOn library other (reach dependencies library name) → Short dependencies library n name → (k l : ℕ) → n ≤ k → n ≤ l
      → verdict_under (rounds library (ungrounded_names dependencies library) k) name ≡ verdict_under (rounds other (ungrounded_names dependencies other) l) name
  rounds_agree zero name a s k l p q =
      let e = absent name s in
      absent_none library (ungrounded_names dependencies library) k name e
      ∙ sym (absent_none other (ungrounded_names dependencies other) l name (sym (a name (member_among (reach dependencies library name) name (reach_first dependencies library name))) ∙ e))
  rounds_agree (suc n) name a s zero l p q = absurd (omega (arith, p))
  rounds_agree (suc n) name a s (suc k) zero p q = absurd (omega (arith, q))
  rounds_agree (suc n) name a s (suc k) (suc l) p q =
      round_gives library (ungrounded_names dependencies library) k name
      ∙ mapped_alike (judged_under library (ungrounded_names dependencies library) (rounds library (ungrounded_names dependencies library) k) name) (judged_under other (ungrounded_names dependencies other) (rounds other (ungrounded_names dependencies other) l) name)
      (text_of library name) (text_of other name) (a name (member_among (reach dependencies library name) name (reach_first dependencies library name)))
      (judged_alike n k l name a s (λ x b t. rounds_agree n x b t k l (omega (arith, p)) (omega (arith, q))))
      ∙ sym (round_gives other (ungrounded_names dependencies other) l name)
