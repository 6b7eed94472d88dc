-- The laws of verdicts.
use Rattle.std.proofs.Common.{◌≡◌, ℕ, zero, suc, Bool, true, false, not, cond, List, [], ◌∷◌, map, filter, find, length, slice_get, ◌<◌, ◌+◌, Option, Some, None, is_some, option_map, ⊎_elim, refl, sym, ap, ◌∙◌, subst, true≢false, arith}
use Rattle.std.proofs.lemmas.Bool.{cases_Bool, and_parts}
use Rattle.name_meaning.specs.Names.{Name, Text, same_name, is_among}
use Rattle.edit_log_meaning.specs.Log.{Library, text_of, is_present}
use Rattle.list_laws.proofs.Members.{Member, find_none, in_map}
use Rattle.list_laws.proofs.Options.{some_mapped}
use Rattle.name_laws.proofs.Order.{among_member, member_among}
use Rattle.module_graph_meaning.specs.Walks.{of_text, direct, walking, is_ungrounded, is_grounded, ungrounded_names}
use Rattle.module_graph_laws.proofs.Walking.{ungrounded_dependency}
use Rattle.module_graph_laws.proofs.Agreement.{grounded_same}
use Rattle.text_meaning.specs.Trees.{Module}
use Rattle.text_meaning.specs.Reading.{ModuleText, ModuleTree, JudgementTree, Answer, Read, Syntax, TooDeep, Unsupported}
use Rattle.text_meaning.specs.TextAnswers.{read}
use Rattle.library_meaning.specs.Faces.{Environment}
use Rattle.text_meaning.specs.Dependencies.{Dependency, module_dependencies, answer_dependencies, dependencies}
use Rattle.verdict_meaning.specs.Verdicts.{verdict_by, cycle_at, judge_tree, judge_answer, judge}
use Rattle.verdict_meaning.specs.Rounds.{verdict_under, known_of, others_reached, rounds, verdicts, verdict_of, known_to}
use Rattle.verdict_laws.specs.VerdictLaws.{PresentNamesHaveVerdicts, VerdictIsJudged, VerdictKeepsToReach, VerdictRestsOnVerdicts, IsCycle, UngroundedIsCycle}
use Rattle.verdict_laws.proofs.Shortness.{Short, short_more, short_reached}
use Rattle.verdict_laws.proofs.Rounds.{judged_under, round_gives, known_alike, in_others, judge_alike, rounds_agree}
use Rattle.std.proofs.lemmas.Option.{same_Some}

-- whether there is a verdict is whether there is a text, for any list of modules
pub verdict_exactly : (library : Library) (name : Name) → is_some (verdict_of library name) ≡ is_some (text_of library name)
unfolding verdict_of verdicts
verdict_exactly library name =
    ap is_some (round_gives library (ungrounded_names dependencies library) (length library) name)
    ∙ some_mapped (judged_under library (ungrounded_names dependencies library) (rounds library (ungrounded_names dependencies library) (length library)) name) (text_of library name)

pub present_names_have_verdicts : PresentNamesHaveVerdicts
present_names_have_verdicts library name ordered = verdict_exactly library name

-- ---- grounded names

grounded_short : (library : Library) (name : Name) → is_among (ungrounded_names dependencies library) name ≡ false → Short dependencies library (length library) name
unfolding ungrounded_names
grounded_short library name h m = true≢false (sym (member_among (walking dependencies library (length library)) name m) ∙ h)

-- one more round changes nothing for what a grounded name reaches
settled : (library : Library) (name : Name) → is_among (ungrounded_names dependencies library) name ≡ false → (x : Name) → is_among (others_reached library name) x ≡ true
    → verdict_under (rounds library (ungrounded_names dependencies library) (length library)) x ≡ verdict_under (rounds library (ungrounded_names dependencies library) (suc (length library))) x
settled library name h x m =
    let r = in_others library name x m in
    rounds_agree library library (length library) x (λ y g. refl)
    (short_reached dependencies library (length library) name x (short_more dependencies library (length library) name (grounded_short library name h)) r.0 r.1)
    (length library) (suc (length library)) (omega arith) (omega arith)

-- an ungrounded name is judged without what is known of others
tree_anywhere : (first second : Environment) (ungrounded : Name → Bool) (name : Name) (tree : Module) (b : Bool) → b ≡ true → judge_tree first ungrounded name tree b ≡ judge_tree second ungrounded name tree b
tree_anywhere first second ungrounded name tree b e = ap (judge_tree first ungrounded name tree) e ∙ sym (ap (judge_tree second ungrounded name tree) e)

pub answer_anywhere : (first second : Environment) (ungrounded : Name → Bool) (name : Name) (answer : Answer) → ungrounded name ≡ true → judge_answer first ungrounded name answer ≡ judge_answer second ungrounded name answer
answer_anywhere first second ungrounded name (Read (ModuleTree tree)) e = tree_anywhere first second ungrounded name tree (ungrounded name) e
answer_anywhere first second ungrounded name (Read (JudgementTree tree)) e = refl
answer_anywhere first second ungrounded name (Syntax at) e = refl
answer_anywhere first second ungrounded name (TooDeep at) e = refl
answer_anywhere first second ungrounded name (Unsupported at) e = refl

pub verdict_is_judged : VerdictIsJudged
unfolding verdict_of verdicts judged_under judge
verdict_is_judged library name text h =
    round_gives library (ungrounded_names dependencies library) (length library) name
    ∙ ap (option_map (judged_under library (ungrounded_names dependencies library) (rounds library (ungrounded_names dependencies library) (length library)) name)) h
    ∙ ap Some (⊎_elim by_ungrounded by_grounded (cases_Bool (is_among (ungrounded_names dependencies library) name)))
  where
    before : Environment
    before = known_of (others_reached library name) (rounds library (ungrounded_names dependencies library) (length library))

    by_ungrounded : is_among (ungrounded_names dependencies library) name ≡ true → judge before (is_among (ungrounded_names dependencies library)) name text ≡ judge (known_to library name) (is_among (ungrounded_names dependencies library)) name text
    by_ungrounded e = ap verdict_by (answer_anywhere before (known_to library name) (is_among (ungrounded_names dependencies library)) name (read ModuleText text) e)

    by_grounded : is_among (ungrounded_names dependencies library) name ≡ false → judge before (is_among (ungrounded_names dependencies library)) name text ≡ judge (known_to library name) (is_among (ungrounded_names dependencies library)) name text
    by_grounded e =
        judge_alike before (known_to library name) (is_among (ungrounded_names dependencies library)) (is_among (ungrounded_names dependencies library)) name text
        (λ x. known_alike (others_reached library name) (rounds library (ungrounded_names dependencies library) (length library)) (verdicts library) x (settled library name e x)) e e

pub not_ungrounded : (library : Library) (name : Name) → is_grounded dependencies library name ≡ true → is_among (ungrounded_names dependencies library) name ≡ false
unfolding ungrounded_names is_ungrounded
not_ungrounded library name g =
    let p = and_parts (is_present library name) (not (is_ungrounded dependencies library name)) g in
    by (is_ungrounded dependencies library name) p.1
  where
    by : (b : Bool) → not b ≡ true → b ≡ false
    by true e = absurd (true≢false (sym e))
    by false e = refl

-- a name that is short stays so
short_later : (library : Library) (m n : ℕ) (name : Name) → Short dependencies library n name → Short dependencies library (m + n) name
short_later library zero n name s = subst (λ z. Short dependencies library z name) (omega arith) s
short_later library (suc m) n name s = subst (λ z. Short dependencies library z name) (omega arith) (short_more dependencies library (m + n) name (short_later library m n name s))

pub verdict_keeps_to_reach : VerdictKeepsToReach
unfolding verdict_of verdicts
verdict_keeps_to_reach library other name ordered ordered' g a =
    let s = grounded_short library name (not_ungrounded library name g) in
    let t : Short dependencies other (length other) name = grounded_short other name (not_ungrounded other name (grounded_same dependencies library other name a ∙ g)) in
    let more : ℕ = length other + length library in
    -- both libraries after as many rounds as both have names, and one more
    rounds_agree library library (length library) name (λ y q. refl) s (suc (length library)) (suc more) (omega arith) (omega arith)
    ∙ rounds_agree library other more name a (short_later library (length other) (length library) name s) (suc more) (suc more) (omega arith) (omega arith)
    ∙ rounds_agree other other (length other) name (λ y q. refl) t (suc more) (suc (length other)) (omega arith) (omega arith)

known_equal : (library other : Library) (names : List Name) (x : Name) → (is_among names x ≡ true → verdict_of library x ≡ verdict_of other x) → known_of names (verdicts library) x ≡ known_of names (verdicts other) x
unfolding verdict_of
known_equal library other names x h = known_alike names (verdicts library) (verdicts other) x h

pub verdict_rests_on_verdicts : VerdictRestsOnVerdicts
unfolding others_reached
verdict_rests_on_verdicts library other name text h k g g' e v =
    verdict_is_judged library name text h
    ∙ ap Some (judge_alike (known_to library name) (known_to other name) (is_among (ungrounded_names dependencies library)) (is_among (ungrounded_names dependencies other)) name text
    (λ x. known_equal library other (others_reached library name) x (v x) ∙ ap (λ r. known_of (filter (λ (z : Name). not (same_name name z)) r) (verdicts other) x) e)
    (not_ungrounded library name g) (not_ungrounded other name g'))
    ∙ sym (verdict_is_judged other name text k)

-- ---- ungrounded names

-- what an ungrounded name has as its text reads as a module
tree_of : (answer : Answer) (d : Name) → Member d (map (λ (dependency : Dependency). dependency.name) (answer_dependencies answer)) → (tree : Module) × (answer ≡ Read (ModuleTree tree))
tree_of (Read (ModuleTree tree)) d m = (tree, refl)
tree_of (Read (JudgementTree tree)) d m = absurd m
tree_of (Syntax at) d m = absurd m
tree_of (TooDeep at) d m = absurd m
tree_of (Unsupported at) d m = absurd m

text_with : (name : Name) (o : Option Text) (d : Name) → Member d (of_text (dependencies name) o) → (text : Text) × (o ≡ Some text) × Member d (dependencies name text)
text_with name None d m = absurd m
text_with name (Some text) d m = (text, refl, m)

record Here (library : Library) (name d : Name) : Type 0 where
  text : Text
  has : text_of library name ≡ Some text
  tree : Module
  is_read : read ModuleText text ≡ Read (ModuleTree tree)
  among : Member d (map (λ (dependency : Dependency). dependency.name) (module_dependencies tree))

here : (library : Library) (name d : Name) → Member d (direct dependencies library name) → Here library name d
unfolding direct dependencies
here library name d m =
    let t = text_with name (text_of library name) d m in
    let r = tree_of (read ModuleText t.0) d t.2 in
    record { text = t.0; has = t.1; tree = r.0; is_read = r.1; among = subst (λ a. Member d (map (λ (dependency : Dependency). dependency.name) (answer_dependencies a))) r.1 t.2 }

-- the first element that passes a test, at its place
record FoundFirst {A : Type 0} (p : A → Bool) (xs : List A) (x : A) : Type 0 where
  place : ℕ
  found : slice_get xs place ≡ Some x
  passes : p x ≡ true
  before : (i : ℕ) (y : A) → i < place → slice_get xs i ≡ Some y → p y ≡ false

first_by : {A : Type 0} (p : A → Bool) (y : A) (ys : List A) (x : A) (b : Bool) → p y ≡ b → (find p ys ≡ Some x → FoundFirst p ys x) → cond b (Some y) (find p ys) ≡ Some x → FoundFirst p (y ∷ ys) x
first_by p y ys x true t h e = record { place = zero; found = e; passes = ap p (sym (same_Some _ _ e)) ∙ t; before = λ i z l s. absurd (omega (arith, l)) }
first_by p y ys x false t h e = let q = h e in record { place = suc q.place; found = q.found; passes = q.passes; before = before q.place q.before }
  where
    before : (place : ℕ) → ((i : ℕ) (z : _) → i < place → slice_get ys i ≡ Some z → p z ≡ false) → (i : ℕ) (z : _) → i < suc place → slice_get (y ∷ ys) i ≡ Some z → p z ≡ false
    before place f zero z l s = ap p (sym (same_Some _ _ s)) ∙ t
    before place f (suc i) z l s = f i z (omega (arith, l)) s

found_first : {A : Type 0} (p : A → Bool) (xs : List A) (x : A) → find p xs ≡ Some x → FoundFirst p xs x
found_first p [] x e = absurd (cc)
found_first p (y ∷ ys) x e = first_by p y ys x (p y) refl (found_first p ys x) e

pub among_ungrounded : (library : Library) (name : Name) → is_ungrounded dependencies library name ≡ true → is_among (ungrounded_names dependencies library) name ≡ true
unfolding ungrounded_names is_ungrounded
among_ungrounded library name u = u

pub ungrounded_among : (library : Library) (name : Name) → is_among (ungrounded_names dependencies library) name ≡ true → is_ungrounded dependencies library name ≡ true
unfolding ungrounded_names is_ungrounded
ungrounded_among library name u = u

not_among : (library : Library) (name : Name) → is_among (ungrounded_names dependencies library) name ≡ false → is_ungrounded dependencies library name ≡ false
unfolding ungrounded_names is_ungrounded
not_among library name u = u

pub ungrounded_is_cycle : UngroundedIsCycle
unfolding judge
ungrounded_is_cycle library name u = by (find test (module_dependencies h.tree)) refl
  where
    test : Dependency → Bool
    test dependency = is_among (ungrounded_names dependencies library) dependency.name

    d : (d : Name) × (is_among (direct dependencies library name) d ≡ true) × (is_ungrounded dependencies library d ≡ true)
    d = ungrounded_dependency dependencies library name u

    h : Here library name d.0
    h = here library name d.0 (among_member (direct dependencies library name) d.0 d.1)

    judged : verdict_of library name ≡ Some (verdict_by (cycle_at name (find test (module_dependencies h.tree))))
    judged =
        verdict_is_judged library name h.text h.has
        ∙ ap (λ a. Some (verdict_by (judge_answer (known_to library name) (is_among (ungrounded_names dependencies library)) name a))) h.is_read
        ∙ ap (λ b. Some (verdict_by (judge_tree (known_to library name) (is_among (ungrounded_names dependencies library)) name h.tree b))) (among_ungrounded library name u)

    by : (o : Option Dependency) → find test (module_dependencies h.tree) ≡ o → IsCycle library name
    by None e =
        let q = in_map (λ (dependency : Dependency). dependency.name) (module_dependencies h.tree) d.0 h.among in
        absurd (true≢false (sym (ap (is_among (ungrounded_names dependencies library)) (sym q.2) ∙ among_ungrounded library d.0 d.2) ∙ find_none test (module_dependencies h.tree) e q.0 q.1))
    by (Some dependency) e =
        let q = found_first test (module_dependencies h.tree) dependency e in
        record {
          text = h.text;
          has = h.has;
          tree = h.tree;
          is_read = h.is_read;
          dependency = dependency;
          place = q.place;
          found = q.found;
          ungrounded = ungrounded_among library dependency.name q.passes;
          first = λ i other l s. not_among library other.name (q.before i other l s);
          refused = judged ∙ ap (λ o. Some (verdict_by (cycle_at name o))) e;
        }
