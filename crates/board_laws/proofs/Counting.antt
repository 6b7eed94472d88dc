-- How many verdicts stand.
use Rattle.std.proofs.Common.{◌≡◌, ℕ, suc, ◌≤◌, Bool, true, false, cond, List, [], ◌∷◌, ◌++◌, ◌||◌, length, filter, slice_get, Option, Some, None, is_some, inl, inr, refl, sym, ap, ◌∙◌, subst, true≢false, arith}
use Rattle.std.proofs.Math.Bool.{or-false}
use Rattle.std.specs.List.{list_all}
use Rattle.std.proofs.lemmas.Bool.{and_parts}
use Rattle.name_meaning.specs.Names.{Name, same_name, comes_before, is_among, is_ascending}
use Rattle.edit_log_meaning.specs.Log.{names_of, library_of, is_present}
use Rattle.module_graph_meaning.specs.Walks.{Dependencies}
use Rattle.list_laws.proofs.Members.{Member, all_at, in_filter, filter_in}
use Rattle.name_laws.proofs.Order.{same_itself, same_turned, among_member, member_among}
use Rattle.name_laws.proofs.Rows.{different}
use Rattle.edit_log_laws.proofs.Libraries.{library_ascending, present_among}
use Rattle.board_meaning.specs.Events.{Install, Entry, History, edit_of, edit_in, log_of, library_after}
use Rattle.board_meaning.specs.Claims.{claim_at, is_name, is_open}
use Rattle.board_meaning.specs.Standing.{installed_claim, stands, standing_names, standing_count}
use Rattle.board_meaning.specs.Machine.{is_by, may_call}
use Rattle.board_meaning.specs.Legal.{MayFollow, IsLegal}
use Rattle.board_laws.proofs.Histories.{log_none}
use Rattle.board_laws.proofs.Legality.{legal_more, event_install, follows_event}
use Rattle.board_laws.proofs.Standings.{standing_grounded}
use Rattle.board_laws.proofs.Following.{others_leave}
use Rattle.board_laws.proofs.Told.{install_makes_told}
use Rattle.board_laws.proofs.Rising.{install_of_waiting}

module _ {A : Type 0} where
  pub filter_within : (p : A → Bool) (xs : List A) → length (filter p xs) ≤ length xs
  filter_within p [] = omega arith
  filter_within p (x ∷ xs) = by (p x) (filter_within p xs)
    where
      by : (b : Bool) → length (filter p xs) ≤ length xs → length (cond b (x ∷ filter p xs) (filter p xs)) ≤ suc (length xs)
      by true h = omega (arith, h)
      by false h = omega (arith, h)

  pub filter_same : (p q : A → Bool) (xs : List A) → ((x : A) → Member x xs → q x ≡ p x) → filter q xs ≡ filter p xs
  filter_same p q [] f = refl
  filter_same p q (x ∷ xs) f = by (p x) (q x) (f x (inl refl)) (filter_same p q xs (λ y m. f y (inr m)))
    where
      by : (b c : Bool) → c ≡ b → filter q xs ≡ filter p xs → cond c (x ∷ filter q xs) (filter q xs) ≡ cond b (x ∷ filter p xs) (filter p xs)
      by true true e h = ap (λ (ys : List A). x ∷ ys) h
      by true false e h = absurd (true≢false (sym e))
      by false true e h = absurd (true≢false e)
      by false false e h = h

-- one name more passes
module _ (p q : Name → Bool) (m : Name) (not_yet : p m ≡ false) (now : q m ≡ true) (others : (n : Name) → same_name n m ≡ false → q n ≡ p n) where
  one_more : (names : List Name) → is_ascending names ≡ true → Member m names → length (filter q names) ≡ suc (length (filter p names))
  unfolding is_ascending
  one_more [] h i = absurd i
  one_more (x ∷ names) h (inl e) =
      by (p x) (q x) (ap p (sym e) ∙ not_yet) (ap q (sym e) ∙ now)
      (filter_same p q names (λ n i. others n (subst (λ (z : Name). same_name n z ≡ false) (sym e) (different x n (all_at (comes_before x) names n (and_parts (list_all (comes_before x) names) (is_ascending names) h).0 i)))))
    where
      by : (b c : Bool) → b ≡ false → c ≡ true → filter q names ≡ filter p names → length (cond c (x ∷ filter q names) (filter q names)) ≡ suc (length (cond b (x ∷ filter p names) (filter p names)))
      by true c f g s = absurd (true≢false f)
      by false true f g s = ap (λ (ys : List Name). suc (length ys)) s
      by false false f g s = absurd (true≢false (sym g))
  one_more (x ∷ names) h (inr i) =
      let a = and_parts (list_all (comes_before x) names) (is_ascending names) h in
      by (p x) (q x) (others x (same_turned m x (different x m (all_at (comes_before x) names m a.0 i)))) (one_more names a.1 i)
    where
      by : (b c : Bool) → c ≡ b → length (filter q names) ≡ suc (length (filter p names)) → length (cond c (x ∷ filter q names) (filter q names)) ≡ suc (length (cond b (x ∷ filter p names) (filter p names)))
      by true true e s = ap suc s
      by true false e s = absurd (true≢false (sym e))
      by false true e s = absurd (true≢false e)
      by false false e s = s

pub standing_present : (dependencies : Dependencies) (H : History) → IsLegal dependencies H → (n : Name) → stands dependencies H n ≡ true → Member n (names_of (library_after H))
standing_present dependencies H l n t =
    among_member (names_of (library_after H)) n
    (sym (present_among (library_after H) n) ∙ (and_parts (is_present (library_after H) n) _ (standing_grounded dependencies H l n t)).0)

pub standing_names_stand : (dependencies : Dependencies) (H : History) (n : Name) → IsLegal dependencies H → is_among (standing_names dependencies H) n ≡ stands dependencies H n
standing_names_stand dependencies H n l = by (stands dependencies H n) (is_among (standing_names dependencies H) n) refl refl
  where
    by : (b c : Bool) → stands dependencies H n ≡ b → is_among (standing_names dependencies H) n ≡ c → c ≡ b
    by true true h g = refl
    by true false h g = absurd (true≢false (sym (member_among (standing_names dependencies H) n (filter_in (stands dependencies H) (names_of (library_after H)) n (standing_present dependencies H l n h) h)) ∙ g))
    by false true h g = absurd (true≢false (sym (in_filter (stands dependencies H) (names_of (library_after H)) n (among_member (standing_names dependencies H) n g)).1 ∙ h))
    by false false h g = refl

same_names : (H : History) (e : Entry) → edit_in e ≡ None → names_of (library_after (H ++ e ∷ [])) ≡ names_of (library_after H)
same_names H e h = ap (λ z. names_of (library_of z)) (log_none H e h)

pub others_keep_count : (dependencies : Dependencies) (H : History) (e : Entry) → IsLegal dependencies H → edit_in e ≡ None → installed_claim e.event ≡ None
    → standing_count dependencies (H ++ e ∷ []) ≡ standing_count dependencies H
others_keep_count dependencies H e l g i =
    ap (λ (names : List Name). length (filter (stands dependencies (H ++ e ∷ [])) names)) (same_names H e g)
    ∙ ap length (filter_same (stands dependencies H) (stands dependencies (H ++ e ∷ [])) (names_of (library_after H)) (λ n m. others_leave dependencies H l e n g i))

claim_named : (H : History) (c : ℕ) → is_open H c ≡ true → (n : Name) × (claim_at H c ≡ Some n)
unfolding is_open
claim_named H c o = by (claim_at H c) (and_parts _ _ o).0
  where
    by : (x : Option Name) → is_some x ≡ true → (n : Name) × (x ≡ Some n)
    by None h = absurd (true≢false (sym h))
    by (Some n) h = (n, refl)

opened : (dependencies : Dependencies) (H : History) (e : Entry) (c : ℕ) → MayFollow dependencies H e → e.event ≡ Install c → is_open H c ≡ true
unfolding may_call
opened dependencies H e c f h =
    let q = event_install dependencies H f.call e.event c (follows_event dependencies H e f) (ap installed_claim h) in
    (and_parts (is_open H c) (is_by e.pass (slice_get H c)) (subst (λ z. may_call H e.pass z ≡ true) q.0 f.may)).0

or_true : (b : Bool) → (b || true) ≡ true
or_true true = refl
or_true false = refl

module _ (dependencies : Dependencies) (H : History) (e : Entry) (c : ℕ) (l : IsLegal dependencies H) (f : MayFollow dependencies H e) (h : e.event ≡ Install c) (n : Name) (named : claim_at H c ≡ Some n) where
  makes : (x : Name) → stands dependencies (H ++ e ∷ []) x ≡ (stands dependencies H x || same_name x n)
  makes x = install_makes_told dependencies H e c x l f h ∙ ap (λ (o : Option Name). stands dependencies H x || is_name x o) named

  raised : standing_count dependencies (H ++ e ∷ []) ≡ suc (standing_count dependencies H)
  raised =
      ap (λ (names : List Name). length (filter (stands dependencies (H ++ e ∷ [])) names)) (same_names H e (ap edit_of h))
      ∙ one_more (stands dependencies H) (stands dependencies (H ++ e ∷ [])) n waiting stood others (names_of (library_after H)) (library_ascending (log_of H)) present
    where
      waiting : stands dependencies H n ≡ false
      waiting = install_of_waiting dependencies H e c n l f h (ap (is_name n) named ∙ same_itself n)

      stood : stands dependencies (H ++ e ∷ []) n ≡ true
      stood = makes n ∙ ap (λ (b : Bool). stands dependencies H n || b) (same_itself n) ∙ or_true (stands dependencies H n)

      others : (x : Name) → same_name x n ≡ false → stands dependencies (H ++ e ∷ []) x ≡ stands dependencies H x
      others x s = makes x ∙ ap (λ (b : Bool). stands dependencies H x || b) s ∙ or-false (stands dependencies H x)

      present : Member n (names_of (library_after H))
      present = subst (Member n) (same_names H e (ap edit_of h)) (standing_present dependencies (H ++ e ∷ []) (legal_more dependencies H e l f) n stood)

pub install_raises_count : (dependencies : Dependencies) (H : History) (e : Entry) (c : ℕ) → IsLegal dependencies H → MayFollow dependencies H e → e.event ≡ Install c
    → standing_count dependencies (H ++ e ∷ []) ≡ suc (standing_count dependencies H)
install_raises_count dependencies H e c l f h = let q = claim_named H c (opened dependencies H e c f h) in raised dependencies H e c l f h q.0 q.1

pub count_within : (dependencies : Dependencies) (H : History) → standing_count dependencies H ≤ length (names_of (library_after H))
count_within dependencies H = filter_within (stands dependencies H) (names_of (library_after H))
