-- Walks counted: which names walk on, and what grounded and ungrounded names rest on.
use Rattle.std.proofs.Common.{◌≡◌, ℕ, zero, suc, ◌+◌, ◌<◌, ◌≤◌, Bool, true, false, not, cond, List, [], ◌∷◌, length, filter, Option, Some, None, is_some, ◌⊎◌, inl, inr, ⊎_elim, refl, sym, ap, ◌∙◌, subst, true≢false, arith, Decides, ◌-◌}
use Rattle.std.specs.List.{list_any, list_all}
use Rattle.std.proofs.lemmas.Bool.{cases_Bool, and_parts, and_from, not_from_false, false_from_ne_true}
use Rattle.name_meaning.specs.Names.{Name, Text, is_among}
use Rattle.edit_log_meaning.specs.Log.{Library, names_of, text_of, is_present}
use Rattle.module_graph_meaning.specs.Walks.{Dependencies, of_text, direct, IsWalk, Ungrounded, walking, is_ungrounded, is_grounded, ungrounded_names}
use Rattle.module_graph_laws.specs.WalkLaws.{WalksOn}
use Rattle.list_laws.proofs.Members.{Member, any_found, any_of, all_not, all_at, in_filter, filter_in}
use Rattle.name_laws.proofs.Order.{among_member, member_among}
use Rattle.edit_log_laws.proofs.Libraries.{present_among}

-- ---- lists that a test makes shorter

module _ {A : Type 0} (p q : A → Bool) where
  filter_less : (xs : List A) → ((x : A) → Member x xs → q x ≡ true → p x ≡ true) → length (filter q xs) ≤ length (filter p xs)
  filter_less [] h = omega arith
  filter_less (y ∷ ys) h = by (q y) (p y) (h y (inl refl)) (filter_less ys (λ x m. h x (inr m)))
    where
      by : (b c : Bool) → (b ≡ true → c ≡ true) → length (filter q ys) ≤ length (filter p ys) → length (cond b (y ∷ filter q ys) (filter q ys)) ≤ length (cond c (y ∷ filter p ys) (filter p ys))
      by true true f g = omega (arith, g)
      by true false f g = absurd (true≢false (sym (f refl)))
      by false true f g = omega (arith, g)
      by false false f g = g

  -- one element passes the first test and not the second
  pub filter_shorter : (xs : List A) (x : A) → ((z : A) → Member z xs → q z ≡ true → p z ≡ true) → Member x xs → p x ≡ true → q x ≡ false → length (filter q xs) < length (filter p xs)
  filter_shorter [] x h m f g = absurd m
  filter_shorter (y ∷ ys) x h (inl e) f g = by (q y) (p y) (subst (λ z. q z ≡ false) e g) (subst (λ z. p z ≡ true) e f) (filter_less ys (λ z m. h z (inr m)))
    where
      by : (b c : Bool) → b ≡ false → c ≡ true → length (filter q ys) ≤ length (filter p ys) → length (cond b (y ∷ filter q ys) (filter q ys)) < length (cond c (y ∷ filter p ys) (filter p ys))
      by true c f g k = absurd (true≢false f)
      by false true f g k = omega (arith, k)
      by false false f g k = absurd (true≢false (sym g))
  filter_shorter (y ∷ ys) x h (inr m) f g = by (q y) (p y) (h y (inl refl)) (filter_shorter ys x (λ z m. h z (inr m)) m f g)
    where
      by : (b c : Bool) → (b ≡ true → c ≡ true) → length (filter q ys) < length (filter p ys) → length (cond b (y ∷ filter q ys) (filter q ys)) < length (cond c (y ∷ filter p ys) (filter p ys))
      by true true f g = omega (arith, g)
      by true false f g = absurd (true≢false (sym (f refl)))
      by false true f g = omega (arith, g)
      by false false f g = g

pub filter_within : {A : Type 0} (p : A → Bool) (xs : List A) → length (filter p xs) ≤ length xs
filter_within p [] = omega arith
filter_within p (y ∷ ys) = by (p y) (filter_within p ys)
  where
    by : (b : Bool) → length (filter p ys) ≤ length ys → length (cond b (y ∷ filter p ys) (filter p ys)) ≤ suc (length ys)
    by true h = omega (arith, h)
    by false h = omega (arith, h)

empty_no : {A : Type 0} (xs : List A) (x : A) → length xs ≤ 0 → Member x xs → ⊥
empty_no [] x h m = m
empty_no (y ∷ ys) x h m = omega (arith, h)

-- ---- presence

module _ (dependencies : Dependencies) (library : Library) where
  pub present_in : (n : Name) → is_present library n ≡ true → Member n (names_of library)
  present_in n h = among_member (names_of library) n (sym (present_among library n) ∙ h)

  pub in_present : (n : Name) → Member n (names_of library) → is_present library n ≡ true
  in_present n m = present_among library n ∙ member_among (names_of library) n m

  -- a name with a dependency is present
  pub depends_present : (n d : Name) → Member d (direct dependencies library n) → is_present library n ≡ true
  unfolding direct
  depends_present n d m = by (text_of library n) m
    where
      by : (t : Option Text) → Member d (of_text (dependencies n) t) → is_some t ≡ true
      by None m = absurd m
      by (Some t) m = refl

  -- ---- walking on

  pub walking_step : (k : ℕ) (n d : Name) → Member d (direct dependencies library n) → Member d (walking dependencies library k) → Member n (walking dependencies library (suc k))
  unfolding walking
  walking_step k n d m w =
      filter_in (λ (x : Name). list_any (is_among (walking dependencies library k)) (direct dependencies library x)) (names_of library) n (present_in n (depends_present n d m))
      (any_of (is_among (walking dependencies library k)) (direct dependencies library n) d m (member_among (walking dependencies library k) d w))

  pub walking_next : (k : ℕ) (n : Name) → Member n (walking dependencies library (suc k)) → (d : Name) × Member d (direct dependencies library n) × Member d (walking dependencies library k)
  unfolding walking
  walking_next k n w =
      let p = in_filter (λ (x : Name). list_any (is_among (walking dependencies library k)) (direct dependencies library x)) (names_of library) n w in
      let q = any_found (is_among (walking dependencies library k)) (direct dependencies library n) p.1 in
      (q.0, q.1, among_member (walking dependencies library k) q.0 q.2)

  pub walking_present : (k : ℕ) (n : Name) → Member n (walking dependencies library k) → Member n (names_of library)
  unfolding walking
  walking_present zero n w = w
  walking_present (suc k) n w = (in_filter (λ (x : Name). list_any (is_among (walking dependencies library k)) (direct dependencies library x)) (names_of library) n w).0

  pub walking_less : (k : ℕ) (n : Name) → Member n (walking dependencies library (suc k)) → Member n (walking dependencies library k)
  unfolding walking
  walking_less zero n w = walking_present (suc zero) n w
  walking_less (suc k) n w = let q = walking_next (suc k) n w in walking_step k n q.0 q.1 (walking_less k q.0 q.2)

  pub walking_down : (j k : ℕ) (n : Name) → Member n (walking dependencies library (j + k)) → Member n (walking dependencies library k)
  walking_down zero k n w = subst (λ z. Member n (walking dependencies library z)) (omega arith) w
  walking_down (suc j) k n w = walking_down j k n (walking_less (j + k) n (subst (λ z. Member n (walking dependencies library z)) (omega arith) w))

  pub walk_of : (k : ℕ) (n : Name) → Member n (walking dependencies library k) → WalksOn dependencies library n k
  unfolding walking IsWalk
  walk_of zero n w = ([], in_present n w, refl)
  walk_of (suc k) n w =
      let q = walking_next k n w in
      let r = walk_of k q.0 q.2 in
      (q.0 ∷ r.0, (depends_present n q.0 q.1, member_among (direct dependencies library n) q.0 q.1, r.1), ap suc r.2)

  pub walk_in : (rest : List Name) (n : Name) → IsWalk dependencies library n rest → Member n (walking dependencies library (length rest))
  unfolding walking IsWalk
  walk_in [] n w = present_in n w
  walk_in (d ∷ rest) n w = walking_step (length rest) n d (among_member (direct dependencies library n) d w.1) (walk_in rest d w.2)

  pub walking_decides : (k : ℕ) (n : Name) → Decides (is_among (walking dependencies library k) n) (WalksOn dependencies library n k)
  walking_decides k n = (
    λ e. walk_of k n (among_member (walking dependencies library k) n e),
    λ w. member_among (walking dependencies library k) n (subst (λ z. Member n (walking dependencies library z)) w.2 (walk_in w.0 n w.1)),
  )

  pub ungrounded_decides : (n : Name) → Decides (is_ungrounded dependencies library n) (Ungrounded dependencies library n)
  unfolding is_ungrounded ungrounded_names
  ungrounded_decides n = (
    λ e. let w = walk_of (length library) n (among_member (walking dependencies library (length library)) n e) in
        record { rest = w.0; walk = w.1; longer = omega (arith, w.2) },
    λ u. member_among (walking dependencies library (length library)) n (down u),
  )
    where
      down : (u : Ungrounded dependencies library n) → Member n (walking dependencies library (length library))
      down u = let h : length library < suc (length u.rest) = u.longer in
          walking_down (length u.rest - length library) (length library) n (subst (λ z. Member n (walking dependencies library z)) (omega (arith, h)) (walk_in u.rest n u.walk))

  -- ---- who walks so far walks on for ever

  Steady : ℕ → Type 0
  Steady k = (n : Name) → Member n (walking dependencies library k) → Member n (walking dependencies library (suc k))

  steady_next : (k : ℕ) → Steady k → Steady (suc k)
  unfolding Steady
  steady_next k h n w = let q = walking_next k n w in walking_step (suc k) n q.0 q.1 (h q.0 q.2)

  steady_on : (j k : ℕ) → Steady k → (n : Name) → Member n (walking dependencies library k) → Member n (walking dependencies library (j + k))
  unfolding Steady
  steady_on zero k h n w = subst (λ z. Member n (walking dependencies library z)) (omega arith) w
  steady_on (suc j) k h n w = subst (λ z. Member n (walking dependencies library z)) (omega arith) (steady_on j (suc k) (steady_next k h) n (h n w))

  walkers : ℕ → List Name
  walkers k = filter (is_among (walking dependencies library k)) (names_of library)

  fewer : (k : ℕ) (n : Name) → Member n (walking dependencies library k) → is_among (walking dependencies library (suc k)) n ≡ false → length (walkers (suc k)) < length (walkers k)
  unfolding walkers
  fewer k n w h =
      filter_shorter (is_among (walking dependencies library k)) (is_among (walking dependencies library (suc k))) (names_of library) n
      (λ z m e. member_among (walking dependencies library k) z (walking_less k z (among_member (walking dependencies library (suc k)) z e)))
      (walking_present k n w) (member_among (walking dependencies library k) n w) h

  steady_or : (k : ℕ) → Steady k ⊎ ((n : Name) × Member n (walking dependencies library k) × (is_among (walking dependencies library (suc k)) n ≡ false))
  unfolding Steady
  steady_or k =
      ⊎_elim (λ e. inl (λ n m. among_member (walking dependencies library (suc k)) n (all_at (is_among (walking dependencies library (suc k))) (walking dependencies library k) n e m)))
      (λ e. inr (all_not (is_among (walking dependencies library (suc k))) (walking dependencies library k) e))
      (cases_Bool (list_all (is_among (walking dependencies library (suc k))) (walking dependencies library k)))

  pub names_count : length (names_of library) ≡ length library
  names_count = by library
    where
      by : (l : Library) → length (names_of l) ≡ length l
      by [] = refl
      by (o ∷ l) = ap suc (by l)

  steady_by : (k : ℕ) → Steady k ⊎ (length (walkers k) + k ≤ length library)
  unfolding walkers
  steady_by zero = inr (let h = filter_within (is_among (walking dependencies library 0)) (names_of library) in omega (arith, h, names_count))
  steady_by (suc k) = ⊎_elim (λ s. inl (steady_next k s)) (λ h. ⊎_elim (λ s. inl (steady_next k s)) (λ q. inr (let f = fewer k q.0 q.1 q.2 in omega (arith, h, f))) (steady_or k)) (steady_by k)

  steady : Steady (length library)
  unfolding Steady walkers
  steady =
      ⊎_elim (λ s. s)
      (λ h n w. absurd (empty_no (walkers (length library)) n (omega (arith, h))
      (filter_in (is_among (walking dependencies library (length library))) (names_of library) n (walking_present (length library) n w) (member_among (walking dependencies library (length library)) n w))))
      (steady_by (length library))

  pub walks_on : (n : Name) → Member n (walking dependencies library (length library)) → (k : ℕ) → Member n (walking dependencies library k)
  walks_on n w k = walking_down (length library) k n (subst (λ z. Member n (walking dependencies library z)) (omega arith) (steady_on k (length library) steady n w))

  pub ungrounded_in : (n : Name) → is_ungrounded dependencies library n ≡ true → Member n (walking dependencies library (length library))
  unfolding is_ungrounded ungrounded_names
  ungrounded_in n h = among_member (walking dependencies library (length library)) n h

  pub in_ungrounded : (n : Name) → Member n (walking dependencies library (length library)) → is_ungrounded dependencies library n ≡ true
  unfolding is_ungrounded ungrounded_names
  in_ungrounded n w = member_among (walking dependencies library (length library)) n w

  pub ungrounded_dependency : (n : Name) → is_ungrounded dependencies library n ≡ true → (d : Name) × (is_among (direct dependencies library n) d ≡ true) × (is_ungrounded dependencies library d ≡ true)
  ungrounded_dependency n h =
      let q = walking_next (length library) n (walks_on n (ungrounded_in n h) (suc (length library))) in
      (q.0, member_among (direct dependencies library n) q.0 q.1, in_ungrounded q.0 q.2)

  pub grounded_dependency : (n d : Name) → is_grounded dependencies library n ≡ true → is_among (direct dependencies library n) d ≡ true → is_present library d ≡ true → is_grounded dependencies library d ≡ true
  grounded_dependency n d h m p =
      and_from (is_present library d) (not (is_ungrounded dependencies library d)) p
      (not_from_false (is_ungrounded dependencies library d) (false_from_ne_true (is_ungrounded dependencies library d)
      (λ u. clash (is_ungrounded dependencies library n) (and_parts (is_present library n) (not (is_ungrounded dependencies library n)) h).1
      (in_ungrounded n (walking_less (length library) n (walking_step (length library) n d (among_member (direct dependencies library n) d m) (ungrounded_in d u)))))))
    where
      clash : (b : Bool) → not b ≡ true → b ≡ true → ⊥
      clash true f g = true≢false (sym f)
      clash false f g = true≢false (sym g)

  pub ungrounded_walks_on : (n : Name) → is_ungrounded dependencies library n ≡ true → (k : ℕ) → WalksOn dependencies library n k
  ungrounded_walks_on n h k = walk_of k n (walks_on n (ungrounded_in n h) k)
