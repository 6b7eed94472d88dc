-- The reach as a list, and libraries that agree on it.
use Rattle.std.proofs.Common.{◌≡◌, ℕ, zero, suc, ◌<◌, true, false, List, [], ◌∷◌, length, filter, flat_map, ◌⊎◌, inl, inr, ⊎_elim, refl, sym, ap₂, ◌∙◌, subst, true≢false, arith, Decides}
use Rattle.std.specs.List.{list_all}
use Rattle.std.proofs.lemmas.Bool.{cases_Bool, and_parts}
use Rattle.name_meaning.specs.Names.{Name, comes_before, is_among, is_ascending}
use Rattle.edit_log_meaning.specs.Log.{Library, names_of, is_present}
use Rattle.module_graph_meaning.specs.Walks.{Dependencies, direct, IsWalk}
use Rattle.module_graph_meaning.specs.Reach.{IsReached, reach_within, reach}
use Rattle.list_laws.proofs.Members.{Member, all_not, all_at, filter_in, in_flat_map, flat_map_in}
use Rattle.name_laws.proofs.Order.{among_member, member_among, in_with_all, with_all_new, with_all_old, with_all_ascending, before_trans, not_before_itself}
use Rattle.module_graph_laws.proofs.Walking.{filter_shorter, filter_within, present_in, depends_present, names_count}

-- ---- two lists in byte order with the same members are one

only_later : (x y : Name) (xs ys : List Name) → x ≡ y → list_all (comes_before x) xs ≡ true → ((z : Name) → Member z (x ∷ xs) → Member z (y ∷ ys)) → (z : Name) → Member z xs → Member z ys
only_later x y xs ys e h f z m =
    ⊎_elim (λ q. absurd (not_before_itself x (subst (λ w. comes_before x w ≡ true) (q ∙ sym e) (all_at (comes_before x) xs z h m)))) (λ q. q) (f z (inr m))

pub one_list : (xs ys : List Name) → is_ascending xs ≡ true → is_ascending ys ≡ true → ((z : Name) → Member z xs → Member z ys) → ((z : Name) → Member z ys → Member z xs) → xs ≡ ys
unfolding is_ascending
one_list [] [] h g f k = refl
one_list [] (y ∷ ys) h g f k = absurd (k y (inl refl))
one_list (x ∷ xs) [] h g f k = absurd (f x (inl refl))
one_list (x ∷ xs) (y ∷ ys) h g f k =
    let p = and_parts (list_all (comes_before x) xs) (is_ascending xs) h in
    let q = and_parts (list_all (comes_before y) ys) (is_ascending ys) g in
    let e : x ≡ y = first p.0 q.0 in
    ap₂ (λ z zs. z ∷ zs) e (one_list xs ys p.1 q.1 (only_later x y xs ys e p.0 f) (only_later y x ys xs (sym e) q.0 k))
  where
    first : list_all (comes_before x) xs ≡ true → list_all (comes_before y) ys ≡ true → x ≡ y
    first p q =
        ⊎_elim (λ e. e)
        (λ m. ⊎_elim (λ e. sym e) (λ n. absurd (not_before_itself x (before_trans x y x (all_at (comes_before x) xs y p n) (all_at (comes_before y) ys x q m)))) (k y (inl refl)))
        (f x (inl refl))

module _ (dependencies : Dependencies) (library : Library) (name : Name) where
  within : ℕ → List Name
  within k = reach_within dependencies library name k

  within_old : (k : ℕ) (x : Name) → Member x (within k) → Member x (within (suc k))
  unfolding within reach_within
  within_old k x m = with_all_old (flat_map (direct dependencies library) (reach_within dependencies library name k)) (reach_within dependencies library name k) x m

  within_new : (k : ℕ) (x d : Name) → Member x (within k) → Member d (direct dependencies library x) → Member d (within (suc k))
  unfolding within reach_within
  within_new k x d m n =
      with_all_new (flat_map (direct dependencies library) (reach_within dependencies library name k)) (reach_within dependencies library name k) d
      (flat_map_in (direct dependencies library) (reach_within dependencies library name k) x d m n)

  in_within : (k : ℕ) (d : Name) → Member d (within (suc k)) → Member d (within k) ⊎ ((x : Name) × Member x (within k) × Member d (direct dependencies library x))
  unfolding within reach_within
  in_within k d m =
      ⊎_elim (λ n. inr (in_flat_map (direct dependencies library) (reach_within dependencies library name k) d n)) (λ n. inl n)
      (in_with_all (flat_map (direct dependencies library) (reach_within dependencies library name k)) (reach_within dependencies library name k) d m)

  within_first : (k : ℕ) → Member name (within k)
  unfolding within reach_within
  within_first zero = inl refl
  within_first (suc k) = within_old k name (within_first k)

  within_ascending : (k : ℕ) → is_ascending (within k) ≡ true
  unfolding within reach_within is_ascending
  within_ascending zero = refl
  within_ascending (suc k) = with_all_ascending (flat_map (direct dependencies library) (reach_within dependencies library name k)) (reach_within dependencies library name k) (within_ascending k)

  -- ---- closed under direct dependencies

  abbrev pub IsClosed : List Name → Type 0
  IsClosed names = (x d : Name) → Member x names → Member d (direct dependencies library x) → Member d names

  closed_next : (k : ℕ) → IsClosed (within k) → IsClosed (within (suc k))
  closed_next k h x d m n = within_old k d (h x d (⊎_elim (λ q. q) (λ q. h q.0 x q.1 q.2) (in_within k x m)) n)

  Open : List Name → Type 0
  Open names = (x : Name) × (d : Name) × Member x names × Member d (direct dependencies library x) × (is_among names d ≡ false)

  closed_or : (names : List Name) → IsClosed names ⊎ Open names
  unfolding Open
  closed_or names =
      ⊎_elim (λ e. inl (λ x d m n. among_member names d (all_at (is_among names) (direct dependencies library x) d (all_at (λ (y : Name). list_all (is_among names) (direct dependencies library y)) names x e m) n)))
      (λ e. let q = all_not (λ (y : Name). list_all (is_among names) (direct dependencies library y)) names e in
      let r = all_not (is_among names) (direct dependencies library q.0) q.2 in
      inr (q.0, r.0, q.1, r.1, r.2))
      (cases_Bool (list_all (λ (y : Name). list_all (is_among names) (direct dependencies library y)) names))

  found : List Name → List Name
  found names = filter (is_among names) (names_of library)

  more_found : (k : ℕ) (x : Name) → Member x (names_of library) → Member x (within (suc k)) → (Member x (within k) → ⊥) → length (found (within k)) < length (found (within (suc k)))
  unfolding found
  more_found k x p m f =
      filter_shorter (is_among (within (suc k))) (is_among (within k)) (names_of library) x
      (λ z q e. member_among (within (suc k)) z (within_old k z (among_member (within k) z e)))
      p (member_among (within (suc k)) x m) (not_among (cases_Bool (is_among (within k) x)))
    where
      not_among : (is_among (within k) x ≡ true) ⊎ (is_among (within k) x ≡ false) → is_among (within k) x ≡ false
      not_among (inl e) = absurd (f (among_member (within k) x e))
      not_among (inr e) = e

  closed_by : (k : ℕ) → IsClosed (within k) ⊎ (k < length (found (within k)))
  unfolding found Open
  closed_by zero = ⊎_elim (λ c. inl c) (λ q. inr (some q.0 (present_in dependencies library q.0 (depends_present dependencies library q.0 q.1 q.3)) q.2)) (closed_or (within zero))
    where
      not_empty : (xs : List Name) (x : Name) → Member x xs → 0 < length xs
      not_empty [] x m = absurd m
      not_empty (y ∷ xs) x m = omega arith

      some : (x : Name) → Member x (names_of library) → Member x (within zero) → 0 < length (filter (is_among (within zero)) (names_of library))
      some x p m = not_empty (filter (is_among (within zero)) (names_of library)) x (filter_in (is_among (within zero)) (names_of library) x p (member_among (within zero) x m))
  closed_by (suc k) =
      ⊎_elim (λ c. inl (closed_next k c))
      (λ h. ⊎_elim (λ c. inl c)
      (λ q. inr (let g = more_found k q.0 (present_in dependencies library q.0 (depends_present dependencies library q.0 q.1 q.3)) q.2 (λ m. true≢false (sym (member_among (within (suc k)) q.1 (within_new k q.0 q.1 m q.3)) ∙ q.4)) in omega (arith, g, h)))
      (closed_or (within (suc k))))
      (closed_by k)

  pub reach_closed : IsClosed (reach dependencies library name)
  unfolding found within reach
  reach_closed =
      ⊎_elim (λ c. c)
      (λ h. absurd (let g = filter_within (is_among (within (length library))) (names_of library) in let c = names_count dependencies library in omega (arith, h, g, c)))
      (closed_by (length library))

  pub reach_first : Member name (reach dependencies library name)
  unfolding within reach
  reach_first = within_first (length library)

  pub reach_ascending : is_ascending (reach dependencies library name) ≡ true
  unfolding within reach
  reach_ascending = within_ascending (length library)

  -- ---- what is reached

  walk_more : (rest : List Name) (n on d : Name) → IsWalk dependencies library n rest → Member on (n ∷ rest) → Member d (direct dependencies library on) → is_present library d ≡ true
      → (more : List Name) × IsWalk dependencies library n more × Member d (n ∷ more)
  unfolding IsWalk
  walk_more rest n on d w (inl e) m p =
      (d ∷ [], (depends_present dependencies library n d (subst (λ z. Member d (direct dependencies library z)) e m), member_among (direct dependencies library n) d (subst (λ z. Member d (direct dependencies library z)) e m), p), inr (inl refl))
  walk_more [] n on d w (inr q) m p = absurd q
  walk_more (next ∷ rest) n on d w (inr q) m p =
      let r = walk_more rest next on d w.2 q m p in
      (next ∷ r.0, (w.0, w.1, r.1), inr r.2)

  reached_step : (x d : Name) → IsReached dependencies library name x → Member d (direct dependencies library x) → IsReached dependencies library name d
  unfolding IsWalk
  reached_step x d (inl e) m =
      let n : Member d (direct dependencies library name) = subst (λ z. Member d (direct dependencies library z)) e m in
      inr (record { rest = []; walk = depends_present dependencies library name d n; on = name; stands = member_among (name ∷ []) name (inl refl); is = inr (member_among (direct dependencies library name) d n) })
  reached_step x d (inr r) m = by r.is
    where
      by : (x ≡ r.on) ⊎ (is_among (direct dependencies library r.on) x ≡ true) → IsReached dependencies library name d
      by (inl e) = inr (record { rest = r.rest; walk = r.walk; on = r.on; stands = r.stands; is = inr (member_among (direct dependencies library r.on) d (subst (λ z. Member d (direct dependencies library z)) e m)) })
      by (inr a) =
          let q = walk_more r.rest name r.on x r.walk (among_member (name ∷ r.rest) r.on r.stands) (among_member (direct dependencies library r.on) x a) (depends_present dependencies library x d m) in
          inr (record { rest = q.0; walk = q.1; on = x; stands = member_among (name ∷ q.0) x q.2; is = inr (member_among (direct dependencies library x) d m) })

  within_reached : (k : ℕ) (x : Name) → Member x (within k) → IsReached dependencies library name x
  unfolding within reach_within
  within_reached zero x (inl e) = inl e
  within_reached zero x (inr m) = absurd m
  within_reached (suc k) x m = ⊎_elim (λ q. within_reached k x q) (λ q. reached_step q.0 x (within_reached k q.0 q.1) q.2) (in_within k x m)

  walk_closed : (names : List Name) → IsClosed names → (rest : List Name) (n on : Name) → IsWalk dependencies library n rest → Member n names → Member on (n ∷ rest) → Member on names
  unfolding IsWalk
  walk_closed names c rest n on w m (inl e) = subst (λ z. Member z names) (sym e) m
  walk_closed names c [] n on w m (inr q) = absurd q
  walk_closed names c (next ∷ rest) n on w m (inr q) = walk_closed names c rest next on w.2 (c n next m (among_member (direct dependencies library n) next w.1)) q

  reached_closed : (names : List Name) → IsClosed names → Member name names → (x : Name) → IsReached dependencies library name x → Member x names
  reached_closed names c m x (inl e) = subst (λ z. Member z names) (sym e) m
  reached_closed names c m x (inr r) = by r.is
    where
      on : Member r.on names
      on = walk_closed names c r.rest name r.on r.walk m (among_member (name ∷ r.rest) r.on r.stands)

      by : (x ≡ r.on) ⊎ (is_among (direct dependencies library r.on) x ≡ true) → Member x names
      by (inl e) = subst (λ z. Member z names) (sym e) on
      by (inr a) = c r.on x on (among_member (direct dependencies library r.on) x a)

  pub reach_decides : (x : Name) → Decides (is_among (reach dependencies library name) x) (IsReached dependencies library name x)
  unfolding within reach
  reach_decides x = (
    λ e. within_reached (length library) x (among_member (reach dependencies library name) x e),
    λ r. member_among (reach dependencies library name) x (reached_closed (reach dependencies library name) reach_closed reach_first x r),
  )

  -- a closed list with the name has its reach
  pub reach_least : (names : List Name) → IsClosed names → Member name names → (x : Name) → Member x (reach dependencies library name) → Member x names
  reach_least names c m x h = reached_closed names c m x ((reach_decides x).0 (member_among (reach dependencies library name) x h))
