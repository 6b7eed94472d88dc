-- The order in which the grounded modules of a library are judged: each comes behind the others that it reaches.
use Rattle.std.proofs.Common.{◌≡◌, ℕ, zero, suc, ◌<◌, ◌≤◌, ◌+◌, ◌-◌, get_or, map, Option, None, Bool, true, false, not, List, [], ◌∷◌, ◌++◌, length, take, drop, filter, slice_get, Some, inl, inr, ⊎_elim, refl, sym, ap, ◌∙◌, subst, true≢false, arith}
use Rattle.std.specs.Prelude.{option_map}
use Rattle.std.specs.List.{list_all, IsDistinct, AllByRecursion, Contains}
use Rattle.std.specs.List.Sorted.{IsPermutation}
use Rattle.std.specs.declared.cmp.Ordering.{Ordering}
use Rattle.std.specs.declared.cmp.Ordering.TheVariants.{Less}
use Rattle.std.specs.Ordering.{is_lt, nat_cmp, ordering_then}
use Rattle.std.specs.Cmp.{nat_cmp_is}
use Rattle.std.proofs.lemmas.Bool.{and_parts, and_from, not_from_false, false_from_ne_true, cases_Bool, cases_lt}
use Rattle.std.proofs.lemmas.List.Sorted.{Contains-permutation, IsPermutation-sym}
use Rattle.std.proofs.lemmas.Map.Keys.{IsDistinct-IsPermutation}
use Rattle.std.proofs.lemmas.Option.{same_Some, slice_get-get_or, slice_get-map}
use Rattle.list_laws.proofs.Members.{Member, in_filter, filter_in, in_append, append_left, append_right, in_map, member_place, place_member}
use Rattle.list_laws.proofs.Places.{place_within, split_at, get_take}
use Rattle.name_meaning.specs.Names.{Name, same_name, comes_before, is_among, is_ascending}
use Rattle.name_laws.proofs.Order.{among_member, member_among, same_itself, same_turned, ascending_filtered}
use Rattle.name_laws.proofs.Rows.{different}
use Rattle.edit_log_meaning.specs.Log.{Library, names_of, is_present}
use Rattle.module_graph_meaning.specs.Walks.{is_grounded, is_ungrounded, ungrounded_names, walking}
use Rattle.module_graph_meaning.specs.Reach.{reach}
use Rattle.module_graph_meaning.specs.Graphs.{Graph, HoldsDependencies, graph_reach}
use Rattle.module_graph_laws.proofs.Graphs.{graph_reaches}
use Rattle.module_graph_laws.proofs.Reaching.{one_list, reach_ascending, reach_first}
use Rattle.module_graph_laws.proofs.Walking.{filter_shorter, present_in, ungrounded_in}
use Rattle.text_meaning.specs.Dependencies.{dependencies}
use Rattle.verdict_meaning.specs.Rounds.{others_reached}
use Rattle.coherence_laws.proofs.LibrariesHold.{grounded_short}
use Rattle.verdict_laws.proofs.Rounds.{in_others}
use Rattle.verdict_laws.proofs.Shortness.{Short, short_more, short_reached, reach_within_reach}
use Rattle.verdict_laws.proofs.Verdicts.{not_ungrounded, among_ungrounded}
use Rattle.module_check.specs.JudgingOrders.{RisesInReach, HasReachOf, HaveAll}

-- ---- what a grounded name reaches

module _ (library : Library) where
  pub grounded_present : (n : Name) → is_grounded dependencies library n ≡ true → is_present library n ≡ true
  grounded_present n g = (and_parts (is_present library n) (not (is_ungrounded dependencies library n)) g).0

  -- A present name that a grounded one reaches is grounded.
  pub grounded_reached : (n other : Name) → is_grounded dependencies library n ≡ true → is_among (others_reached library n) other ≡ true → is_present library other ≡ true → is_grounded dependencies library other ≡ true
  grounded_reached n other g h p =
      let o = in_others library n other h in
      let s = short_reached dependencies library (length library) n other (short_more dependencies library (length library) n (grounded_short library n g)) o.0 o.1 in
      and_from (is_present library other) (not (is_ungrounded dependencies library other)) p
      (not_from_false (is_ungrounded dependencies library other) (false_from_ne_true (is_ungrounded dependencies library other) (λ u. s (ungrounded_in dependencies library other u))))

  -- No way leads back.
  module _ (n other : Name) (p : is_present library n ≡ true) (q : is_present library other ≡ true) (m : Member other (reach dependencies library n)) (f : same_name n other ≡ false) (back : Member n (reach dependencies library other)) where
    pub no_way_back : (k : ℕ) → Short dependencies library k n → ⊥
    unfolding walking
    no_way_back zero s = s (present_in dependencies library n p)
    no_way_back (suc zero) s = short_reached dependencies library zero n other s m f (present_in dependencies library other q)
    no_way_back (suc (suc k)) s = no_way_back k (short_reached dependencies library k other n (short_reached dependencies library (suc k) n other s m f) back (same_turned n other f))

  every : (xs : List Name) → filter (λ (x : Name). true) xs ≡ xs
  every [] = refl
  every (x ∷ xs) = ap (λ z. x ∷ z) (every xs)

  -- It reaches fewer names.
  reaches_less : (n other : Name) → is_grounded dependencies library n ≡ true → is_among (others_reached library n) other ≡ true → is_present library other ≡ true
      → length (reach dependencies library other) < length (reach dependencies library n)
  reaches_less n other g h q =
      let o = in_others library n other h in
      let xs = reach dependencies library n in
      let ys = reach dependencies library other in
      let kept : filter (is_among ys) xs ≡ ys =
      one_list (filter (is_among ys) xs) ys (ascending_filtered (is_among ys) xs (reach_ascending dependencies library n)) (reach_ascending dependencies library other)
      (λ z m. among_member ys z (in_filter (is_among ys) xs z m).1)
      (λ z m. filter_in (is_among ys) xs z (reach_within_reach dependencies library n other o.0 z m) (member_among ys z m)) in
      let apart : is_among ys n ≡ false =
      false_from_ne_true (is_among ys n) (λ e. no_way_back n other (grounded_present n g) q o.0 o.1 (among_member ys n e) (length library) (grounded_short library n g)) in
      let less = filter_shorter (λ (x : Name). true) (is_among ys) xs n (λ z m e. refl) (reach_first dependencies library n) refl apart in
      subst (λ (z : List Name). length z < length xs) kept (subst (λ (z : List Name). length (filter (is_among ys) xs) < length z) (every xs) less)

-- ---- lists with the same names

member_contained : {A : Type 0} (xs : List A) (x : A) → Member x xs → Contains xs x
member_contained xs x m =
    let p = member_place xs x m in
    let w = place_within xs p.0 x p.1 in
    (p.0, w, same_Some _ _ (sym (slice_get-get_or xs p.0 x w) ∙ p.1))

contained_member : {A : Type 0} (xs : List A) (x : A) → Contains xs x → Member x xs
contained_member xs x c = place_member xs c.0 x (slice_get-get_or xs c.0 x c.1 ∙ ap Some c.2)

moved : {A : Type 0} (xs ys : List A) → IsPermutation xs ys → (x : A) → Member x xs → Member x ys
moved xs ys same x m = contained_member ys x (Contains-permutation xs ys x same (member_contained xs x m))

pub ascending_distinct : (names : List Name) → is_ascending names ≡ true → IsDistinct same_name names
unfolding IsDistinct is_ascending
ascending_distinct [] h = tt
ascending_distinct (x ∷ xs) h = let p = and_parts (list_all (comes_before x) xs) (is_ascending xs) h in (apart xs p.0, ascending_distinct xs p.1)
  where
    apart : (ys : List Name) → list_all (comes_before x) ys ≡ true → AllByRecursion (λ y. same_name x y ≡ false) ys
    apart [] e = tt
    apart (y ∷ ys) e = let p = and_parts (comes_before x y) (list_all (comes_before x) ys) e in (same_turned y x (different x y p.0), apart ys p.1)

distinct_before : (xs ys : List Name) (n : Name) → IsDistinct same_name (xs ++ n ∷ ys) → Member n xs → ⊥
unfolding IsDistinct
distinct_before [] ys n d m = m
distinct_before (x ∷ xs) ys n d (inl e) = true≢false (sym (same_itself n) ∙ ap (λ z. same_name z n) e ∙ all_there (xs ++ n ∷ ys) d.0 (append_right xs (n ∷ ys) n (inl refl)))
  where
    all_there : (zs : List Name) → AllByRecursion (λ y. same_name x y ≡ false) zs → Member n zs → same_name x n ≡ false
    all_there [] a m = absurd m
    all_there (z ∷ zs) a (inl e) = ap (same_name x) e ∙ a.0
    all_there (z ∷ zs) a (inr m) = all_there zs a.1 m
distinct_before (x ∷ xs) ys n d (inr m) = distinct_before xs ys n d.1 m

-- The name at a place of different names is not among those before it.
pub fresh_at : (names : List Name) (i : ℕ) (n : Name) → IsDistinct same_name names → slice_get names i ≡ Some n → is_among (take i names) n ≡ false
fresh_at names i n d here =
    false_from_ne_true (is_among (take i names) n)
    (λ e. distinct_before (take i names) (drop (suc i) names) n (subst (IsDistinct same_name) (split_at names i n here) d) (among_member (take i names) n e))

-- ---- by number

-- A pair that is not less than another one does not begin with a smaller number.
pub not_smaller : (a b : ℕ) (o : Ordering) → is_lt (ordering_then (nat_cmp a b) o) ≡ false → b ≤ a
not_smaller a b o h = ⊎_elim (λ l. absurd (true≢false (ap (λ r. is_lt (ordering_then r o)) (nat_cmp_is a b Less l) ∙ h))) (λ l. l) (cases_lt a b)

-- What stands behind numbers.
pub uncounted_names : (count : Name → ℕ) (names : List Name) → map (λ (item : ℕ × Name). item.1) (map (λ (name : Name). (count name, name)) names) ≡ names
uncounted_names count [] = refl
uncounted_names count (name ∷ names) = ap (λ z. name ∷ z) (uncounted_names count names)

pub counted_by : (count : Name → ℕ) (names : List Name) (items : List (ℕ × Name)) → IsPermutation (map (λ (name : Name). (count name, name)) names) items → (item : ℕ × Name) → Member item items → item.0 ≡ count item.1
counted_by count names items same item m =
    let q = in_map (λ (name : Name). (count name, name)) names item (moved items (map (λ (name : Name). (count name, name)) names) (IsPermutation-sym (map (λ (name : Name). (count name, name)) names) items same) item m) in
    ap (λ z. z.0) q.2 ∙ ap (λ z. count z.1) (sym q.2)

module _ (graph : Graph) (items : List (ℕ × Name)) (counts : (item : ℕ × Name) → Member item items → item.0 ≡ length (graph_reach graph item.1)) (next : (k : ℕ) (x y : ℕ × Name) → slice_get items k ≡ Some x → slice_get items (suc k) ≡ Some y → x.0 ≤ y.0) where
  far : (d i j : ℕ) (x y : ℕ × Name) → j ≡ d + i → slice_get items i ≡ Some x → slice_get items j ≡ Some y → x.0 ≤ y.0
  far zero i j x y q h g =
      let same : i ≡ j = omega (arith, q) in
      let e : x ≡ y = same_Some _ _ (sym h ∙ ap (slice_get items) same ∙ g) in
      subst (λ (z : ℕ × Name). x.0 ≤ z.0) e (omega arith)
  far (suc d) i j x y q h g =
      let k = d + i in
      let after : j ≡ suc k = omega (arith, q) in
      let w = place_within items j y g in
      let b = slice_get-get_or items k y (omega (arith, w, after)) in
      let l = far d i k x (get_or items k y) refl h b in
      let m = next k (get_or items k y) y b (ap (slice_get items) (sym after) ∙ g) in
      omega (arith, l, m)

  -- Names behind numbers that do not fall, each the number of names that it reaches.
  pub rises_by : RisesInReach graph (map (λ (item : ℕ × Name). item.1) items)
  rises_by i j name other l h g =
      let x = at i name h in
      let y = at j other g in
      let r = far (j - i) i j x.0 y.0 (omega (arith, l)) x.1 y.1 in
      let a = counts x.0 (place_member items i x.0 x.1) ∙ ap (λ z. length (graph_reach graph z)) x.2 in
      let b = counts y.0 (place_member items j y.0 y.1) ∙ ap (λ z. length (graph_reach graph z)) y.2 in
      omega (arith, r, a, b)
    where
      at : (k : ℕ) (n : Name) → slice_get (map (λ (item : ℕ × Name). item.1) items) k ≡ Some n → (item : ℕ × Name) × (slice_get items k ≡ Some item) × (item.1 ≡ n)
      at k n e = by (slice_get items k) refl (sym (slice_get-map (λ (item : ℕ × Name). item.1) items k) ∙ e)
        where
          by : (o : Option (ℕ × Name)) → slice_get items k ≡ o → option_map (λ (item : ℕ × Name). item.1) o ≡ Some n → (item : ℕ × Name) × (slice_get items k ≡ Some item) × (item.1 ≡ n)
          by None p q = absurd (cc)
          by (Some item) p q = (item, p, same_Some _ _ q)

-- ---- the order

module _ (library : Library) (graph : Graph) (holds : HoldsDependencies graph dependencies library) (ordered : is_ascending (names_of library) ≡ true) (known order : List Name) (are : known ≡ filter (is_grounded dependencies library) (names_of library)) (same : IsPermutation known order) (rises : RisesInReach graph order) where
  grounded_there : (n : Name) → is_grounded dependencies library n ≡ true → Member n order
  grounded_there n g =
      moved known order same n (subst (Member n) (sym are) (filter_in (is_grounded dependencies library) (names_of library) n (present_in dependencies library n (grounded_present library n g)) g))

  pub order_grounded : (i : ℕ) (n : Name) → slice_get order i ≡ Some n → is_grounded dependencies library n ≡ true
  order_grounded i n here =
      (in_filter (is_grounded dependencies library) (names_of library) n (subst (Member n) are (moved order known (IsPermutation-sym known order same) n (place_member order i n here)))).1

  order_distinct : IsDistinct same_name order
  order_distinct =
      IsDistinct-IsPermutation same_name turned known order same
      (subst (IsDistinct same_name) (sym are) (ascending_distinct (filter (is_grounded dependencies library) (names_of library)) (ascending_filtered (is_grounded dependencies library) (names_of library) ordered)))
    where
      turned : (x y : Name) → same_name x y ≡ same_name y x
      turned x y = by (same_name x y) (same_name y x) refl refl
        where
          by : (b c : Bool) → same_name x y ≡ b → same_name y x ≡ c → b ≡ c
          by true true e f = refl
          by false false e f = refl
          by true false e f = absurd (true≢false (sym e ∙ same_turned y x f))
          by false true e f = absurd (true≢false (sym f ∙ same_turned x y e))

  -- The name at a place is not among those before it, nor is it ungrounded.
  pub order_fresh : (i : ℕ) (n : Name) → slice_get order i ≡ Some n → is_among (ungrounded_names dependencies library ++ take i order) n ≡ false
  order_fresh i n here = false_from_ne_true _ (λ e. ⊎_elim bad front (in_append (ungrounded_names dependencies library) (take i order) n (among_member (ungrounded_names dependencies library ++ take i order) n e)))
    where
      bad : Member n (ungrounded_names dependencies library) → ⊥
      bad m = true≢false (sym (member_among (ungrounded_names dependencies library) n m) ∙ not_ungrounded library n (order_grounded i n here))

      front : Member n (take i order) → ⊥
      front m = true≢false (sym (member_among (take i order) n m) ∙ fresh_at order i n order_distinct here)

  -- What it reaches stands before it.
  pub order_reached : (i : ℕ) (n : Name) → slice_get order i ≡ Some n → HasReachOf library (ungrounded_names dependencies library ++ take i order) n
  order_reached i n here other h p =
      let g = order_grounded i n here in
      let w = member_place order other (grounded_there other (grounded_reached library n other g h p)) in
      member_among (ungrounded_names dependencies library ++ take i order) other (append_right (ungrounded_names dependencies library) (take i order) other
      (⊎_elim (λ l. place_member (take i order) w.0 other (get_take order w.0 i l ∙ w.1)) (λ l. absurd (late w.0 other w.1 h p g l)) (cases_lt w.0 i)))
    where
      late : (j : ℕ) (other : Name) → slice_get order j ≡ Some other → is_among (others_reached library n) other ≡ true → is_present library other ≡ true → is_grounded dependencies library n ≡ true → i ≤ j → ⊥
      late j other there h p g l =
          let a = rises i j n other l here there in
          let b = reaches_less library n other g h p in
          let c = ap length (graph_reaches graph dependencies library holds n) in
          let d = ap length (graph_reaches graph dependencies library holds other) in
          omega (arith, a, b, c, d)

  -- In the end all present names are there.
  pub order_whole : HaveAll library (ungrounded_names dependencies library ++ order)
  order_whole n p =
      member_among (ungrounded_names dependencies library ++ order) n
      (⊎_elim (λ u. append_left (ungrounded_names dependencies library) order n (among_member (ungrounded_names dependencies library) n (among_ungrounded library n u)))
      (λ u. append_right (ungrounded_names dependencies library) order n (grounded_there n (and_from (is_present library n) (not (is_ungrounded dependencies library n)) p (not_from_false (is_ungrounded dependencies library n) u))))
      (cases_Bool (is_ungrounded dependencies library n)))
