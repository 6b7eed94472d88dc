-- What a binary search by name finds in a list whose names stand in byte order.
use Rattle.std.proofs.Common.{◌≡◌, ℕ, zero, suc, ◌+◌, ◌<◌, true, false, List, [], ◌∷◌, length, map, get_or, slice_get, Some, Result, Ok, Err, IfOk, IfErr, Less, Equal, Greater, refl, sym, ap, ◌∙◌, subst, arith}
use Rattle.std.specs.List.{list_all}
use Rattle.std.specs.List.Sorted.{IsSearchInRange, IsBinarySearchResult, IsSortedBy}
use Rattle.std.specs.Ordering.{nat_cmp, is_lt, is_eq, ordering_reverse}
use Rattle.std.specs.Cmp.Lexicographic.{slice_cmp, nat_list_cmp_total, texts_ties}
use Rattle.std.proofs.lemmas.Bool.{and_parts}
use Rattle.std.proofs.lemmas.List.Sorted.{searchable_from_sorted}
use Rattle.name_meaning.specs.Names.{Name, comes_before, is_ascending}
use Rattle.name_meaning.specs.Rows.{IsGap}
use Rattle.list_laws.proofs.Members.{all_at, place_member}
use Rattle.name_laws.proofs.Order.{same_sound}
use Rattle.name_laws.proofs.Rows.{not_before}

module _ {X : Type 0} (name_of : X → Name) where
  -- the item at a place
  pub item_got : (xs : List X) (i : ℕ) → i < length xs → (x : X) × (slice_get xs i ≡ Some x) × ((d : X) → get_or xs i d ≡ x)
  item_got [] i h = absurd (omega (arith, h))
  item_got (x ∷ xs) zero h = (x, refl, λ d. refl)
  item_got (x ∷ xs) (suc i) h = item_got xs i (omega (arith, h))

  pub name_got : (xs : List X) (i : ℕ) (x : X) → slice_get xs i ≡ Some x → slice_get (map name_of xs) i ≡ Some (name_of x)
  name_got [] i x h = absurd (cc)
  name_got (y ∷ xs) zero x h = let e : y ≡ x = cc in ap (λ z. Some (name_of z)) e
  name_got (y ∷ xs) (suc i) x h = name_got xs i x h

  -- the item of a name at a place
  pub got_name : (xs : List X) (i : ℕ) (n : Name) → slice_get (map name_of xs) i ≡ Some n → (i < length xs) × (x : X) × (slice_get xs i ≡ Some x) × ((d : X) → get_or xs i d ≡ x) × (name_of x ≡ n)
  got_name [] i n h = absurd (cc)
  got_name (x ∷ xs) zero n h = let e : name_of x ≡ n = cc in (omega arith, x, refl, λ d. refl, e)
  got_name (x ∷ xs) (suc i) n h = let q = got_name xs i n h in let lt = q.0 in (omega (arith, lt), q.1, q.2, q.3, q.4)

  names_long : (xs : List X) → length (map name_of xs) ≡ length xs
  names_long [] = refl
  names_long (x ∷ xs) = ap suc (names_long xs)

  next_above : (xs : List X) (i : ℕ) (d : X) → is_ascending (map name_of xs) ≡ true → suc i < length xs → comes_before (name_of (get_or xs i d)) (name_of (get_or xs (suc i) d)) ≡ true
  unfolding is_ascending
  next_above [] i d t h = absurd (omega (arith, h))
  next_above (x ∷ xs) zero d t h =
      let p = and_parts (list_all (comes_before (name_of x)) (map name_of xs)) (is_ascending (map name_of xs)) t in
      let q = item_got xs 0 (omega (arith, h)) in
      all_at (comes_before (name_of x)) (map name_of xs) (name_of (get_or xs 0 d)) p.0
      (place_member (map name_of xs) 0 (name_of (get_or xs 0 d)) (name_got xs 0 (get_or xs 0 d) (q.1 ∙ ap Some (sym (q.2 d)))))
  next_above (x ∷ xs) (suc i) d t h =
      let p = and_parts (list_all (comes_before (name_of x)) (map name_of xs)) (is_ascending (map name_of xs)) t in
      next_above xs i d p.1 (omega (arith, h))

  sorted_by_name : (xs : List X) → is_ascending (map name_of xs) ≡ true → IsSortedBy (λ (a b : X). is_lt (slice_cmp nat_cmp (name_of a) (name_of b))) xs
  sorted_by_name xs t k d low high =
      let h : suc k < length xs = omega (arith, high) in
      let e : k + 1 ≡ suc k = omega arith in
      subst (λ j. is_lt (slice_cmp nat_cmp (name_of (get_or xs j d)) (name_of (get_or xs k d))) ≡ false) (sym e)
      (not_before (name_of (get_or xs k d)) (name_of (get_or xs (suc k) d)) (next_above xs k d t h))

  -- a search by name answers a place of the name, or the place at which it would stand
  pub searched : (xs : List X) (n : Name) (r : Result ℕ ℕ) → is_ascending (map name_of xs) ≡ true → IsSearchInRange r (length xs)
      → IsBinarySearchResult (λ (x : X). slice_cmp nat_cmp (name_of x) n) xs r
      → record { found : IfOk r (λ i. slice_get (map name_of xs) i ≡ Some n); absent : IfErr r (IsGap (map name_of xs) n) }
  searched xs n (Ok i) t lt found =
      let q = item_got xs i lt in
      let e : slice_cmp nat_cmp (name_of q.0) n ≡ Equal = subst (λ (z : X). slice_cmp nat_cmp (name_of z) n ≡ Equal) (q.2 q.0) (found q.0) in
      record { found = name_got xs i q.0 q.1 ∙ ap Some (same_sound (name_of q.0) n (texts_ties (name_of q.0) n ∙ ap is_eq e)); absent = tt }
  searched xs n (Err i) t le parted =
      let parts = parted (searchable_from_sorted nat_list_cmp_total name_of xs n (sorted_by_name xs t)) in record {
        found = tt;
        absent = record {
          within = let l = names_long xs in omega (arith, le, l);
          before = λ j other lt e.
              let q = got_name xs j other e in
              ap is_lt (subst (λ z. slice_cmp nat_cmp z n ≡ Less) (ap name_of (q.3 q.1) ∙ q.4) (parts.0 j q.1 (omega arith) lt));
          behind = λ j other ge e.
              let q = got_name xs j other e in
              let g : slice_cmp nat_cmp other n ≡ Greater = subst (λ z. slice_cmp nat_cmp z n ≡ Greater) (ap name_of (q.3 q.1) ∙ q.4) (parts.1 j q.1 ge q.0) in
              ap is_lt (nat_list_cmp_total.antisymm n other ∙ ap ordering_reverse g);
        };
      }
