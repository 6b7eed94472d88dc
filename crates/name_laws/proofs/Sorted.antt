-- Distinct names that are sorted stand in byte order, and each at one place.
use Rattle.std.proofs.Common.{◌≡◌, ℕ, zero, suc, ◌+◌, true, false, List, [], ◌∷◌, get_or, slice_get, Some, refl, ap, subst, arith}
use Rattle.std.specs.List.{list_all, IsDistinct}
use Rattle.std.specs.List.Sorted.{IsSorted}
use Rattle.std.specs.Ordering.{nat_cmp, is_lt}
use Rattle.std.specs.Cmp.Lexicographic.{slice_cmp}
use Rattle.std.proofs.lemmas.Bool.{and_from, and_parts}
use Rattle.name_meaning.specs.Names.{Name, same_name, comes_before, is_ascending}
use Rattle.list_laws.proofs.Members.{all_at, place_member}
use Rattle.name_laws.proofs.Order.{same_turned, before_turned, all_before_more, not_before_itself}

sorted_tail : (x : Name) (xs : List Name) → IsSorted (slice_cmp nat_cmp) (x ∷ xs) → IsSorted (slice_cmp nat_cmp) xs
sorted_tail x xs h k d low high =
    let e : suc k + 1 ≡ suc (k + 1) = omega arith in
    subst (λ j. is_lt (slice_cmp nat_cmp (get_or (x ∷ xs) j d) (get_or xs k d)) ≡ false) e (h (suc k) d (omega arith) (omega (arith, high)))

pub sorted_ascending : (xs : List Name) → IsSorted (slice_cmp nat_cmp) xs → IsDistinct same_name xs → is_ascending xs ≡ true
unfolding is_ascending IsDistinct
sorted_ascending [] s d = refl
sorted_ascending (x ∷ []) s d = refl
sorted_ascending (x ∷ y ∷ xs) s d =
    let tail = sorted_ascending (y ∷ xs) (sorted_tail x (y ∷ xs) s) d.1 in
    let b : comes_before x y ≡ true = before_turned y x (same_turned x y d.0.0) (s 0 x (omega arith) (omega arith)) in
    let p = and_parts (list_all (comes_before y) xs) (is_ascending xs) tail in
    and_from (list_all (comes_before x) (y ∷ xs)) (is_ascending (y ∷ xs)) (and_from (comes_before x y) (list_all (comes_before x) xs) b (all_before_more x y xs b p.0)) tail

-- a name stands at one place alone
pub one_place : (names : List Name) (i k : ℕ) (n : Name) → is_ascending names ≡ true → slice_get names i ≡ Some n → slice_get names k ≡ Some n → i ≡ k
unfolding is_ascending
one_place [] i k n t h g = absurd (cc)
one_place (x ∷ names) zero zero n t h g = refl
one_place (x ∷ names) zero (suc k) n t h g =
    let e : x ≡ n = cc in
    absurd (not_before_itself n (subst (λ z. comes_before z n ≡ true) e (all_at (comes_before x) names n (and_parts (list_all (comes_before x) names) (is_ascending names) t).0 (place_member names k n g))))
one_place (x ∷ names) (suc i) zero n t h g =
    let e : x ≡ n = cc in
    absurd (not_before_itself n (subst (λ z. comes_before z n ≡ true) e (all_at (comes_before x) names n (and_parts (list_all (comes_before x) names) (is_ascending names) t).0 (place_member names i n h))))
one_place (x ∷ names) (suc i) (suc k) n t h g = ap suc (one_place names i k n (and_parts (list_all (comes_before x) names) (is_ascending names) t).1 h g)
