-- Texts that are sorted, seen as their bytes.
use Rattle.std.proofs.Common.{◌≡◌, ◌≢◌, ◌+◌, ◌<◌, Bool, true, false, cond, List, [], ◌∷◌, length, map, filter, AllPairs, IsPermutation, refl, sym, ap, ◌∙◌, subst, arith}
use Rattle.std.specs.List.Sorted.{IsSorted}
use Rattle.std.specs.Ordering.{nat_cmp, is_lt}
use Rattle.std.specs.Cmp.Lexicographic.{slice_cmp}
use Rattle.std.specs.String.{string_bytes, string_cmp}
use Rattle.std.specs.declared.string.String.{String}
use Rattle.std.proofs.lemmas.List.{get_or-map, length-map}
use Rattle.std.proofs.lemmas.List.Kept.{AllPairs-filter}
use Rattle.std.proofs.lemmas.List.Sorted.{IsPermutation-map, list_any-IsPermutation}
use Rattle.std.proofs.lemmas.Map.Keys.{IsDistinct-IsPermutation}
use Rattle.std.proofs.lemmas.Map.Made.{IsDistinct-from_AllPairs}
use Rattle.std.proofs.lemmas.Slice.Eq.{bytes_eq-Decides}
use Rattle.name_meaning.specs.Names.{Name, same_name, is_among}
use Rattle.list_laws.proofs.Members.{Member, in_filter, filter_in}
use Rattle.name_laws.proofs.Contained.{same_other_way}
use Rattle.name_laws.proofs.Sorted.{sorted_ascending}
use Rattle.name_laws.proofs.Order.{among_member, member_among}
use Rattle.folder_load.specs.Loads.{is_module_name, AreInOrder}
use Rattle.folder_load.proofs.Contained.{member_contains, contains_member}

-- ---- texts

module _ {Z : Type 0} where
  sorted_bytes : (xs : List (String Z)) → IsSorted string_cmp xs → IsSorted (slice_cmp nat_cmp) (map string_bytes xs)
  sorted_bytes [] h k d low high = absurd (omega (arith, high))
  sorted_bytes (x ∷ xs) h k d low high =
      let within : k + 1 < length (x ∷ xs) = omega (arith, high, length-map (x ∷ xs) (string_bytes {Z = Z})) in
      let first = get_or-map string_bytes (x ∷ xs) k x d (omega (arith, within)) in
      let second = get_or-map string_bytes (x ∷ xs) (k + 1) x d within in
      (λ i. is_lt (slice_cmp nat_cmp (second i) (first i))) ∙ h k x low within

  filtered_bytes : (xs : List (String Z)) → map string_bytes (filter (λ x. is_module_name (string_bytes x)) xs) ≡ filter is_module_name (map string_bytes xs)
  filtered_bytes [] = refl
  filtered_bytes (x ∷ xs) = by (is_module_name (string_bytes x)) (filtered_bytes xs)
    where
      by : (b : Bool) → map string_bytes (filter (λ x. is_module_name (string_bytes x)) xs) ≡ filter is_module_name (map string_bytes xs)
          → map string_bytes (cond b (x ∷ filter (λ x. is_module_name (string_bytes x)) xs) (filter (λ x. is_module_name (string_bytes x)) xs))
          ≡ cond b (string_bytes x ∷ filter is_module_name (map string_bytes xs)) (filter is_module_name (map string_bytes xs))
      by true h = ap (λ names. string_bytes x ∷ names) h
      by false h = h

  module _ (names kept ordered : List (String Z)) (filtered : kept ≡ filter (λ x. is_module_name (string_bytes x)) names) (moved : IsPermutation kept ordered) (sorted : IsSorted string_cmp ordered) where
    kept_are : map string_bytes kept ≡ filter is_module_name (map string_bytes names)
    kept_are = ap (map string_bytes) filtered ∙ filtered_bytes names

    bytes_moved : IsPermutation (map string_bytes kept) (map string_bytes ordered)
    bytes_moved = IsPermutation-map string_bytes kept ordered moved

    among_both : (name : Name) → is_among (map string_bytes kept) name ≡ is_among (map string_bytes ordered) name
    unfolding is_among
    among_both name = list_any-IsPermutation (same_name name) (map string_bytes kept) (map string_bytes ordered) bytes_moved

    pub are_in_order : AreInOrder (map string_bytes names) (map string_bytes ordered)
    are_in_order = record {
      ascending = λ once.
          let apart = subst (AllPairs (λ a b. a ≢ b)) (sym kept_are) (AllPairs-filter (λ a b. a ≢ b) is_module_name (map string_bytes names) once) in
          let distinct = IsDistinct-from_AllPairs {eq = same_name} bytes_eq-Decides (map string_bytes kept) apart in
          sorted_ascending (map string_bytes ordered) (sorted_bytes ordered sorted)
          (IsDistinct-IsPermutation same_name same_other_way (map string_bytes kept) (map string_bytes ordered) bytes_moved distinct);
      each = λ name. (
        λ at.
            let m = among_member (map string_bytes kept) name (among_both name ∙ member_among (map string_bytes ordered) name (contains_member (map string_bytes ordered) name at)) in
            let p = in_filter is_module_name (map string_bytes names) name (subst (Member name) kept_are m) in
            (member_contains (map string_bytes names) name p.0, p.1),
        λ p.
            let m = filter_in is_module_name (map string_bytes names) name (contains_member (map string_bytes names) name p.0) p.1 in
            member_contains (map string_bytes ordered) name
            (among_member (map string_bytes ordered) name (sym (among_both name) ∙ member_among (map string_bytes kept) name (subst (Member name) (sym kept_are) m))),
      );
    }
