-- A search among names in byte order tells whether the name is among them.
use Rattle.std.proofs.Common.{◌≡◌, ℕ, true, List, Result, Ok, Err, IfOk, IfErr, is_ok, length, map, slice_get, Some, sym, ap, ◌∙◌, subst}
use Rattle.std.specs.List.Sorted.{IsSearchInRange, IsBinarySearchResult}
use Rattle.std.specs.Ordering.{nat_cmp}
use Rattle.std.specs.Cmp.Lexicographic.{slice_cmp}
use Rattle.std.proofs.lemmas.Bool.{false_from_ne_true}
use Rattle.name_meaning.specs.Names.{Name, is_ascending, is_among}
use Rattle.name_meaning.specs.Rows.{IsGap}
use Rattle.list_laws.proofs.Lists.{each_itself}
use Rattle.list_laws.proofs.Members.{place_member}
use Rattle.name_laws.proofs.Order.{among_member, member_among}
use Rattle.name_laws.proofs.Searching.{searched}
use Rattle.name_laws.proofs.Rows.{gap_absent}

pub found_among : (names : List Name) (n : Name) (r : Result ℕ ℕ) → is_ascending names ≡ true → IsSearchInRange r (length names)
    → IsBinarySearchResult (λ (m : Name). slice_cmp nat_cmp m n) names r → is_ok r ≡ is_among names n
found_among names n r t range found = by r (searched (λ (m : Name). m) names n r (ap is_ascending (each_itself names) ∙ t) range found)
  where
    by : (r : Result ℕ ℕ) → record { found : IfOk r (λ i. slice_get (map (λ (m : Name). m) names) i ≡ Some n); absent : IfErr r (IsGap (map (λ (m : Name). m) names) n) } → is_ok r ≡ is_among names n
    by (Ok i) s = sym (member_among names n (place_member names i n (ap (λ z. slice_get z i) (sym (each_itself names)) ∙ s.found)))
    by (Err i) s = sym (false_from_ne_true (is_among names n) (λ a. gap_absent n names i (subst (λ z. IsGap z n i) (each_itself names) s.absent) (among_member names n a)))
