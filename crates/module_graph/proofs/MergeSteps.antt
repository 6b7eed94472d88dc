-- Lists of names in byte order, merged one name after another.
use Rattle.std.proofs.Common.{◌≡◌, ℕ, zero, suc, ◌≤◌, Bool, true, List, [], ◌∷◌, ◌++◌, take, drop, length, slice_get, Some, ◌⊎◌, inl, inr, ⊎_elim, cond, refl, sym, ap, ◌∙◌, subst, arith, append-nil, Result, Ok, Err, IfOk, IfErr}
use Rattle.std.specs.List.{list_all}
use Rattle.std.proofs.lemmas.Bool.{and_parts, and_from}
use Rattle.std.proofs.lemmas.List.{append_assoc}
use Rattle.std.specs.List.{insert}
use Rattle.std.specs.List.Sorted.{IsSearchInRange, IsBinarySearchResult}
use Rattle.std.specs.Ordering.{nat_cmp}
use Rattle.std.specs.Cmp.Lexicographic.{slice_cmp}
use Rattle.list_laws.proofs.Lists.{each_itself}
use Rattle.name_laws.proofs.Searching.{searched}
use Rattle.name_meaning.specs.Names.{Name, comes_before, is_ascending, with_name}
use Rattle.name_meaning.specs.Rows.{IsGap}
use Rattle.list_laws.proofs.Members.{Member, all_at, all_of, in_append, append_left, append_right, place_member}
use Rattle.list_laws.proofs.Places.{take_more, drop_here, take_drop}
use Rattle.name_laws.proofs.Order.{all_before_more, same_turned, with_present}
use Rattle.name_laws.proofs.Rows.{different, not_before}
use Rattle.module_graph.specs.Merging.{IsMerge, IsMerging}

all_front : (p : Name → Bool) (xs ys : List Name) → list_all p (xs ++ ys) ≡ true → list_all p xs ≡ true
all_front p xs ys h = all_of p xs (λ z m. all_at p (xs ++ ys) z h (append_left xs ys z m))

all_between : (p : Name → Bool) (names rest more : List Name) (x : Name) → list_all p (names ++ x ∷ rest) ≡ true → list_all p (names ++ more) ≡ true → list_all p (names ++ x ∷ more) ≡ true
all_between p names rest more x h g =
    all_of p (names ++ x ∷ more) (λ z m. ⊎_elim (λ q. all_at p (names ++ more) z g (append_left names more z q))
    (λ q. ⊎_elim (λ e. all_at p (names ++ x ∷ rest) z h (append_right names (x ∷ rest) z (inl e))) (λ w. all_at p (names ++ more) z g (append_right names more z w)) q)
    (in_append names (x ∷ more) z m))

-- names in byte order with one between them
ascending_between : (names xs ys : List Name) (x y : Name) → is_ascending (names ++ x ∷ xs) ≡ true → is_ascending (names ++ y ∷ ys) ≡ true → comes_before x y ≡ true
    → is_ascending (names ++ x ∷ y ∷ ys) ≡ true
unfolding is_ascending
ascending_between [] xs ys x y h g b =
    let q = and_parts (list_all (comes_before y) ys) (is_ascending ys) g in
    and_from (list_all (comes_before x) (y ∷ ys)) (is_ascending (y ∷ ys)) (and_from (comes_before x y) (list_all (comes_before x) ys) b (all_before_more x y ys b q.0)) g
ascending_between (n ∷ names) xs ys x y h g b =
    let p = and_parts (list_all (comes_before n) (names ++ x ∷ xs)) (is_ascending (names ++ x ∷ xs)) h in
    let q = and_parts (list_all (comes_before n) (names ++ y ∷ ys)) (is_ascending (names ++ y ∷ ys)) g in
    and_from (list_all (comes_before n) (names ++ x ∷ y ∷ ys)) (is_ascending (names ++ x ∷ y ∷ ys))
    (all_between (comes_before n) names xs (y ∷ ys) x p.0 q.0) (ascending_between names xs ys x y p.1 q.1 b)

-- one more name, and those behind it
one_on : (names more rest : List Name) (x : Name) → more ≡ x ∷ rest → is_ascending (names ++ more) ≡ true → is_ascending ((names ++ x ∷ []) ++ rest) ≡ true
one_on names more rest x e h = subst (λ z. is_ascending z ≡ true) (sym (append_assoc names (x ∷ []) rest)) (subst (λ z. is_ascending (names ++ z) ≡ true) e h)

in_more : (names : List Name) (x z : Name) → Member z (names ++ x ∷ []) → Member z names ⊎ (z ≡ x)
in_more names x z m = ⊎_elim (λ q. inl q) (λ q. ⊎_elim (λ e. inr e) (λ none. absurd none) q) (in_append names (x ∷ []) z m)

has_more : (list names : List Name) (i : ℕ) (x : Name) → slice_get list i ≡ Some x → ((z : Name) → Member z (take i list) → Member z names) → (z : Name) → Member z (take (suc i) list) → Member z (names ++ x ∷ [])
has_more list names i x here f z m =
    ⊎_elim (λ q. append_left names (x ∷ []) z (f z q)) (λ e. append_right names (x ∷ []) z (inl e)) (in_more (take i list) x z (subst (Member z) (take_more list i x here) m))

pub merging_first : (left right : List Name) → is_ascending left ≡ true → is_ascending right ≡ true → IsMerging left right 0 0 []
merging_first left right h g = record {
  left_on = h;
  right_on = g;
  comes = λ z m. absurd m;
  has_left = λ z m. absurd m;
  has_right = λ z m. absurd m;
}

pub merging_turned : (left right : List Name) (i j : ℕ) (names : List Name) → IsMerging left right i j names → IsMerging right left j i names
merging_turned left right i j names k = record {
  left_on = k.right_on;
  right_on = k.left_on;
  comes = λ z m. ⊎_elim (λ q. inr q) (λ q. inl q) (k.comes z m);
  has_left = k.has_right;
  has_right = k.has_left;
}

module _ (left right : List Name) (i j : ℕ) (names : List Name) (k : IsMerging left right i j names) (x y : Name) (own : slice_get left i ≡ Some x) (other : slice_get right j ≡ Some y) where
  pub merging_left : comes_before x y ≡ true → IsMerging left right (suc i) j (names ++ x ∷ [])
  merging_left b = record {
    left_on = one_on names (drop i left) (drop (suc i) left) x (drop_here left i x own) k.left_on;
    right_on = subst (λ z. is_ascending ((names ++ x ∷ []) ++ z) ≡ true) (sym (drop_here right j y other))
        (subst (λ z. is_ascending z ≡ true) (sym (append_assoc names (x ∷ []) (y ∷ drop (suc j) right)))
        (ascending_between names (drop (suc i) left) (drop (suc j) right) x y (subst (λ z. is_ascending (names ++ z) ≡ true) (drop_here left i x own) k.left_on)
        (subst (λ z. is_ascending (names ++ z) ≡ true) (drop_here right j y other) k.right_on) b));
    comes = λ z m. ⊎_elim (λ q. k.comes z q) (λ e. inl (subst (λ w. Member w left) (sym e) (place_member left i x own))) (in_more names x z m);
    has_left = has_more left names i x own k.has_left;
    has_right = λ z m. append_left names (x ∷ []) z (k.has_right z m);
  }

  pub merging_both : x ≡ y → IsMerging left right (suc i) (suc j) (names ++ x ∷ [])
  merging_both e = record {
    left_on = one_on names (drop i left) (drop (suc i) left) x (drop_here left i x own) k.left_on;
    right_on = one_on names (drop j right) (drop (suc j) right) x (drop_here right j x (other ∙ ap Some (sym e))) k.right_on;
    comes = λ z m. ⊎_elim (λ q. k.comes z q) (λ w. inl (subst (λ v. Member v left) (sym w) (place_member left i x own))) (in_more names x z m);
    has_left = has_more left names i x own k.has_left;
    has_right = has_more right names j x (other ∙ ap Some (sym e)) k.has_right;
  }

pub none_left : (list : List Name) (i : ℕ) → length list ≤ i → drop i list ≡ []
none_left [] zero h = refl
none_left [] (suc i) h = refl
none_left (x ∷ list) zero h = absurd (omega (arith, h))
none_left (x ∷ list) (suc i) h = none_left list i (omega (arith, h))

in_rest : (list : List Name) (i : ℕ) (z : Name) → Member z (drop i list) → Member z list
in_rest list i z m = subst (Member z) (take_drop list i) (append_right (take i list) (drop i list) z m)

by_rest : (list : List Name) (i : ℕ) (z : Name) → Member z list → Member z (take i list) ⊎ Member z (drop i list)
by_rest list i z m = in_append (take i list) (drop i list) z (subst (Member z) (sym (take_drop list i)) m)

-- what is left of either list follows, where one has nothing left
pub merging_done : (left right : List Name) (i j : ℕ) (names : List Name) → IsMerging left right i j names → (length left ≤ i) ⊎ (length right ≤ j) → IsMerge left right ((names ++ drop i left) ++ drop j right)
merging_done left right i j names k past = record {
  ascending = ⊎_elim
      (λ h. subst (λ z. is_ascending z ≡ true) (sym (ap (λ z. (names ++ z) ++ drop j right) (none_left left i h) ∙ ap (λ z. z ++ drop j right) (append-nil names))) k.right_on)
      (λ h. subst (λ z. is_ascending z ≡ true) (sym (ap (λ z. (names ++ drop i left) ++ z) (none_left right j h) ∙ append-nil (names ++ drop i left))) k.left_on)
      past;
  comes = λ z m. ⊎_elim (λ q. ⊎_elim (λ w. k.comes z w) (λ w. inl (in_rest left i z w)) (in_append names (drop i left) z q)) (λ q. inr (in_rest right j z q)) (in_append (names ++ drop i left) (drop j right) z m);
  has_left = λ z m. append_left (names ++ drop i left) (drop j right) z
      (⊎_elim (λ q. append_left names (drop i left) z (k.has_left z q)) (λ q. append_right names (drop i left) z q) (by_rest left i z m));
  has_right = λ z m. ⊎_elim (λ q. append_left (names ++ drop i left) (drop j right) z (append_left names (drop i left) z (k.has_right z q))) (λ q. append_right (names ++ drop i left) (drop j right) z q) (by_rest right j z m);
}

-- one more name, by the place where it would stand
pub gap_with : (n : Name) (names : List Name) (i : ℕ) → IsGap names n i → with_name n names ≡ insert names i n
unfolding with_name
gap_with n [] zero g = refl
gap_with n [] (suc i) g = refl
gap_with n (m ∷ names) zero g =
    let b = g.behind 0 m (omega arith) refl in
    ap (λ (c : Bool). cond c (m ∷ names) (cond (comes_before n m) (n ∷ m ∷ names) (m ∷ with_name n names))) (same_turned m n (different n m b))
    ∙ ap (λ (c : Bool). cond c (n ∷ m ∷ names) (m ∷ with_name n names)) b
gap_with n (m ∷ names) (suc i) g =
    let b = g.before 0 m (omega arith) refl in
    ap (λ (c : Bool). cond c (m ∷ names) (cond (comes_before n m) (n ∷ m ∷ names) (m ∷ with_name n names))) (different m n b)
    ∙ ap (λ (c : Bool). cond c (n ∷ m ∷ names) (m ∷ with_name n names)) (not_before m n b)
    ∙ ap (λ z. m ∷ z) (gap_with n names i (record {
      within = let w = g.within in omega (arith, w);
      before = λ j other less h. g.before (suc j) other (omega (arith, less)) h;
      behind = λ j other on h. g.behind (suc j) other (omega (arith, on)) h;
    }))

-- what a search for a name answers: it is one of the names, or it would stand at the place
module _ (names : List Name) (n : Name) (h : is_ascending names ≡ true) where
  search_told : (r : Result ℕ ℕ) → IsSearchInRange r (length names) → IsBinarySearchResult (λ (m : Name). slice_cmp nat_cmp m n) names r
      → record { found : IfOk r (λ i. slice_get names i ≡ Some n); absent : IfErr r (IsGap names n) }
  search_told r range position =
      subst (λ z. record { found : IfOk r (λ i. slice_get z i ≡ Some n); absent : IfErr r (IsGap z n) }) (each_itself names)
      (searched (λ (m : Name). m) names n r (ap is_ascending (each_itself names) ∙ h) range position)

  pub search_found : (r : Result ℕ ℕ) (i : ℕ) → r ≡ Ok i → IsSearchInRange r (length names) → IsBinarySearchResult (λ (m : Name). slice_cmp nat_cmp m n) names r → with_name n names ≡ names
  search_found r i e range position =
      with_present n names h (place_member names i n (subst (λ (z : Result ℕ ℕ). IfOk z (λ i. slice_get names i ≡ Some n)) e (search_told r range position).found))

  pub search_missing : (r : Result ℕ ℕ) (i : ℕ) → r ≡ Err i → IsSearchInRange r (length names) → IsBinarySearchResult (λ (m : Name). slice_cmp nat_cmp m n) names r → with_name n names ≡ insert names i n
  search_missing r i e range position =
      gap_with n names i (subst (λ (z : Result ℕ ℕ). IfErr z (IsGap names n)) e (search_told r range position).absent)
