-- Members of lists, and what a test of a whole list says of them.
use Rattle.std.proofs.Common.{◌≡◌, Bool, true, false, List, [], ◌∷◌, ◌++◌, length, map, filter, filter_map, find, flat_map, Option, Some, None, is_some, ◌&&◌, cond, ◌⊎◌, inl, inr, ⊎_elim, refl, sym, ap, ◌∙◌, subst, true≢false}
use Rattle.std.specs.Prelude.{ℕ, zero, suc, slice_get}
use Rattle.std.specs.List.{list_any, list_all, cons_option}
use Rattle.std.proofs.lemmas.Option.{same_Some}
use Rattle.std.proofs.lemmas.Bool.{cases_Bool, or_cases, or_left, or_right, and_from, and_parts}

module _ {A : Type 0} where
  abbrev pub Member : A → List A → Type 0
  Member x [] = ⊥
  Member x (y ∷ ys) = (x ≡ y) ⊎ Member x ys

  pub member_place : (xs : List A) (x : A) → Member x xs → (i : ℕ) × (slice_get xs i ≡ Some x)
  member_place [] x m = absurd m
  member_place (y ∷ ys) x (inl e) = (zero, ap Some (sym e))
  member_place (y ∷ ys) x (inr m) = let p = member_place ys x m in (suc p.0, p.1)

  pub any_found : (p : A → Bool) (xs : List A) → list_any p xs ≡ true → (x : A) × Member x xs × (p x ≡ true)
  any_found p [] h = absurd (true≢false (sym h))
  any_found p (x ∷ xs) h = ⊎_elim (λ e. (x, inl refl, e)) (λ e. let f = any_found p xs e in (f.0, inr f.1, f.2)) (or_cases (p x) (list_any p xs) h)

  pub any_of : (p : A → Bool) (xs : List A) (x : A) → Member x xs → p x ≡ true → list_any p xs ≡ true
  any_of p [] x m h = absurd m
  any_of p (y ∷ ys) x (inl e) h = or_left (p y) (list_any p ys) (subst (λ z. p z ≡ true) e h)
  any_of p (y ∷ ys) x (inr m) h = or_right (p y) (list_any p ys) (any_of p ys x m h)

  pub all_at : (p : A → Bool) (xs : List A) (x : A) → list_all p xs ≡ true → Member x xs → p x ≡ true
  all_at p [] x h m = absurd m
  all_at p (y ∷ ys) x h (inl e) = subst (λ z. p z ≡ true) (sym e) (and_parts (p y) (list_all p ys) h).0
  all_at p (y ∷ ys) x h (inr m) = all_at p ys x (and_parts (p y) (list_all p ys) h).1 m

  pub all_of : (p : A → Bool) (xs : List A) → ((x : A) → Member x xs → p x ≡ true) → list_all p xs ≡ true
  all_of p [] h = refl
  all_of p (y ∷ ys) h = and_from (p y) (list_all p ys) (h y (inl refl)) (all_of p ys (λ x m. h x (inr m)))

  -- one of the elements fails a test that not all pass
  pub all_not : (p : A → Bool) (xs : List A) → list_all p xs ≡ false → (x : A) × Member x xs × (p x ≡ false)
  all_not p [] h = absurd (true≢false h)
  all_not p (y ∷ ys) h = ⊎_elim (λ e. let f = all_not p ys (by e) in (f.0, inr f.1, f.2)) (λ e. (y, inl refl, e)) (cases_Bool (p y))
    where
      by : p y ≡ true → list_all p ys ≡ false
      by e = subst (λ b. (b && list_all p ys) ≡ false) e h

  pub any_not : (p : A → Bool) (xs : List A) (x : A) → list_any p xs ≡ false → Member x xs → p x ≡ false
  any_not p xs x h m = ⊎_elim (λ e. absurd (true≢false (sym (any_of p xs x m e) ∙ h))) (λ e. e) (cases_Bool (p x))

  pub any_none : (p : A → Bool) (xs : List A) → ((x : A) → Member x xs → p x ≡ false) → list_any p xs ≡ false
  any_none p xs h = ⊎_elim (λ e. let f = any_found p xs e in absurd (true≢false (sym f.2 ∙ h f.0 f.1))) (λ e. e) (cases_Bool (list_any p xs))

  in_cond : (b : Bool) (y : A) (ys : List A) (x : A) → Member x (cond b (y ∷ ys) ys) → ((b ≡ true) × (x ≡ y)) ⊎ Member x ys
  in_cond true y ys x (inl e) = inl (refl, e)
  in_cond true y ys x (inr m) = inr m
  in_cond false y ys x m = inr m

  cond_first : (b : Bool) (y : A) (ys : List A) → b ≡ true → Member y (cond b (y ∷ ys) ys)
  cond_first true y ys e = inl refl
  cond_first false y ys e = absurd (true≢false (sym e))

  cond_rest : (b : Bool) (y : A) (ys : List A) (x : A) → Member x ys → Member x (cond b (y ∷ ys) ys)
  cond_rest true y ys x m = inr m
  cond_rest false y ys x m = m

  pub in_filter : (p : A → Bool) (xs : List A) (x : A) → Member x (filter p xs) → Member x xs × (p x ≡ true)
  in_filter p [] x m = absurd m
  in_filter p (y ∷ ys) x m =
      ⊎_elim (λ q. (inl q.1, subst (λ z. p z ≡ true) (sym q.1) q.0)) (λ n. let q = in_filter p ys x n in (inr q.0, q.1)) (in_cond (p y) y (filter p ys) x m)

  pub filter_in : (p : A → Bool) (xs : List A) (x : A) → Member x xs → p x ≡ true → Member x (filter p xs)
  filter_in p [] x m h = absurd m
  filter_in p (y ∷ ys) x (inl e) h = subst (λ z. Member z (filter p (y ∷ ys))) (sym e) (cond_first (p y) y (filter p ys) (subst (λ z. p z ≡ true) e h))
  filter_in p (y ∷ ys) x (inr m) h = cond_rest (p y) y (filter p ys) x (filter_in p ys x m h)

  pub in_append : (xs ys : List A) (x : A) → Member x (xs ++ ys) → Member x xs ⊎ Member x ys
  in_append [] ys x m = inr m
  in_append (z ∷ zs) ys x (inl e) = inl (inl e)
  in_append (z ∷ zs) ys x (inr m) = ⊎_elim (λ n. inl (inr n)) (λ n. inr n) (in_append zs ys x m)

  pub append_left : (xs ys : List A) (x : A) → Member x xs → Member x (xs ++ ys)
  append_left [] ys x m = absurd m
  append_left (z ∷ zs) ys x (inl e) = inl e
  append_left (z ∷ zs) ys x (inr m) = inr (append_left zs ys x m)

  pub append_right : (xs ys : List A) (x : A) → Member x ys → Member x (xs ++ ys)
  append_right [] ys x m = m
  append_right (z ∷ zs) ys x m = inr (append_right zs ys x m)

  in_found : (b : Bool) (y : A) (found : Option A) (x : A) → cond b (Some y) found ≡ Some x → ((b ≡ true) × (x ≡ y)) ⊎ (found ≡ Some x)
  in_found true y found x e = inl (refl, cc)
  in_found false y found x e = inr e

  found_first : (b : Bool) (y : A) (found : Option A) → b ≡ true → is_some (cond b (Some y) found) ≡ true
  found_first true y found e = refl
  found_first false y found e = absurd (true≢false (sym e))

  found_rest : (b : Bool) (y : A) (found : Option A) → is_some found ≡ true → is_some (cond b (Some y) found) ≡ true
  found_rest true y found e = refl
  found_rest false y found e = e

  pub find_found : (p : A → Bool) (xs : List A) (x : A) → find p xs ≡ Some x → Member x xs × (p x ≡ true)
  find_found p [] x h = absurd (cc)
  find_found p (y ∷ ys) x h =
      ⊎_elim (λ q. (inl q.1, subst (λ z. p z ≡ true) (sym q.1) q.0)) (λ e. let q = find_found p ys x e in (inr q.0, q.1)) (in_found (p y) y (find p ys) x h)

  pub find_some : (p : A → Bool) (xs : List A) (x : A) → Member x xs → p x ≡ true → is_some (find p xs) ≡ true
  find_some p [] x m h = absurd m
  find_some p (y ∷ ys) x (inl e) h = found_first (p y) y (find p ys) (subst (λ z. p z ≡ true) e h)
  find_some p (y ∷ ys) x (inr m) h = found_rest (p y) y (find p ys) (find_some p ys x m h)

  pub find_none : (p : A → Bool) (xs : List A) → find p xs ≡ None → (x : A) → Member x xs → p x ≡ false
  find_none p xs h x m = ⊎_elim (λ e. absurd (true≢false (sym (find_some p xs x m e) ∙ ap is_some h))) (λ e. e) (cases_Bool (p x))

module _ {A B : Type 0} where
  pub in_map : (f : A → B) (xs : List A) (y : B) → Member y (map f xs) → (x : A) × Member x xs × (y ≡ f x)
  in_map f [] y m = absurd m
  in_map f (x ∷ xs) y (inl e) = (x, inl refl, e)
  in_map f (x ∷ xs) y (inr m) = let q = in_map f xs y m in (q.0, inr q.1, q.2)

  pub map_in : (f : A → B) (xs : List A) (x : A) → Member x xs → Member (f x) (map f xs)
  map_in f [] x m = absurd m
  map_in f (y ∷ ys) x (inl e) = inl (ap f e)
  map_in f (y ∷ ys) x (inr m) = inr (map_in f ys x m)

  pub in_flat_map : (f : A → List B) (xs : List A) (y : B) → Member y (flat_map f xs) → (x : A) × Member x xs × Member y (f x)
  in_flat_map f [] y m = absurd m
  in_flat_map f (x ∷ xs) y m =
      ⊎_elim (λ n. (x, inl refl, n)) (λ n. let q = in_flat_map f xs y n in (q.0, inr q.1, q.2)) (in_append (f x) (flat_map f xs) y m)

  pub flat_map_in : (f : A → List B) (xs : List A) (x : A) (y : B) → Member x xs → Member y (f x) → Member y (flat_map f xs)
  flat_map_in f [] x y m n = absurd m
  flat_map_in f (z ∷ zs) x y (inl e) n = append_left (f z) (flat_map f zs) y (subst (λ w. Member y (f w)) e n)
  flat_map_in f (z ∷ zs) x y (inr m) n = append_right (f z) (flat_map f zs) y (flat_map_in f zs x y m n)

pub place_member : {A : Type 0} (xs : List A) (i : ℕ) (x : A) → slice_get xs i ≡ Some x → Member x xs
place_member [] i x h = absurd (cc)
place_member (y ∷ ys) zero x h = inl (sym (same_Some _ _ h))
place_member (y ∷ ys) (suc i) x h = inr (place_member ys i x h)

pub in_option : {A : Type 0} (o : Option A) (xs : List A) (x : A) → Member x (cons_option o xs) → (o ≡ Some x) ⊎ Member x xs
in_option None xs x m = inr m
in_option (Some y) xs x (inl e) = inl (ap Some (sym e))
in_option (Some y) xs x (inr m) = inr m

pub option_first : {A : Type 0} (o : Option A) (xs : List A) (x : A) → o ≡ Some x → Member x (cons_option o xs)
option_first o xs x e = subst (λ z. Member x (cons_option z xs)) (sym e) (inl refl)

pub option_rest : {A : Type 0} (o : Option A) (xs : List A) (x : A) → Member x xs → Member x (cons_option o xs)
option_rest None xs x m = m
option_rest (Some y) xs x m = inr m

-- members of what is kept
pub in_filter_map : {A B : Type 0} (f : A → Option B) (xs : List A) (y : B) → Member y (filter_map f xs) → (x : A) × Member x xs × (f x ≡ Some y)
in_filter_map f [] y m = absurd m
in_filter_map f (x ∷ xs) y m = by (in_option (f x) (filter_map f xs) y m) (in_filter_map f xs y)
  where
    by : (f x ≡ Some y) ⊎ Member y (filter_map f xs) → (Member y (filter_map f xs) → (z : _) × Member z xs × (f z ≡ Some y)) → (z : _) × Member z (x ∷ xs) × (f z ≡ Some y)
    by (inl e) g = (x, inl refl, e)
    by (inr n) g = let q = g n in (q.0, inr q.1, q.2)

pub filter_map_in : {A B : Type 0} (f : A → Option B) (xs : List A) (x : A) (y : B) → Member x xs → f x ≡ Some y → Member y (filter_map f xs)
filter_map_in f [] x y m e = absurd m
filter_map_in f (z ∷ xs) x y (inl q) e = option_first (f z) (filter_map f xs) y (ap f (sym q) ∙ e)
filter_map_in f (z ∷ xs) x y (inr m) e = option_rest (f z) (filter_map f xs) y (filter_map_in f xs x y m e)

-- where a function gives something of each member, all are kept in their places
module _ {A B : Type 0} (f : A → Option B) where
  length_with : (x : A) (xs : List A) (o : Option B) → f x ≡ o → is_some o ≡ true → length (filter_map f xs) ≡ length xs → length (filter_map f (x ∷ xs)) ≡ length (x ∷ xs)
  length_with x xs None e s g = absurd (true≢false (sym s))
  length_with x xs (Some y) e s g = ap (λ o. length (cons_option o (filter_map f xs))) e ∙ ap suc g

  first_with : (x : A) (xs : List A) (o : Option B) → f x ≡ o → is_some o ≡ true → slice_get (filter_map f (x ∷ xs)) 0 ≡ f x
  first_with x xs None e s = absurd (true≢false (sym s))
  first_with x xs (Some y) e s = ap (λ o. slice_get (cons_option o (filter_map f xs)) 0) e ∙ sym e

  later_with : (x : A) (xs : List A) (i : ℕ) (o : Option B) → f x ≡ o → is_some o ≡ true → slice_get (filter_map f (x ∷ xs)) (suc i) ≡ slice_get (filter_map f xs) i
  later_with x xs i None e s = absurd (true≢false (sym s))
  later_with x xs i (Some y) e s = ap (λ o. slice_get (cons_option o (filter_map f xs)) (suc i)) e

  pub kept_length : (xs : List A) → ((x : A) → Member x xs → is_some (f x) ≡ true) → length (filter_map f xs) ≡ length xs
  kept_length [] h = refl
  kept_length (x ∷ xs) h = length_with x xs (f x) refl (h x (inl refl)) (kept_length xs (λ y m. h y (inr m)))

  pub kept_at : (xs : List A) → ((x : A) → Member x xs → is_some (f x) ≡ true) → (i : ℕ) (x : A) → slice_get xs i ≡ Some x → slice_get (filter_map f xs) i ≡ f x
  kept_at [] h i x p = absurd (cc)
  kept_at (y ∷ ys) h zero x p = first_with y ys (f y) refl (h y (inl refl)) ∙ ap f (same_Some _ _ p)
  kept_at (y ∷ ys) h (suc i) x p = later_with y ys i (f y) refl (h y (inl refl)) ∙ kept_at ys (λ z m. h z (inr m)) i x p
