-- Lists after one of their items is written.
use Rattle.std.proofs.Common.{◌≡◌, ℕ, zero, suc, ◌+◌, ◌<◌, ◌≤◌, Bool, true, false, not, cond, List, [], ◌∷◌, ◌++◌, length-append, length, filter, take, drop, get_or, set, slice_get, count_by, Some, ◌⊎◌, inl, inr, ⊎_elim, refl, sym, ap, ◌∙◌, arith}
use Rattle.std.proofs.lemmas.List.Sums.{sum_by-set}
use Rattle.std.proofs.lemmas.Option.{get_or_from_slice_get, slice_get_within, slice_get-get_or}
use Rattle.list_laws.proofs.Places.{get_more, take_more}

module _ {X : Type 0} where
  pub set_long : (xs : List X) (i : ℕ) (v : X) → length (set xs i v) ≡ length xs
  set_long [] i v = refl
  set_long (x ∷ xs) zero v = refl
  set_long (x ∷ xs) (suc i) v = ap suc (set_long xs i v)

  pub set_here : (xs : List X) (i : ℕ) (v : X) → i < length xs → slice_get (set xs i v) i ≡ Some v
  set_here [] i v h = absurd (omega (arith, h))
  set_here (x ∷ xs) zero v h = refl
  set_here (x ∷ xs) (suc i) v h = set_here xs i v (omega (arith, h))

  -- what is found after a write was written, or was there before
  pub set_found : (xs : List X) (i : ℕ) (v : X) (k : ℕ) (y : X) → slice_get (set xs i v) k ≡ Some y → ((k ≡ i) × (y ≡ v)) ⊎ (slice_get xs k ≡ Some y)
  set_found [] i v k y h = absurd (cc)
  set_found (x ∷ xs) zero v zero y h = inl (refl, cc)
  set_found (x ∷ xs) zero v (suc k) y h = inr h
  set_found (x ∷ xs) (suc i) v zero y h = inr h
  set_found (x ∷ xs) (suc i) v (suc k) y h = ⊎_elim (λ q. inl (ap suc q.0, q.1)) (λ q. inr q) (set_found xs i v k y h)

  -- what was there before a write is there still, or was written over
  pub set_left : (xs : List X) (i : ℕ) (v : X) (k : ℕ) (y : X) → slice_get xs k ≡ Some y → (k ≡ i) ⊎ (slice_get (set xs i v) k ≡ Some y)
  set_left [] i v k y h = absurd (cc)
  set_left (x ∷ xs) zero v zero y h = inl refl
  set_left (x ∷ xs) zero v (suc k) y h = inr h
  set_left (x ∷ xs) (suc i) v zero y h = inr h
  set_left (x ∷ xs) (suc i) v (suc k) y h = ⊎_elim (λ q. inl (ap suc q)) (λ q. inr q) (set_left xs i v k y h)

  -- what is found where a value was written is that value
  pub set_value : (xs : List X) (i : ℕ) (v y : X) → slice_get (set xs i v) i ≡ Some y → y ≡ v
  set_value [] i v y h = absurd (cc)
  set_value (x ∷ xs) zero v y h = cc
  set_value (x ∷ xs) (suc i) v y h = set_value xs i v y h

  -- writing what was written before changes nothing that was so
  pub set_stays : (xs : List X) (i : ℕ) (v : X) (k : ℕ) → slice_get xs k ≡ Some v → slice_get (set xs i v) k ≡ Some v
  set_stays [] i v k h = h
  set_stays (x ∷ xs) zero v zero h = refl
  set_stays (x ∷ xs) zero v (suc k) h = h
  set_stays (x ∷ xs) (suc i) v zero h = h
  set_stays (x ∷ xs) (suc i) v (suc k) h = set_stays xs i v k h

  -- the item that was read at a place
  pub item_read : (xs : List X) (i : ℕ) (d x : X) → i < length xs → get_or xs i d ≡ x → slice_get xs i ≡ Some x
  item_read xs i d x h e = slice_get-get_or xs i d h ∙ ap Some e

  pub item_at : (xs : List X) (i : ℕ) → i < length xs → (x : X) × (slice_get xs i ≡ Some x)
  item_at [] i h = absurd (omega (arith, h))
  item_at (x ∷ xs) zero h = (x, refl)
  item_at (x ∷ xs) (suc i) h = item_at xs i (omega (arith, h))

-- how many are left, after one of them is taken
pub fewer_left : (taken : List Bool) (i : ℕ) → slice_get taken i ≡ Some false → count_by not taken ≡ suc (count_by not (set taken i true))
fewer_left taken i h =
    let f : Bool → ℕ = λ b. cond (not b) 1 0 in
    let g : f (get_or taken i false) ≡ 1 = ap f (get_or_from_slice_get taken i false false h) in
    let e = sum_by-set f taken i true false (slice_get_within taken i false h) in
    omega (arith, e, g)

-- So many lists, all of them empty.
pub record AreEmpty {W : Type 0} (items : W → List ℕ) (lists : List W) (count : ℕ) : Type 0 where
  pub long : length lists ≡ count
  pub each : (i : ℕ) (list : W) → slice_get lists i ≡ Some list → items list ≡ []

pub none_empty : {W : Type 0} (items : W → List ℕ) → AreEmpty items [] 0
none_empty items = record { long = refl; each = λ i list h. absurd (cc) }

pub more_empty : {W : Type 0} (items : W → List ℕ) (lists : List W) (count : ℕ) (list : W) → AreEmpty items lists count → items list ≡ [] → AreEmpty items (lists ++ list ∷ []) (count + 1)
more_empty items lists count list so_far empty = record {
  long = let l = so_far.long in let a = length-append lists (list ∷ []) in omega (arith, l, a);
  each = λ i other h. ⊎_elim (λ q. so_far.each i other q) (λ q. ap items (sym q.1) ∙ empty) (get_more lists list other i h);
}

-- ---- what is left of a list from a place on

pub drop_past : {X : Type 0} (xs : List X) (i : ℕ) → length xs ≤ i → drop i xs ≡ []
drop_past [] zero h = refl
drop_past [] (suc i) h = refl
drop_past (x ∷ xs) zero h = absurd (omega (arith, h))
drop_past (x ∷ xs) (suc i) h = drop_past xs i (omega (arith, h))

-- what passes a test among the items before a place, after one more item
filter_last : {X : Type 0} (p : X → Bool) (xs : List X) (x : X) → filter p (xs ++ x ∷ []) ≡ cond (p x) (filter p xs ++ x ∷ []) (filter p xs)
filter_last p [] x = refl
filter_last p (y ∷ xs) x = by (p y) (p x) (filter_last p xs x)
  where
    by : (b c : Bool) → filter p (xs ++ x ∷ []) ≡ cond c (filter p xs ++ x ∷ []) (filter p xs)
        → cond b (y ∷ filter p (xs ++ x ∷ [])) (filter p (xs ++ x ∷ [])) ≡ cond c (cond b (y ∷ filter p xs) (filter p xs) ++ x ∷ []) (cond b (y ∷ filter p xs) (filter p xs))
    by true true h = ap (λ z. y ∷ z) h
    by true false h = ap (λ z. y ∷ z) h
    by false true h = h
    by false false h = h

pub filter_more : {X : Type 0} (p : X → Bool) (xs : List X) (i : ℕ) (x : X) (b : Bool) → slice_get xs i ≡ Some x → p x ≡ b → filter p (take (i + 1) xs) ≡ cond b (filter p (take i xs) ++ x ∷ []) (filter p (take i xs))
filter_more p xs i x b h e =
    let s : i + 1 ≡ suc i = omega arith in
    ap (λ k. filter p (take k xs)) s ∙ ap (filter p) (take_more xs i x h) ∙ filter_last p (take i xs) x ∙ ap (λ c. cond c (filter p (take i xs) ++ x ∷ []) (filter p (take i xs))) e
