-- Places in a list that is made of parts.
use Rattle.std.proofs.Common.{◌≡◌, ℕ, zero, suc, ◌+◌, ◌<◌, ◌≤◌, List, [], ◌∷◌, ◌++◌, length, map, option_map, Some, refl, ap, arith}
use Rattle.std.specs.Prelude.{slice_get}

pub get_behind : {A : Type 0} (front rest : List A) (i j : ℕ) → j ≡ i + length front → slice_get (front ++ rest) j ≡ slice_get rest i
get_behind [] rest i j e = let f : j ≡ i = omega (arith, e) in ap (slice_get rest) f
get_behind (x ∷ front) rest i zero e = absurd (omega (arith, e))
get_behind (x ∷ front) rest i (suc j) e = get_behind front rest i j (omega (arith, e))

pub get_below : {A : Type 0} (after before : List A) (x : A) (i : ℕ) → i < length after → slice_get (after ++ (x ∷ before)) i ≡ slice_get (after ++ before) i
get_below [] before x i h = absurd (omega (arith, h))
get_below (y ∷ after) before x zero h = refl
get_below (y ∷ after) before x (suc i) h = get_below after before x i (omega (arith, h))

pub get_at : {A : Type 0} (after before : List A) (x : A) → slice_get (after ++ (x ∷ before)) (length after) ≡ Some x
get_at [] before x = refl
get_at (y ∷ after) before x = get_at after before x

pub get_above : {A : Type 0} (after before : List A) (x : A) (i : ℕ) → length after ≤ i → slice_get (after ++ (x ∷ before)) (suc i) ≡ slice_get (after ++ before) i
get_above [] before x i h = refl
get_above (y ∷ after) before x zero h = absurd (omega (arith, h))
get_above (y ∷ after) before x (suc i) h = get_above after before x i (omega (arith, h))

-- a place in the front part alone
pub get_front : {A : Type 0} (after before : List A) (i : ℕ) → i < length after → slice_get (after ++ before) i ≡ slice_get after i
get_front [] before i h = absurd (omega (arith, h))
get_front (y ∷ after) before zero h = refl
get_front (y ∷ after) before (suc i) h = get_front after before i (omega (arith, h))

-- a place stays where more stands behind
pub get_more : {A : Type 0} (D E : List A) (i : ℕ) (x : A) → slice_get D i ≡ Some x → slice_get (D ++ E) i ≡ Some x
get_more [] E i x h = absurd (cc)
get_more (y ∷ D) E zero x h = h
get_more (y ∷ D) E (suc i) x h = get_more D E i x h

pub get_within : {A : Type 0} (D : List A) (i : ℕ) (x : A) → slice_get D i ≡ Some x → i < length D
get_within [] i x h = absurd (cc)
get_within (y ∷ D) zero x h = omega arith
get_within (y ∷ D) (suc i) x h = let e : i < length D = get_within D i x h in omega (arith, e)

pub get_map : {A B : Type 0} (f : A → B) (D : List A) (i : ℕ) (x : A) → slice_get D i ≡ Some x → slice_get (map f D) i ≡ Some (f x)
get_map f [] i x h = absurd (cc)
get_map f (y ∷ D) zero x h = ap (option_map f) h
get_map f (y ∷ D) (suc i) x h = get_map f D i x h

pub length_map : {A B : Type 0} (f : A → B) (D : List A) → length (map f D) ≡ length D
length_map f [] = refl
length_map f (x ∷ D) = ap suc (length_map f D)
