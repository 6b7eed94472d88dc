-- The prefix of variables is free, and the least free one.
use Rattle.std.proofs.Common.{◌≡◌, ℕ, zero, suc, ◌+◌, ◌-◌, ◌≤◌, ◌<◌, Bool, true, false, cond, List, [], ◌∷◌, length, drop, refl, ap, subst, ◌⊎◌, inl, inr, ⊎_elim, arith}
use Rattle.std.specs.Prelude.{nat_eq, ◌&&◌, ◌||◌}
use Rattle.std.specs.List.{starts_with}
use Rattle.std.proofs.lemmas.List.{length-drop}
use Rattle.std.proofs.lemmas.List.Sums.{sum_by-cons}
use Rattle.name_meaning.specs.Names.{Name, Path}
use Rattle.lf_meaning.specs.Signatures.{Declaration, Signature}
use Rattle.printing_meaning.specs.Prefixes.{marks, prefix_with, begins_with_digit, is_numbered, clashes, is_taken, free_from, length_of_path, enough, prefix_of}
use Rattle.list_laws.proofs.Booleans.{and_second}

pub length-marks : (count : ℕ) → length (marks count) ≡ count
unfolding marks
length-marks zero = refl
length-marks (suc count) = ap suc (length-marks count)

-- what begins with a digit is not empty
with_digit : (bytes : List ℕ) → begins_with_digit bytes ≡ true → 0 < length bytes
with_digit [] h = absurd cc
with_digit (byte ∷ bytes) h = omega arith

-- a name that clashes with a prefix is longer than it
numbered_longer : (prefix : List ℕ) (name : Name) → is_numbered prefix name ≡ true → length prefix < length name
numbered_longer prefix name h =
    let rest : 0 < length (drop (length prefix) name) = with_digit (drop (length prefix) name) (and_second (starts_with nat_eq name prefix) (begins_with_digit (drop (length prefix) name)) h) in
    let left : length (drop (length prefix) name) ≡ length name - length prefix = length-drop (length prefix) name in omega arith

clash_longer : (prefix : List ℕ) (path : Path) → clashes prefix path ≡ true → length prefix < length_of_path path
clash_longer prefix [] h = absurd cc
clash_longer prefix (name ∷ []) h = let longer : length prefix < length name = numbered_longer prefix name h in omega arith
clash_longer prefix (name ∷ second ∷ path) h = absurd cc

short_of : (a b : Bool) → (a ≡ true → ⊥) → b ≡ false → (a || b) ≡ false
short_of true b h e = absurd (h refl)
short_of false b h e = e

-- a prefix that is longer than every name is free
pub long_is_free : (own : Signature) (prefix : List ℕ) → enough own ≤ length prefix → is_taken own prefix ≡ false
long_is_free [] prefix h = refl
long_is_free (declaration ∷ own) prefix h =
    let sum : enough (declaration ∷ own) ≡ length_of_path declaration.name.path + enough own = sum_by-cons (λ (other : Declaration). length_of_path other.name.path) declaration own in
    short_of (clashes prefix declaration.name.path) (is_taken own prefix)
    (λ e. let longer : length prefix < length_of_path declaration.name.path = clash_longer prefix declaration.name.path e in omega arith)
    (long_is_free own prefix (omega arith))

-- the search ends at a free prefix
free_by : (own : Signature) (b : Bool) (count : ℕ) (later : ℕ) → is_taken own (prefix_with count) ≡ b
    → is_taken own (prefix_with later) ≡ false → is_taken own (prefix_with (cond b later count)) ≡ false
free_by own true count later e h = h
free_by own false count later e h = e

search_free : (own : Signature) (tries count : ℕ) → enough own ≤ tries + count → is_taken own (prefix_with (free_from own tries count)) ≡ false
unfolding free_from
search_free own zero count h = long_is_free own (prefix_with count) (let same : length (marks count) ≡ count = length-marks count in omega arith)
search_free own (suc tries) count h =
    free_by own (is_taken own (prefix_with count)) count (free_from own tries (suc count)) refl (search_free own tries (suc count) (omega arith))

pub prefix_is_free : (own : Signature) → is_taken own (prefix_of own) ≡ false
unfolding prefix_of
prefix_is_free own = search_free own (enough own) 0 (omega arith)

-- what the search passes is taken
passed_by : (own : Signature) (b : Bool) (count later earlier : ℕ) → is_taken own (prefix_with count) ≡ b
    → (earlier < later → suc count ≤ earlier → is_taken own (prefix_with earlier) ≡ true)
    → count ≤ earlier → earlier < cond b later count → is_taken own (prefix_with earlier) ≡ true
passed_by own true count later earlier e h from to =
    ⊎_elim (λ (same : count ≡ earlier). subst (λ n. is_taken own (prefix_with n) ≡ true) same e) (λ (less : suc count ≤ earlier). h to less) (next count earlier from)
  where
    next : (a b : ℕ) → a ≤ b → (a ≡ b) ⊎ (suc a ≤ b)
    next zero zero le = inl refl
    next zero (suc b) le = inr (omega arith)
    next (suc a) zero le = absurd (omega arith)
    next (suc a) (suc b) le = ⊎_elim (λ e. inl (ap suc e)) (λ (l : suc a ≤ b). inr (omega arith)) (next a b (omega arith))
passed_by own false count later earlier e h from to = absurd (omega arith)

search_least : (own : Signature) (tries count earlier : ℕ) → count ≤ earlier → earlier < free_from own tries count → is_taken own (prefix_with earlier) ≡ true
unfolding free_from
search_least own zero count earlier from to = absurd (omega arith)
search_least own (suc tries) count earlier from to =
    passed_by own (is_taken own (prefix_with count)) count (free_from own tries (suc count)) earlier refl
    (λ less later. search_least own tries (suc count) earlier later less) from to

pub prefix_is_least : (own : Signature) (count : ℕ) → length (prefix_with count) < length (prefix_of own) → is_taken own (prefix_with count) ≡ true
unfolding prefix_of
prefix_is_least own count h =
    search_least own (enough own) 0 count (omega arith)
    (let one : length (marks count) ≡ count = length-marks count in
    let other : length (marks (free_from own (enough own) 0)) ≡ free_from own (enough own) 0 = length-marks (free_from own (enough own) 0) in omega arith)
