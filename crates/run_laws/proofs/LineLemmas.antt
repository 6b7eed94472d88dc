-- Bytes without a line feed, and the first line of bytes.
use Rattle.std.proofs.Common.{◌≡◌, ◌≢◌, ℕ, ◌+◌, ◌<◌, ◌≤◌, List, [], ◌∷◌, ◌++◌, length, take, get_or, refl, subst, arith}
use Rattle.std.proofs.lemmas.Bool.Decides.{nat_tests}
use Rattle.std.proofs.lemmas.List.{take_more, take_all}
use Rattle.printing_meaning.specs.Lines.{lines_of, NoFeed}

pub NoFeed-append : (xs ys : List ℕ) → NoFeed xs → NoFeed ys → NoFeed (xs ++ ys)
NoFeed-append [] ys p q = q
NoFeed-append (x ∷ xs) ys p q = (p.0, NoFeed-append xs ys p.1 q)

-- a line with its feed is the first of the lines
pub lines_of-whole : (xs rest : List ℕ) → NoFeed xs → lines_of (xs ++ (10 ∷ rest)) ≡ (xs ++ (10 ∷ [])) ∷ lines_of rest
unfolding lines_of
lines_of-whole [] rest p = refl
lines_of-whole (x ∷ xs) rest p =
    rw (p.0, lines_of-whole xs rest p.1) refl

-- what has no feed is the last line
pub lines_of-last : (x : ℕ) (xs : List ℕ) → NoFeed (x ∷ xs) → lines_of (x ∷ xs) ≡ (x ∷ xs) ∷ []
unfolding lines_of
lines_of-last x [] p = rw p.0 refl
lines_of-last x (y ∷ xs) p = rw (p.0, lines_of-last y xs p.1) refl

pub NoFeed-take_more : (bytes : List ℕ) (i : ℕ) → i < length bytes → NoFeed (take i bytes) → get_or bytes i 0 ≢ 10 → NoFeed (take (i + 1) bytes)
NoFeed-take_more bytes i lt front other =
    rw (take_more bytes i 0 lt) (NoFeed-append (take i bytes) (get_or bytes i 0 ∷ []) front (grind (arith, nat_tests), tt))

pub NoFeed-all : (bytes : List ℕ) (i : ℕ) → length bytes ≤ i → NoFeed (take i bytes) → NoFeed bytes
NoFeed-all bytes i le front = subst NoFeed (take_all i bytes le) front
