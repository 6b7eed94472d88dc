-- Lists that are related element by element.
use Rattle.std.proofs.Common.{◌≡◌, ℕ, zero, suc, ◌<◌, List, [], ◌∷◌, length, get_or, take, drop, ◌++◌, sym, ap, ◌∙◌, subst, arith}
use Rattle.std.specs.List.{All, AllZip}
use Rattle.std.proofs.Math.Seq.{take-append_seam}
use Rattle.std.proofs.lemmas.List.Elements.{AllZip-get_or, length_all_zip}

-- from what holds at each place
pub zip_by_places : {X : Type 0} (R : X → X → Type 0) (xs ys : List X) → length ys ≡ length xs → ((i : ℕ) (d : X) → i < length xs → R (get_or xs i d) (get_or ys i d)) → AllZip R xs ys
zip_by_places R [] [] same at = tt
zip_by_places R [] (y ∷ ys) same at = absurd (omega (arith, same))
zip_by_places R (x ∷ xs) [] same at = absurd (omega (arith, same))
zip_by_places R (x ∷ xs) (y ∷ ys) same at = (
  at zero x (omega arith),
  zip_by_places R xs ys (omega (arith, same)) (λ i d lt. at (suc i) d (omega (arith, lt))),
)

-- what holds of each element of the one, of each of the other
pub all_over_zip : {X : Type 0} (R : X → X → Type 0) (P Q : X → Type 0) → ((x y : X) → R x y → P x → Q y) → (xs ys : List X) → AllZip R xs ys → All P xs → All Q ys
all_over_zip R P Q over xs ys z all k d lt =
    let same = length_all_zip R xs ys z in
    let within : k < length xs = omega (arith, same, lt) in
    over (get_or xs k d) (get_or ys k d) (AllZip-get_or R xs ys k d d z within) (all k d within)

-- what stands in a list, all of whose places were written
pub written_back : {X : Type 0} (xs ys : List X) (n : ℕ) → n ≡ length xs → length ys ≡ length xs → take n (ys ++ drop (length ys) xs) ≡ ys
written_back xs ys n all same = ap (λ (k : ℕ). take k (ys ++ drop (length ys) xs)) (all ∙ sym same) ∙ take-append_seam ys (drop (length ys) xs)

pub related_as : {X : Type 0} (R : X → X → Type 0) (x y u v : X) → x ≡ u → y ≡ v → R x y → R u v
related_as R x y u v e f r = subst (λ z. R z v) e (subst (λ z. R x z) f r)
