-- Members of a list, by their places.
use Rattle.std.proofs.Common.{suc, List, [], ◌∷◌, Some, Contains, inl, inr, sym, ap, ◌∙◌, arith}
use Rattle.std.proofs.lemmas.Option.{slice_get-get_or}
use Rattle.list_laws.proofs.Members.{Member, place_member}

pub member_contains : {A : Type 0} (xs : List A) (x : A) → Member x xs → Contains xs x
member_contains [] x m = absurd m
member_contains (y ∷ xs) x (inl e) = (0, omega arith, sym e)
member_contains (y ∷ xs) x (inr m) = let at = member_contains xs x m in (suc at.0, (let below = at.1 in omega arith), at.2)

pub contains_member : {A : Type 0} (xs : List A) (x : A) → Contains xs x → Member x xs
contains_member xs x at = place_member xs at.0 x (slice_get-get_or xs at.0 x at.1 ∙ ap Some at.2)
