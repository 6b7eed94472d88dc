-- An item of a list that is lent, and what it stands for.
use Rattle.std.proofs.Common.{◌≡◌, ℕ, ◌<◌, ◌≤◌, List, length, map, slice_get, Option, Some, None, MatchOption, Bor, option_map, sym, ap, ◌∙◌}
use Rattle.std.specs.List.{HoldsAt}
use Rattle.std.proofs.lemmas.Option.{slice_get-map, slice_get-get_or, slice_get_past}

pub item_read : {X Y : Type 0} (f : X → Y) (xs : List X) (i : ℕ) (r : Option (Bor X))
    → MatchOption r (length xs ≤ i) (λ (b : Bor X). (i < length xs) × HoldsAt (λ (y : X). b.now ≡ y) xs i)
    → option_map (λ (b : Bor X). f b.now) r ≡ slice_get (map f xs) i
item_read f xs i None h = sym (slice_get-map f xs i ∙ ap (option_map f) (slice_get_past xs i h))
item_read f xs i (Some b) h =
    sym (slice_get-map f xs i ∙ ap (option_map f) (slice_get-get_or xs i b.now h.0 ∙ ap Some (sym (h.1 b.now))))
