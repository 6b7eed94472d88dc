-- Lines that are written one after another, one for each item of a list.
use Rattle.std.proofs.Common.{◌≡◌, ℕ, ◌+◌, ◌≤◌, List, [], ◌∷◌, ◌++◌, length, take, flat_map, refl, sym, ap, ◌∙◌}
use Rattle.std.proofs.lemmas.Grind.{flat_map-append}
use Rattle.std.proofs.lemmas.List.{flat_map_more, take_all}

module _ {A : Type 0} (line : A → List ℕ) where
  -- the line of one more item
  pub line_more : (start so_far next : List ℕ) (items : List A) (i : ℕ) (item : A) → take (i + 1) items ≡ take i items ++ item ∷ []
      → so_far ≡ start ++ flat_map line (take i items) → next ≡ so_far ++ line item → next ≡ start ++ flat_map line (take (i + 1) items)
  line_more start so_far next items i item more so then =
      then ∙ ap (λ z. z ++ line item) so ∙ flat_map_more line start (take i items) item ∙ ap (λ z. start ++ flat_map line z) (sym more)

  -- all lines
  pub lines_all : (start so_far : List ℕ) (items : List A) (i : ℕ) → length items ≤ i → so_far ≡ start ++ flat_map line (take i items) → so_far ≡ start ++ flat_map line items
  lines_all start so_far items i past so = so ∙ ap (λ z. start ++ flat_map line z) (take_all i items past)

-- The lines of the parts of a list, part by part.
pub lines_in_parts : {A B : Type 0} (line : B → List ℕ) (part : A → List B) (items : List A) → flat_map line (flat_map part items) ≡ flat_map (λ item. flat_map line (part item)) items
lines_in_parts line part [] = refl
lines_in_parts line part (item ∷ items) = flat_map-append line (part item) (flat_map part items) ∙ ap (λ z. flat_map line (part item) ++ z) (lines_in_parts line part items)
