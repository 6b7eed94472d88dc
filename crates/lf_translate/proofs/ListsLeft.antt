-- What is left of a list that is gone through.
use Rattle.std.proofs.Common.{◌≡◌, ℕ, suc, ◌+◌, ◌<◌, ◌≤◌, List, [], ◌∷◌, ◌++◌, length, map, take, drop, Some, None, cond, false, true, refl, sym, ap, ◌∙◌, arith, add-one}
use Rattle.std.specs.Prelude.{slice_get}
use Rattle.std.proofs.Math.Seq.{drop-cons}
use Rattle.std.proofs.lemmas.List.{take_more, take-map, map-append, drop_all, take_all}
use Rattle.std.proofs.lemmas.Option.{slice_get_within, get_or_from_slice_get}
use Rattle.lf_meaning.specs.HeadMaps.{Mapping, HeadMap}
use Rattle.lf_meaning.specs.Signatures.{Declaration, Signature}
use Rattle.translation_meaning.specs.Differ.{agree_on, differ_from}
use Rattle.translation_meaning.specs.Translation.{compose, translate_image}
use Rattle.translation_meaning.specs.Unmapped.{first_of, unmapped_map}
use Rattle.lf_translate.specs.Images.{unmapped_image}

module _ {A : Type 0} (xs : List A) (i : ℕ) (x : A) (there : slice_get xs i ≡ Some x) where
  left : drop i xs ≡ x ∷ drop (i + 1) xs
  left = let within : i < length xs = slice_get_within xs i x there in rw add-one (drop-cons xs i x within ∙ ap (λ y. y ∷ drop (suc i) xs) (get_or_from_slice_get xs i x x there))

  passed : take (i + 1) xs ≡ take i xs ++ x ∷ []
  passed = let within : i < length xs = slice_get_within xs i x there in take_more xs i x within ∙ ap (λ y. take i xs ++ (y ∷ [])) (get_or_from_slice_get xs i x x there)

module _ (along first : HeadMap) (i : ℕ) (m : Mapping) (there : slice_get first i ≡ Some m) where
  -- The next mapping comes first of those that are left.
  pub missing_left : first_of (unmapped_image along m.image) (unmapped_map along (drop (i + 1) first)) ≡ unmapped_map along (drop i first)
  unfolding unmapped_map
  missing_left = sym (ap (unmapped_map along) (left first i m there))

  pub composed_more : compose (take i first) along ++ record { name = m.name; image = translate_image along m.image } ∷ [] ≡ compose (take (i + 1) first) along
  unfolding compose
  composed_more = sym (ap (λ ms. compose ms along) (passed first i m there) ∙ map-append (λ (mapping : Mapping). record { name = mapping.name; image = translate_image along mapping.image }) (take i first) (m ∷ []))

pub nothing_missing : (along first : HeadMap) (i : ℕ) → length first ≤ i → unmapped_map along (drop i first) ≡ None
unfolding unmapped_map
nothing_missing along first i past = ap (unmapped_map along) (drop_all i first past)

names_stay : (along first : HeadMap) → map (λ (m : Mapping). m.name) (compose first along) ≡ map (λ (m : Mapping). m.name) first
unfolding compose
names_stay along [] = refl
names_stay along (m ∷ first) = ap (λ names. m.name ∷ names) (names_stay along first)

-- The constants so far are those of the first map.
pub composed_names : (along first : HeadMap) (i : ℕ) → map (λ (m : Mapping). m.name) (compose (take i first) along) ≡ take i (map (λ (m : Mapping). m.name) first)
composed_names along first i = names_stay along (take i first) ∙ sym (take-map (λ (m : Mapping). m.name) i first)

pub composed_none : (along : HeadMap) → [] ≡ compose [] along
unfolding compose
composed_none along = refl

pub composed_all : (along first : HeadMap) (i : ℕ) → length first ≤ i → compose (take i first) along ≡ compose first along
composed_all along first i past = ap (λ ms. compose ms along) (take_all i first past)

module _ (first second : HeadMap) (names : Signature) (i : ℕ) where
  module _ (d : Declaration) (there : slice_get names i ≡ Some d) where
    pub differ_here : agree_on first second d ≡ false → differ_from i first second (drop i names) ≡ Some i
    unfolding differ_from
    differ_here h = ap (differ_from i first second) (left names i d there) ∙ ap (λ b. cond b (differ_from (suc i) first second (drop (i + 1) names)) (Some i)) h

    pub differ_later : agree_on first second d ≡ true → differ_from i first second (drop i names) ≡ differ_from (i + 1) first second (drop (i + 1) names)
    unfolding differ_from
    differ_later h =
        ap (differ_from i first second) (left names i d there) ∙ ap (λ b. cond b (differ_from (suc i) first second (drop (i + 1) names)) (Some i)) h
        ∙ (let next : suc i ≡ i + 1 = omega arith in ap (λ n. differ_from n first second (drop (i + 1) names)) next)

  pub differ_nowhere : length names ≤ i → differ_from i first second (drop i names) ≡ None
  unfolding differ_from
  differ_nowhere past = ap (differ_from i first second) (drop_all i names past)
