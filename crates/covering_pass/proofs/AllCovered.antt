-- The second pass step by step: theories that the identity covers, tests, and images.
use Rattle.std.proofs.Common.{◌≡◌, ℕ, ◌+◌, ◌<◌, length, take, drop, get_or, Bool, ◌||◌, ◌&&◌, List, [], ◌∷◌, ◌++◌, Some, Ok, refl, sym, ap, ◌∙◌}
use Rattle.std.specs.Prelude.{slice_get, ⊤}
use Rattle.std.specs.List.{list_any}
use Rattle.std.proofs.Math.Bool.{or-false}
use Rattle.std.proofs.lemmas.List.{at_drop_more, take_more}
use Rattle.std.proofs.lemmas.List.Folds.{list_any-append}
use Rattle.std.proofs.lemmas.Option.{slice_get_within, get_or_from_slice_get}
use Rattle.name_meaning.specs.Names.{Name}
use Rattle.lf_meaning.specs.Signatures.{Value, Declaration, Signature}
use Rattle.lf_meaning.specs.HeadMaps.{HeadMap}
use Rattle.library_meaning.specs.Faces.{theory_of, includes_of}
use Rattle.library_meaning.specs.Closure.{sees}
use Rattle.answer_meaning.specs.Answers.{◌>>=◌}
use Rattle.list_laws.proofs.Answers.{bind_assoc}
use Rattle.link_meaning.specs.Refusals.{Outcome, each}
use Rattle.link_meaning.specs.Assignments.{Setting, Assigned}
use Rattle.link_meaning.specs.Coverings.{covered_tests, covering_value, identity_covers}
use Rattle.link_meaning.specs.Passes.{mapping_to}
use Rattle.link_meaning.specs.CoveringMaps.{included_part, cover_all, covering_map}
use Rattle.covering_pass.specs.CoverTables.{is_below_identity}

-- The next of the items that are left.
pub next_item : {A B : Type 0} (f : List A → B) (xs : List A) (i : ℕ) (x : A) → i < length xs → x ≡ get_or xs i x → f (drop i xs) ≡ f (x ∷ drop (i + 1) xs)
next_item f xs i x within there = at_drop_more f xs i x within ∙ ap (λ y. f (y ∷ drop (i + 1) xs)) (sym there)

pub next_there : {A B : Type 0} (f : List A → B) (xs : List A) (i : ℕ) (x : A) → slice_get xs i ≡ Some x → f (drop i xs) ≡ f (x ∷ drop (i + 1) xs)
next_there f xs i x there = next_item f xs i x (slice_get_within xs i x there) (sym (get_or_from_slice_get xs i x x there))

-- Tests one by one.
pub each_first : {A : Type 0} (test : A → Outcome ⊤) (x : A) (xs : List A) → test x >>= (λ passed. each test xs) ≡ each test (x ∷ xs)
each_first test x xs = refl

pub each_one : {A : Type 0} (test : A → Outcome ⊤) (x : A) (xs : List A) (done : ⊤) → test x ≡ Ok done → each test xs ≡ each test (x ∷ xs)
each_one test x xs done h = sym (ap (λ o. o >>= (λ passed. each test xs)) h)

module _ (setting : Setting) (assigned : List Assigned) where
  -- One more theory that may include others.
  pub below_more : (theories : List Name) (i : ℕ) (other theory : Name) → i < length theories → other ≡ get_or theories i other
      → is_below_identity setting assigned (take (i + 1) theories) theory
      ≡ (is_below_identity setting assigned (take i theories) theory || (identity_covers setting assigned other && sees (includes_of (theory_of setting.environment other)) theory))
  below_more theories i other theory within there =
      let test : Name → Bool = λ (x : Name). identity_covers setting assigned x && sees (includes_of (theory_of setting.environment x)) theory in
      ap (list_any test) (take_more theories i other within ∙ ap (λ x. take i theories ++ x ∷ []) (sym there))
      ∙ list_any-append test (take i theories) (other ∷ [])
      ∙ ap (λ b. list_any test (take i theories) || b) (or-false (test other))

  -- Images one by one.
  pub covers_one : (so_far : HeadMap) (d : Declaration) (ds : Signature) (value : Value) → covering_value setting assigned d ≡ Ok value
      → cover_all setting assigned so_far (d ∷ ds) ≡ cover_all setting assigned (so_far ++ mapping_to so_far d value ∷ []) ds
  unfolding cover_all
  covers_one so_far d ds value h = ap (λ o. o >>= (λ v. cover_all setting assigned (so_far ++ mapping_to so_far d v ∷ []) ds)) h

  pub covers_first : (so_far : HeadMap) (d : Declaration) (ds : Signature)
      → covering_value setting assigned d >>= (λ v. cover_all setting assigned (so_far ++ mapping_to so_far d v ∷ []) ds) ≡ cover_all setting assigned so_far (d ∷ ds)
  unfolding cover_all
  covers_first so_far d ds = refl

  pub covers_none : (so_far : HeadMap) (ds : Signature) → ds ≡ [] → cover_all setting assigned so_far ds ≡ Ok so_far
  unfolding cover_all
  covers_none so_far ds e = ap (cover_all setting assigned so_far) e

  -- Images of two parts.
  pub covers_both : (so_far : HeadMap) (xs ys : Signature) → cover_all setting assigned so_far (xs ++ ys) ≡ cover_all setting assigned so_far xs >>= (λ along. cover_all setting assigned along ys)
  unfolding cover_all
  covers_both so_far [] ys = refl
  covers_both so_far (d ∷ xs) ys =
      (λ i. covering_value setting assigned d >>= (λ value. covers_both (so_far ++ mapping_to so_far d value ∷ []) xs ys i))
      ∙ sym (bind_assoc (covering_value setting assigned d) (λ value. cover_all setting assigned (so_far ++ mapping_to so_far d value ∷ []) xs) (λ along. cover_all setting assigned along ys))

  pub part_covered : (so_far along : HeadMap) (xs ys : Signature) → cover_all setting assigned so_far xs ≡ Ok along → cover_all setting assigned along ys ≡ cover_all setting assigned so_far (xs ++ ys)
  part_covered so_far along xs ys h = sym (covers_both so_far xs ys ∙ ap (λ o. o >>= (λ z. cover_all setting assigned z ys)) h)

  -- The pass from its two parts.
  pub tests_first : covered_tests setting assigned >>= (λ done. cover_all setting assigned [] (included_part setting)) ≡ covering_map setting assigned
  unfolding covering_map
  tests_first = refl

  pub tests_passed : (done : ⊤) → covered_tests setting assigned ≡ Ok done → cover_all setting assigned [] (included_part setting) ≡ covering_map setting assigned
  unfolding covering_map
  tests_passed done h = sym (ap (λ o. o >>= (λ passed. cover_all setting assigned [] (included_part setting))) h)
