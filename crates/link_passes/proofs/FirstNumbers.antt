-- The first of some assignments that passes a test.
use Rattle.std.proofs.Common.{◌≡◌, ℕ, suc, ◌<◌, Bool, true, false, cond, ◌&&◌, ◌||◌, List, [], ◌∷◌, ◌++◌, length, slice_get, option_map, Option, Some, None, refl, sym, ap, ◌∙◌, arith}
use Rattle.std.specs.Option.{option_or}
use Rattle.std.proofs.lemmas.Option.{same_Some}
use Rattle.name_meaning.specs.Names.{Path, same_name}
use Rattle.link_meaning.specs.Assignments.{Assigned, Covering, Sharing, Giving}
use Rattle.link_meaning.specs.Passes.{ByNone, by_equal, by_rest, reached_by, rest_behind}
use Rattle.link_meaning.specs.Passes as passes
use Rattle.link_setting.proofs.Beginnings.{begins_before}
use Rattle.link_passes.specs.Reaching.{reached_through}
use Rattle.link_passes.specs.Targets.{earlier_of, first_that, reaches}
use Rattle.link_passes.proofs.Reaching.{equal_as_names, reached_next}

-- One more at the end.
pub first_last : (test : Assigned → Bool) (items : List Assigned) (item : Assigned)
    → first_that test (items ++ item ∷ []) ≡ option_or (first_that test items) (cond (test item) (Some (length items)) None)
first_last test [] item = refl
first_last test (next ∷ items) item = ap (λ o. cond (test next) (Some 0) (option_map suc o)) (first_last test items item) ∙ by (test next) (first_that test items) (test item)
  where
    by : (b : Bool) (o : Option ℕ) (c : Bool)
        → cond b (Some 0) (option_map suc (option_or o (cond c (Some (length items)) None)))
        ≡ option_or (cond b (Some 0) (option_map suc o)) (cond c (Some (suc (length items))) None)
    by true o c = refl
    by false (Some i) c = refl
    by false None true = refl
    by false None false = refl

-- Tests that come to the same find the same.
pub first_alike : (test other : Assigned → Bool) (items : List Assigned) → ((item : Assigned) → test item ≡ other item) → first_that test items ≡ first_that other items
first_alike test other items same = λ i. first_that (λ (item : Assigned). same item i) items

-- No first one passes a test that none passes.
pub first_none : (items : List Assigned) → first_that (λ (item : Assigned). false) items ≡ None
first_none [] = refl
first_none (item ∷ items) = ap (option_map suc) (first_none items)

-- The first that passes one of two tests is the first of those that they find.
pub first_of_two : (test other : Assigned → Bool) (items : List Assigned)
    → first_that (λ (item : Assigned). test item || other item) items ≡ earlier_of (first_that test items) (first_that other items)
first_of_two test other [] = refl
first_of_two test other (item ∷ items) =
    ap (λ o. cond (test item || other item) (Some 0) (option_map suc o)) (first_of_two test other items) ∙ by (test item) (other item) (first_that test items) (first_that other items)
  where
    least : (o : Option ℕ) → Some 0 ≡ earlier_of (Some 0) o
    least None = refl
    least (Some j) = ap Some (omega arith)

    last : (o : Option ℕ) → Some 0 ≡ earlier_of (option_map suc o) (Some 0)
    last None = refl
    last (Some i) = ap Some (omega arith)

    shifted : (o p : Option ℕ) → option_map suc (earlier_of o p) ≡ earlier_of (option_map suc o) (option_map suc p)
    shifted None p = refl
    shifted (Some i) None = refl
    shifted (Some i) (Some j) = ap Some (omega arith)

    by : (b c : Bool) (o p : Option ℕ)
        → cond (b || c) (Some 0) (option_map suc (earlier_of o p)) ≡ earlier_of (cond b (Some 0) (option_map suc o)) (cond c (Some 0) (option_map suc p))
    by true true o p = refl
    by true false o p = least (option_map suc p)
    by false true o p = last o
    by false false o p = shifted o p

-- A structure's constants have its path as a beginning, and go on behind it.
rest_goes_on : (target path : Path) → begins_before (length path) path target ≡ false → rest_behind target path ≡ None
unfolding rest_behind
rest_goes_on [] [] h = refl
rest_goes_on [] (name ∷ path) h = absurd (cc)
rest_goes_on (name ∷ target) [] h = refl
rest_goes_on (name ∷ target) (other ∷ path) h = by (same_name name other) h (rest_goes_on target path)
  where
    by : (b : Bool) → (b && begins_before (length path) path target) ≡ false → (begins_before (length path) path target ≡ false → rest_behind target path ≡ None) → ◌≡◌ {A = Option Path} (elim b [
      | true ↦ rest_behind target path
      | false ↦ None
    ]) None
    by true e more = more e
    by false e more = refl

rest_is_there : (target path : Path) → begins_before (length path) path target ≡ true → (rest : Path) × (rest_behind target path ≡ Some rest)
unfolding rest_behind
rest_is_there [] [] h = absurd (cc)
rest_is_there [] (name ∷ path) h = (name ∷ path, refl)
rest_is_there (name ∷ target) [] h = absurd (cc)
rest_is_there (name ∷ target) (other ∷ path) h = by (same_name name other) h (rest_is_there target path)
  where
    by : (b : Bool) → (b && begins_before (length path) path target) ≡ true → (begins_before (length path) path target ≡ true → (rest : Path) × (rest_behind target path ≡ Some rest)) → (rest : Path) × ◌≡◌ {A = Option Path} (elim b [
      | true ↦ rest_behind target path
      | false ↦ None
    ]) (Some rest)
    by true e more = more e
    by false e more = absurd (cc)

or_false : (b : Bool) → (b || false) ≡ b
or_false true = refl
or_false false = refl

-- What does not reach a path leaves it to the others.
missed : (item : Assigned) (path : Path) (otherwise : passes.Reached) → reaches path item ≡ false → reached_through item path otherwise ≡ otherwise
missed (Covering first by) path otherwise h = refl
missed (Sharing target structure first by) path otherwise h =
    ap (λ rest. by_rest target structure first by rest otherwise) (rest_goes_on target path (sym (or_false (begins_before (length path) path target)) ∙ h))
missed (Giving target value) path otherwise h = ap (λ b. by_equal b target value otherwise) (equal_as_names target path ∙ h)

-- What does reach it decides.
met : (item : Assigned) (path : Path) (otherwise other : passes.Reached) → reaches path item ≡ true → reached_through item path otherwise ≡ reached_through item path other
met (Covering first by) path otherwise other h = absurd (cc)
met (Sharing target structure first by) path otherwise other h =
    let rest = rest_is_there target path (sym (or_false (begins_before (length path) path target)) ∙ h) in
    ap (λ r. by_rest target structure first by r otherwise) rest.1 ∙ sym (ap (λ r. by_rest target structure first by r other) rest.1)
met (Giving target value) path otherwise other h =
    let same = equal_as_names target path ∙ h in
    ap (λ b. by_equal b target value otherwise) same ∙ sym (ap (λ b. by_equal b target value other) same)

none_later : (o : Option ℕ) → option_map suc o ≡ None → o ≡ None
none_later None h = refl
none_later (Some i) h = absurd (cc)

-- Where no assignment reaches the path, nothing does.
pub reached_by_none : (path : Path) (items : List Assigned) → first_that (reaches path) items ≡ None → reached_by items path ≡ ByNone
unfolding reached_by
reached_by_none path [] h = refl
reached_by_none path (item ∷ items) h = reached_next item items path ∙ by (reaches path item) refl h (reached_by_none path items)
  where
    by : (b : Bool) → reaches path item ≡ b → cond b (Some 0) (option_map suc (first_that (reaches path) items)) ≡ None → (first_that (reaches path) items ≡ None → reached_by items path ≡ ByNone)
        → reached_through item path (reached_by items path) ≡ ByNone
    by true e g none = absurd (cc)
    by false e g none = missed item path (reached_by items path) e ∙ none (none_later (first_that (reaches path) items) g)

-- The first one that reaches the path decides.
pub reached_by_first : (path : Path) (items : List Assigned) (i : ℕ) (item : Assigned) → first_that (reaches path) items ≡ Some i → slice_get items i ≡ Some item
    → reached_by items path ≡ reached_through item path ByNone
reached_by_first path [] i item h there = absurd (cc)
reached_by_first path (next ∷ items) i item h there = reached_next next items path ∙ by (reaches path next) refl i h there (λ j. reached_by_first path items j item)
  where
    later : (o : Option ℕ) (j : ℕ) → option_map suc o ≡ Some j → (k : ℕ) × (o ≡ Some k) × (j ≡ suc k)
    later None j g = absurd (cc)
    later (Some k) j g = (k, refl, sym (same_Some _ _ g))

    by : (b : Bool) → reaches path next ≡ b → (j : ℕ) → cond b (Some 0) (option_map suc (first_that (reaches path) items)) ≡ Some j → slice_get (next ∷ items) j ≡ Some item
        → ((k : ℕ) → first_that (reaches path) items ≡ Some k → slice_get items k ≡ Some item → reached_by items path ≡ reached_through item path ByNone)
        → reached_through next path (reached_by items path) ≡ reached_through item path ByNone
    by true e j g here rest =
        let same : next ≡ item = same_Some _ _ (ap (slice_get (next ∷ items)) (same_Some _ _ g) ∙ here) in
        met next path (reached_by items path) ByNone e ∙ ap (λ (x : Assigned). reached_through x path ByNone) same
    by false e j g here rest =
        let found = later (first_that (reaches path) items) j g in
        missed next path (reached_by items path) e ∙ rest found.0 found.1 (ap (slice_get (next ∷ items)) (sym found.2) ∙ here)

-- It stands among them.
pub first_within : (test : Assigned → Bool) (items : List Assigned) (i : ℕ) → first_that test items ≡ Some i → i < length items
first_within test [] i h = absurd (cc)
first_within test (item ∷ items) i h = by (test item) (first_that test items) refl h (first_within test items)
  where
    by : (b : Bool) (o : Option ℕ) → first_that test items ≡ o → cond b (Some 0) (option_map suc o) ≡ Some i → ((j : ℕ) → first_that test items ≡ Some j → j < length items) → i < suc (length items)
    by true o e g rest =
        let same : 0 ≡ i = same_Some _ _ g in
        omega (arith, same)
    by false None e g rest = absurd (cc)
    by false (Some j) e g rest =
        let same : suc j ≡ i = same_Some _ _ g in
        let within = rest j e in
        omega (arith, same, within)

pub first_there : (test : Assigned → Bool) (items : List Assigned) (i : ℕ) → first_that test items ≡ Some i → (item : Assigned) × (slice_get items i ≡ Some item)
first_there test [] i h = absurd (cc)
first_there test (item ∷ items) i h = by (test item) (first_that test items) refl h (first_there test items)
  where
    by : (b : Bool) (o : Option ℕ) → first_that test items ≡ o → cond b (Some 0) (option_map suc o) ≡ Some i → ((j : ℕ) → first_that test items ≡ Some j → (other : Assigned) × (slice_get items j ≡ Some other))
        → (other : Assigned) × (slice_get (item ∷ items) i ≡ Some other)
    by true o e g rest = (item, ap (slice_get (item ∷ items)) (sym (same_Some _ _ g)))
    by false None e g rest = absurd (cc)
    by false (Some j) e g rest =
        let there = rest j e in
        (there.0, ap (slice_get (item ∷ items)) (sym (same_Some _ _ g)) ∙ there.1)
