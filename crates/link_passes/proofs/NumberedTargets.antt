-- The targets of assignments in a tree: one assignment more.
use Rattle.std.proofs.Common.{◌≡◌, ℕ, Bool, true, false, cond, List, [], ◌∷◌, ◌++◌, length, Option, Some, None, refl, sym, ap, ◌∙◌}
use Rattle.std.specs.Prelude.{nat_eq}
use Rattle.std.specs.Option.{option_or}
use Rattle.std.proofs.lemmas.Bool.{eqb-true, eq-eqb}
use Rattle.std.proofs.lemmas.Option.{same_Some}
use Rattle.list_laws.proofs.Booleans.{both_ways}
use Rattle.name_meaning.specs.Names.{Path}
use Rattle.lf_terms.specs.Tables.{same_path}
use Rattle.lf_terms.proofs.FirstPlaces.{same_path_sound, same_path_itself}
use Rattle.link_meaning.specs.Assignments.{Assigned}
use Rattle.link_setting.specs.PathTrees.{place_along, Stay}
use Rattle.link_setting.specs.declared.path_tree.Step.{Step}
use Rattle.link_setting.proofs.PathTrees.{one_path}
use Rattle.link_passes.specs.Targets.{first_that, number_along, number_at, numbered_more, Numbers}
use Rattle.link_passes.proofs.FirstNumbers.{first_last}

-- One assignment more, for which numbers may come.
module _ (old new : List Step) (before after : List (ℕ × ℕ)) (test : Path → Assigned → Bool) (items : List Assigned) (item : Assigned) (more : ℕ → Option ℕ)
    (stay : Stay old new) (grown : (place : ℕ) → number_at after place ≡ option_or (number_at before place) (more place))
    (here : (path : Path) (place : ℕ) → place_along new path ≡ Some place → more place ≡ cond (test path item) (Some (length items)) None)
    (elsewhere : (path : Path) → place_along new path ≡ None → test path item ≡ false)
    (led : (place number : ℕ) → more place ≡ Some number → (path : Path) × (place_along new path ≡ Some place)) (numbers : Numbers old before test items) where
  abbrev last : Path → Option ℕ
  last path = cond (test path item) (Some (length items)) None

  -- A place that is new had no number.
  unnumbered : (path : Path) (place : ℕ) → place_along old path ≡ None → place_along new path ≡ Some place → number_at before place ≡ None
  unnumbered path place nowhere there = by (number_at before place) refl
    where
      by : (o : Option ℕ) → number_at before place ≡ o → o ≡ None
      by None e = refl
      by (Some number) e =
          let other = numbers.led place number e in
          let same = one_path new other.0 path place (stay other.0 place other.1) there in
          let both : None ≡ Some place = sym nowhere ∙ ap (place_along old) (sym same) ∙ other.1 in
          absurd (cc)

  found_more : (path : Path) → number_along after (place_along new path) ≡ first_that (test path) (items ++ item ∷ [])
  found_more path = by (place_along old path) (place_along new path) refl refl (numbers.first path) ∙ sym (first_last (test path) items item)
    where
      by : (o n : Option ℕ) → place_along old path ≡ o → place_along new path ≡ n → number_along before o ≡ first_that (test path) items
          → number_along after n ≡ option_or (first_that (test path) items) (last path)
      by None None e f h = λ i. option_or (h i) (cond (sym (elsewhere path f) i) (Some (length items)) None)
      by None (Some place) e f h = grown place ∙ (λ i. option_or ((unnumbered path place e f ∙ h) i) (here path place f i))
      by (Some place) None e f h = absurd (let both : None ≡ Some place = sym f ∙ stay path place e in cc)
      by (Some place) (Some other) e f h =
          let same : other ≡ place = same_Some _ _ (sym f ∙ stay path place e) in
          grown other ∙ (λ i. option_or ((ap (number_at before) same ∙ h) i) (here path other f i))

  led_more : (place number : ℕ) → number_at after place ≡ Some number → (path : Path) × (place_along new path ≡ Some place)
  led_more place number e = by (number_at before place) refl (sym (grown place) ∙ e)
    where
      by : (o : Option ℕ) → number_at before place ≡ o → option_or o (more place) ≡ Some number → (path : Path) × (place_along new path ≡ Some place)
      by None f h = led place number h
      by (Some known) f h =
          let there = numbers.led place known f in
          (there.0, stay there.0 place there.1)

  pub numbers_more : Numbers new after test (items ++ item ∷ [])
  numbers_more = record { first = found_more; led = led_more }

or_none : (o : Option ℕ) → o ≡ option_or o None
or_none None = refl
or_none (Some number) = refl

-- An assignment that the test does not ask about.
pub numbers_stay : (old new : List Step) (numbers : List (ℕ × ℕ)) (test : Path → Assigned → Bool) (items : List Assigned) (item : Assigned) → Stay old new → ((path : Path) → test path item ≡ false)
    → Numbers old numbers test items → Numbers new numbers test (items ++ item ∷ [])
numbers_stay old new numbers test items item stay not =
    numbers_more old new numbers numbers test items item (λ place. None) stay (λ place. or_none (number_at numbers place)) (λ path place there. sym (ap (λ b. cond b (Some (length items)) None) (not path)))
    (λ path nowhere. not path) (λ place number e. absurd (cc))

-- One whose target leads to a place, for which its number is noted.
module _ (old new : List Step) (before after : List (ℕ × ℕ)) (test : Path → Assigned → Bool) (items : List Assigned) (item : Assigned) (target : Path) (place number : ℕ)
    (counted : length items ≡ number) (stay : Stay old new) (leads : place_along new target ≡ Some place)
    (noted : (other : ℕ) → number_at after other ≡ numbered_more (number_at before other) place number other) (asks : (path : Path) → test path item ≡ same_path target path) where
  same_place : (path : Path) (other : ℕ) → place_along new path ≡ Some other → nat_eq other place ≡ same_path target path
  same_place path other there = both_ways (nat_eq other place) (same_path target path) forward backward
    where
      forward : nat_eq other place ≡ true → same_path target path ≡ true
      forward e = ap (same_path target) (sym (one_path new target path place leads (there ∙ ap Some (eqb-true other place e)))) ∙ same_path_itself target

      backward : same_path target path ≡ true → nat_eq other place ≡ true
      backward e = eq-eqb other place (same_Some _ _ (sym there ∙ ap (place_along new) (sym (same_path_sound target path e)) ∙ leads))

  not_there : (path : Path) → place_along new path ≡ None → same_path target path ≡ false
  not_there path nowhere = by (same_path target path) refl
    where
      by : (b : Bool) → same_path target path ≡ b → b ≡ false
      by false e = refl
      by true e = absurd (let both : None ≡ Some place = sym nowhere ∙ ap (place_along new) (sym (same_path_sound target path e)) ∙ leads in cc)

  led_there : (other found : ℕ) → cond (nat_eq other place) (Some number) None ≡ Some found → (path : Path) × (place_along new path ≡ Some other)
  led_there other found e = by (nat_eq other place) refl e
    where
      by : (b : Bool) → nat_eq other place ≡ b → cond b (Some number) None ≡ Some found → (path : Path) × (place_along new path ≡ Some other)
      by true f h = (target, leads ∙ ap Some (sym (eqb-true other place f)))
      by false f h = absurd (cc)

  pub numbers_noted : Numbers old before test items → Numbers new after test (items ++ item ∷ [])
  numbers_noted =
      numbers_more old new before after test items item (λ other. cond (nat_eq other place) (Some number) None) stay noted
      (λ path other there. λ i. cond ((same_place path other there ∙ sym (asks path)) i) (Some (sym counted i)) None)
      (λ path nowhere. asks path ∙ not_there path nowhere) led_there
