-- Paths in a tree: what one more step changes, and that no two paths lead to one place.
use Rattle.std.proofs.Common.{◌≡◌, ℕ, zero, suc, ◌+◌, ◌<◌, ◌⊎◌, inl, inr, Bool, true, false, cond, ◌&&◌, ◌||◌, List, [], ◌∷◌, ◌++◌, length, take, get_or, position, fold, Option, Some, None, is_some, refl, sym, ap, ap₂, ◌∙◌, subst, arith}
use Rattle.std.specs.Prelude.{nat_eq, nat_lt}
use Rattle.std.specs.Borrow.{Bor}
use Rattle.std.specs.List.{find, list_any}
use Rattle.std.specs.Option.{option_map, option_or}
use Rattle.indexmap.specs.IndexSet.{insert_key}
use Rattle.std.proofs.lemmas.Bool.{eqb-true, eq-eqb, ltb-true, ltb-false}
use Rattle.std.proofs.lemmas.List.{length-append, take_more}
use Rattle.std.proofs.lemmas.List.Sums.{fold-append}
use Rattle.std.proofs.lemmas.List.Quantifiers.{position-Some}
use Rattle.name_meaning.specs.Names.{Name, Path, same_name}
use Rattle.term_trees.proofs.Below.Equality.{pointwise_sound, pointwise_itself}
use Rattle.lf_terms.proofs.FirstPlaces.{place_last}
use Rattle.lf_terms.proofs.Lookup.{none_found}
use Rattle.link_meaning.specs.Assignments.{is_beginning}
use Rattle.link_setting.specs.PathTrees.{go_on, leads, next_place, place_along, with_step, AreBegun, Stay}
use Rattle.link_setting.proofs.Beginnings.{begins_itself}
use Rattle.link_setting.specs.declared.path_tree.Step.{Step}

-- A path with one name more.
pub along_more : (steps : List Step) (path : Path) (name : Name) → place_along steps (path ++ name ∷ []) ≡ go_on steps (place_along steps path) name
along_more steps path name = fold-append (go_on steps) (Some 0) path (name ∷ [])

-- The names of a path, name by name.
pub along_next : (steps : List Step) (path : Path) (i : ℕ) (name : Name) → i < length path → name ≡ get_or path i name
    → place_along steps (take (i + 1) path) ≡ go_on steps (place_along steps (take i path)) name
along_next steps path i name within here =
    ap (place_along steps) (take_more path i name within ∙ ap (λ n. take i path ++ n ∷ []) (sym here)) ∙ along_more steps (take i path) name

-- From nowhere no path leads on.
pub nowhere : (steps : List Step) (path : Path) → fold (go_on steps) None path ≡ None
nowhere steps [] = refl
nowhere steps (name ∷ path) = nowhere steps path

module _ (steps : List Step) (new : Step) where
  abbrev more : List Step
  more = steps ++ new ∷ []

  step_stays : (from : ℕ) (name : Name) (place : ℕ) → next_place steps from name ≡ Some place → next_place more from name ≡ Some place
  step_stays from name place e = ap (option_map suc) (place_last (leads from name) steps new) ∙ by (position (leads from name) steps) (leads from name new) e
    where
      by : (o : Option ℕ) (b : Bool) → option_map suc o ≡ Some place → option_map suc (option_or o (cond b (Some (length steps)) None)) ≡ Some place
      by None b e = absurd (cc)
      by (Some i) b e = e

  go_stays : (from : Option ℕ) (name : Name) (place : ℕ) → go_on steps from name ≡ Some place → go_on more from name ≡ Some place
  go_stays None name place e = e
  go_stays (Some from) name place e = step_stays from name place e

  places_stay : (from : Option ℕ) (path : Path) (place : ℕ) → fold (go_on steps) from path ≡ Some place → fold (go_on more) from path ≡ Some place
  places_stay from [] place e = e
  places_stay from (name ∷ path) place e = by (go_on steps from name) refl e (λ i. places_stay (Some i) path place)
    where
      by : (o : Option ℕ) → go_on steps from name ≡ o → fold (go_on steps) o path ≡ Some place
          → ((i : ℕ) → fold (go_on steps) (Some i) path ≡ Some place → fold (go_on more) (Some i) path ≡ Some place)
          → fold (go_on more) (go_on more from name) path ≡ Some place
      by None h e rest = absurd (let none = nowhere steps path in cc)
      by (Some i) h e rest = ap (λ o. fold (go_on more) o path) (go_stays from name i h) ∙ rest i e

  -- One more step leaves the places of paths.
  pub stay_more : Stay steps more
  stay_more path place e = places_stay (Some 0) path place e

  leads_itself : leads new.from new.name.now new ≡ true
  leads_itself = (λ i. eq-eqb new.from new.from refl i && same_name new.name.now new.name.now) ∙ pointwise_itself nat_eq (λ i. eq-eqb i i refl) new.name.now

  -- It leads to the place behind all of them.
  pub new_leads : next_place steps new.from new.name.now ≡ None → next_place more new.from new.name.now ≡ Some (suc (length steps))
  new_leads none =
      ap (option_map suc) (place_last (leads new.from new.name.now) steps new)
      ∙ (λ i. option_map suc (option_or (position (leads new.from new.name.now) steps) (cond (leads_itself i) (Some (length steps)) None)))
      ∙ by (position (leads new.from new.name.now) steps) none
    where
      by : (o : Option ℕ) → option_map suc o ≡ None → option_map suc (option_or o (Some (length steps))) ≡ Some (suc (length steps))
      by None e = refl
      by (Some i) e = absurd (cc)

none_before : (o : Option ℕ) → option_map suc o ≡ None → o ≡ None
none_before None e = refl
none_before (Some i) e = absurd (cc)

any_found : (test : Step → Bool) (steps : List Step) → list_any test steps ≡ is_some (find test steps)
any_found test [] = refl
any_found test (step ∷ steps) = by (test step) (any_found test steps)
  where
    by : (b : Bool) → list_any test steps ≡ is_some (find test steps) → (b || list_any test steps) ≡ is_some (cond b (Some step) (find test steps))
    by true h = refl
    by false h = h

-- A step that is not there comes behind the others.
pub pushed : (steps : List Step) (new : Step) → next_place steps new.from new.name.now ≡ None → insert_key (λ (a b : Step). leads a.from a.name.now b) steps new ≡ steps ++ new ∷ []
pushed steps new none =
    ap (λ b. cond b steps (steps ++ new ∷ []))
    (any_found (leads new.from new.name.now) steps ∙ ap is_some (none_found (leads new.from new.name.now) steps (none_before (position (leads new.from new.name.now) steps) none)))

both : (a b : Bool) → (a && b) ≡ true → (a ≡ true) × (b ≡ true)
both true b h = (refl, h)
both false b h = absurd (cc)

step_found : (from : ℕ) (name : Name) (step : Step) → leads from name step ≡ true → (from ≡ step.from) × (name ≡ step.name.now)
step_found from name step h =
    let parts = both (nat_eq from step.from) (same_name name step.name.now) h in
    (eqb-true from step.from parts.0, pointwise_sound nat_eq eqb-true name step.name.now parts.1)

found_before : (o : Option ℕ) (i : ℕ) → option_map suc o ≡ Some (suc i) → o ≡ Some i
found_before None i e = absurd (cc)
found_before (Some j) i e = cc

-- One step leads to a place.
one_step : (steps : List Step) (a b : ℕ) (n m : Name) (place : ℕ) → next_place steps a n ≡ Some place → next_place steps b m ≡ Some place → (a ≡ b) × (n ≡ m)
one_step steps a b n m zero e h = absurd (behind_root (position (leads a n) steps) e)
  where
    behind_root : (o : Option ℕ) → option_map suc o ≡ Some 0 → ⊥
    behind_root None e = cc
    behind_root (Some i) e = cc
one_step [] a b n m (suc i) e h = absurd (cc)
one_step (step ∷ steps) a b n m (suc i) e h =
    let first = position-Some (leads a n) (step ∷ steps) i step (found_before (position (leads a n) (step ∷ steps)) i e) in
    let second = position-Some (leads b m) (step ∷ steps) i step (found_before (position (leads b m) (step ∷ steps)) i h) in
    let p = step_found a n (get_or (step ∷ steps) i step) first.1 in
    let q = step_found b m (get_or (step ∷ steps) i step) second.1 in
    (p.0 ∙ sym q.0, p.1 ∙ sym q.1)

-- The same place, of a path whose last name comes first.
abbrev back : List Step → Path → Option ℕ
back steps [] = Some 0
back steps (name ∷ path) = go_on steps (back steps path) name

behind : (steps : List Step) (from : Option ℕ) (name : Name) → go_on steps from name ≡ Some 0 → ⊥
behind steps None name e = cc
behind steps (Some from) name e = by (position (leads from name) steps) e
  where
    by : (o : Option ℕ) → option_map suc o ≡ Some 0 → ⊥
    by None e = cc
    by (Some i) e = cc

one_back : (steps : List Step) (r s : Path) (place : ℕ) → back steps r ≡ Some place → back steps s ≡ Some place → r ≡ s
one_back steps [] [] place e h = refl
one_back steps [] (m ∷ s) place e h = absurd (behind steps (back steps s) m (h ∙ sym e))
one_back steps (n ∷ r) [] place e h = absurd (behind steps (back steps r) n (e ∙ sym h))
one_back steps (n ∷ r) (m ∷ s) place e h = by (back steps r) (back steps s) refl refl e h (λ a. one_back steps r s a)
  where
    by : (a b : Option ℕ) → back steps r ≡ a → back steps s ≡ b → go_on steps a n ≡ Some place → go_on steps b m ≡ Some place
        → ((i : ℕ) → back steps r ≡ Some i → back steps s ≡ Some i → r ≡ s) → n ∷ r ≡ m ∷ s
    by None b p q e h rest = absurd (cc)
    by (Some a) None p q e h rest = absurd (cc)
    by (Some a) (Some b) p q e h rest =
        let same = one_step steps a b n m place e h in
        ap₂ (λ name path. name ∷ path) same.1 (rest a p (q ∙ ap Some (sym same.0)))

abbrev turned : Path → Path → Path
turned [] rest = rest
turned (name ∷ path) rest = turned path (name ∷ rest)

along_back : (steps : List Step) (path rest : Path) → fold (go_on steps) (back steps rest) path ≡ back steps (turned path rest)
along_back steps [] rest = refl
along_back steps (name ∷ path) rest = along_back steps path (name ∷ rest)

turned_twice : (path rest : Path) → turned (turned path rest) [] ≡ turned rest path
turned_twice [] rest = refl
turned_twice (name ∷ path) rest = turned_twice path (name ∷ rest)

-- No two paths lead to one place.
pub one_path : (steps : List Step) (path other : Path) (place : ℕ) → place_along steps path ≡ Some place → place_along steps other ≡ Some place → path ≡ other
one_path steps path other place e h =
    let same = one_back steps (turned path []) (turned other []) place (sym (along_back steps path []) ∙ e) (sym (along_back steps other []) ∙ h) in
    sym (turned_twice path []) ∙ ap (λ p. turned p []) same ∙ turned_twice other []

-- One more name of a path, by a step that is new.
module _ (initial steps : List Step) (path : Path) (i at : ℕ) (name : Bor Name) (within : i < length path) (here : name.now ≡ get_or path i name.now)
    (so_far : place_along steps (take i path) ≡ Some at) (none : next_place steps at name.now ≡ None) where
  abbrev new_step : Step
  new_step = record { from = at; name = name }

  pub name_leads : place_along (with_step steps at name) (take (i + 1) path) ≡ Some (suc (length steps))
  name_leads =
      along_next (with_step steps at name) path i name.now within here
      ∙ ap (λ o. go_on (with_step steps at name) o name.now) (stay_more steps new_step (take i path) at so_far)
      ∙ new_leads steps new_step none

  pub stay_behind : Stay initial steps → Stay initial (with_step steps at name)
  stay_behind stay other place e = stay_more steps new_step other place (stay other place e)

  pub begun_more : AreBegun initial steps path → AreBegun initial (with_step steps at name) path
  begun_more begun j within_more = by (nat_lt j (length steps)) refl
    where
      by : (b : Bool) → nat_lt j (length steps) ≡ b
          → (j < length initial) ⊎ ((beginning : Path) × (place_along (with_step steps at name) beginning ≡ Some (suc j)) × (is_beginning beginning path ≡ true))
      by true e =
          elim (begun j (ltb-true j (length steps) e)) [
            | inl old ↦ inl old
            | inr there ↦ inr (there.0, stay_more steps new_step there.0 (suc j) there.1, there.2)
          ]
      by false e =
          let past = ltb-false j (length steps) e in
          let longer = length-append steps (new_step ∷ []) in
          let last : length steps ≡ j = omega (arith, past, longer, within_more) in
          inr (take (i + 1) path, name_leads ∙ ap (λ n. Some (suc n)) last, begins_itself (i + 1) path)

-- The same, of a tree that has the step, and of a path whose names these are.
pub one_more : (initial steps next : List Step) (names path : Path) (i at place : ℕ) (name : Bor Name) → next ≡ with_step steps at name → place ≡ suc (length steps) → names ≡ path
    → i < length names → name.now ≡ get_or names i name.now → place_along steps (take i names) ≡ Some at → next_place steps at name.now ≡ None
    → Stay initial steps → AreBegun initial steps path
    → (place_along next (take (i + 1) names) ≡ Some place) × Stay initial next × AreBegun initial next path
one_more initial steps next names path i at place name grown counted same within here so_far none stay begun =
    subst (λ tree. (place_along tree (take (i + 1) names) ≡ Some place) × Stay initial tree × AreBegun initial tree path) (sym grown) (
      name_leads initial steps names i at name within here so_far none ∙ ap Some (sym counted),
      stay_behind initial steps names i at name within here so_far none stay,
      subst (AreBegun initial (with_step steps at name)) same
          (begun_more initial steps names i at name within here so_far none (subst (AreBegun initial steps) (sym same) begun)),
    )
