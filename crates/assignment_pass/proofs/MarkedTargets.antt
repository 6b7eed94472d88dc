-- Targets in a tree: one target more, and whether a path overlaps one of them.
use Rattle.std.proofs.Common.{◌≡◌, ℕ, zero, suc, ◌+◌, ◌<◌, ◌≤◌, ◌⊎◌, inl, inr, Bool, true, false, cond, not, ◌&&◌, ◌||◌, List, [], ◌∷◌, ◌++◌, length, take, fold, position, Option, Some, None, is_none, refl, sym, ap, ◌∙◌, subst, arith}
use Rattle.std.specs.Prelude.{nat_eq}
use Rattle.std.specs.List.{list_any}
use Rattle.std.specs.Option.{option_map}
use Rattle.std.proofs.lemmas.Bool.{eqb-true, eq-eqb}
use Rattle.std.proofs.lemmas.List.Folds.{list_any-append}
use Rattle.std.proofs.lemmas.List.Sums.{fold-append}
use Rattle.indexmap.specs.IndexSet.{insert_key}
use Rattle.name_meaning.specs.Names.{Name, Path, same_name}
use Rattle.name_laws.proofs.Order.{same_sound}
use Rattle.list_laws.proofs.Booleans.{both_ways}
use Rattle.list_laws.proofs.Places.{take_length}
use Rattle.list_laws.proofs.Members.{Member, any_found, any_none, any_not, any_of}
use Rattle.lf_terms.specs.Tables.{same_path}
use Rattle.lf_terms.proofs.FirstPlaces.{place_within, same_path_sound, same_path_itself}
use Rattle.link_meaning.specs.Assignments.{is_beginning, is_free, overlap}
use Rattle.link_setting.specs.PathTrees.{go_on, leads, place_along, steps_of, AreBegun, Stay}
use Rattle.link_setting.specs.declared.path_tree.Step.{Step}
use Rattle.link_setting.proofs.Beginnings.{begins_before, begins_next, begins_itself}
use Rattle.link_setting.proofs.PathTrees.{nowhere, one_path}
use Rattle.assignment_pass.specs.Steps.{earlier_targets, is_end, AreTabled}
use Rattle.assignment_pass.specs.declared.targets.Targets.{Targets}

-- Behind a beginning is the rest.
behind : (beginning path : Path) → is_beginning beginning path ≡ true → (rest : Path) × (path ≡ beginning ++ rest)
unfolding is_beginning
behind [] path h = (path, refl)
behind (name ∷ beginning) [] h = absurd (cc)
behind (name ∷ beginning) (other ∷ path) h = by (same_name name other) refl h (behind beginning path)
  where
    by : (b : Bool) → same_name name other ≡ b → (b && is_beginning beginning path) ≡ true → (is_beginning beginning path ≡ true → (rest : Path) × (path ≡ beginning ++ rest))
        → (rest : Path) × (other ∷ path ≡ name ∷ (beginning ++ rest))
    by true e h more =
        let there = more h in
        (there.0, ap (λ n. n ∷ path) (sym (same_sound name other e)) ∙ ap (λ p. name ∷ p) there.1)
    by false e h more = absurd (cc)

-- A beginning has at most as many names.
begins_all : (path other : Path) → begins_before (suc (length path)) path other ≡ is_beginning other path
unfolding is_beginning
begins_all path [] = refl
begins_all [] (name ∷ other) = refl
begins_all (first ∷ path) (name ∷ other) = ap (λ b. same_name name first && b) (begins_all path other)

-- A place to which names lead is behind a step.
led_within : (steps : List Step) (from : Option ℕ) (name : Name) (path : Path) (place : ℕ) → fold (go_on steps) from (name ∷ path) ≡ Some place → (i : ℕ) × (place ≡ suc i) × (i < length steps)
led_within steps from name (next ∷ path) place e = led_within steps (go_on steps from name) next path place e
led_within steps None name [] place e = absurd (cc)
led_within steps (Some from) name [] place e = by (position (leads from name) steps) refl e
  where
    by : (o : Option ℕ) → position (leads from name) steps ≡ o → option_map suc o ≡ Some place → (i : ℕ) × (place ≡ suc i) × (i < length steps)
    by None p h = absurd (cc)
    by (Some i) p h = (i, cc, place_within (leads from name) steps i p)

-- No beginning has less than no names.
pub none_shorter : (path : Path) (paths : List Path) → list_any (begins_before zero path) paths ≡ false
none_shorter path [] = refl
none_shorter path (other ∷ paths) = none_shorter path paths

module _ (targets : Targets) (tabled : AreTabled targets) where
  abbrev earlier : List Path
  earlier = earlier_targets targets

  abbrev steps : List Step
  steps = steps_of targets.tree

  -- The marks tell which paths are targets.
  marks_tell : (path : Path) (at : Option ℕ) → place_along steps path ≡ at → is_end targets at ≡ list_any (λ (target : Path). same_path target path) earlier
  marks_tell path at e = both_ways (is_end targets at) (list_any (λ (target : Path). same_path target path) earlier) (forward at e) backward
    where
      forward : (o : Option ℕ) → place_along steps path ≡ o → is_end targets o ≡ true → list_any (λ (target : Path). same_path target path) earlier ≡ true
      forward None p m = absurd (cc)
      forward (Some place) p m =
          let there = tabled.marked place m in
          any_of (λ (target : Path). same_path target path) earlier there.0 there.1
          (ap (λ (target : Path). same_path target path) (one_path steps there.0 path place there.2 p) ∙ same_path_itself path)

      backward : list_any (λ (target : Path). same_path target path) earlier ≡ true → is_end targets at ≡ true
      backward found =
          let there = any_found (λ (target : Path). same_path target path) earlier found in
          let led = tabled.lead there.0 there.1 in
          ap (is_end targets) (sym e ∙ ap (place_along steps) (sym (same_path_sound there.0 path there.2)) ∙ led.1) ∙ led.2

  -- Where a beginning of the path is a target, the path is not free.
  pub not_free : (path : Path) (count : ℕ) (at : Option ℕ) → place_along steps (take count path) ≡ at → is_end targets at ≡ true → false ≡ is_free earlier path
  not_free path count at e m =
      let there = any_found (λ (target : Path). same_path target (take count path)) earlier (sym (marks_tell (take count path) at e) ∙ m) in
      let begins : is_beginning there.0 path ≡ true = ap (λ p. is_beginning p path) (same_path_sound there.0 (take count path) there.2) ∙ begins_itself count path in
      sym (ap not (any_of (overlap path) earlier there.0 there.1 (ap (λ b. is_beginning path there.0 || b) begins ∙ or_true (is_beginning path there.0))))
    where
      or_true : (b : Bool) → (b || true) ≡ true
      or_true true = refl
      or_true false = refl

  -- The next longer beginning is no target either.
  pub apart_more : (path : Path) (count : ℕ) (at : Option ℕ) → count ≤ length path → place_along steps (take count path) ≡ at → is_end targets at ≡ false
      → list_any (begins_before count path) earlier ≡ false → list_any (begins_before (suc count) path) earlier ≡ false
  apart_more path count at within e unmarked apart =
      any_none (begins_before (suc count) path) earlier (λ target member.
      begins_next count path target within
      ∙ (λ i. any_not (begins_before count path) earlier target apart member i
      || any_not (λ (other : Path). same_path other (take count path)) earlier target (sym (marks_tell (take count path) at e) ∙ unmarked) member i))

  -- Where no shorter beginning is a target, the path is free exactly where it leads nowhere.
  pub free_nowhere : (path : Path) (at : Option ℕ) → 0 < length path → place_along steps path ≡ at → list_any (begins_before (length path) path) earlier ≡ false → is_none at ≡ is_free earlier path
  free_nowhere [] at some e apart = absurd (omega (arith, some))
  free_nowhere (name ∷ rest) (Some place) some e apart =
      let led = led_within steps (Some 0) name rest place e in
      let begun = tabled.begun led.0 led.2 in
      let same = one_path steps begun.0 (name ∷ rest) (suc led.0) begun.1 (e ∙ ap Some led.1) in
      let there = any_found (is_beginning begun.0) earlier begun.2 in
      let begins : is_beginning (name ∷ rest) there.0 ≡ true = ap (λ p. is_beginning p there.0) (sym same) ∙ there.2 in
      sym (ap not (any_of (overlap (name ∷ rest)) earlier there.0 there.1 (ap (λ b. b || is_beginning there.0 (name ∷ rest)) begins)))
  free_nowhere (name ∷ rest) None some e apart =
      sym (ap not (any_none (overlap (name ∷ rest)) earlier (λ target member.
      λ i. not_longer target member i || not_shorter target member i)))
    where
      path : Path
      path = name ∷ rest

      not_longer : (target : Path) → Member target earlier → is_beginning path target ≡ false
      not_longer target member = by (is_beginning path target) refl
        where
          by : (b : Bool) → is_beginning path target ≡ b → b ≡ false
          by false h = refl
          by true h =
              let there = behind path target h in
              let led = tabled.lead target member in
              let lost : place_along steps target ≡ None =
              ap (place_along steps) there.1 ∙ fold-append (go_on steps) (Some 0) path there.0 ∙ ap (λ o. fold (go_on steps) o there.0) e ∙ nowhere steps there.0 in
              absurd (let both : None ≡ Some led.0 = sym lost ∙ led.1 in cc)

      not_same : (target : Path) → Member target earlier → same_path target (take (length path) path) ≡ false
      not_same target member = by (same_path target (take (length path) path)) refl
        where
          by : (b : Bool) → same_path target (take (length path) path) ≡ b → b ≡ false
          by false h = refl
          by true h =
              let led = tabled.lead target member in
              let lost : place_along steps target ≡ None = ap (place_along steps) (same_path_sound target (take (length path) path) h ∙ take_length path) ∙ e in
              absurd (let both : None ≡ Some led.0 = sym lost ∙ led.1 in cc)

      not_shorter : (target : Path) → Member target earlier → is_beginning target path ≡ false
      not_shorter target member =
          sym (begins_all path target) ∙ begins_next (length path) path target (omega arith)
          ∙ (λ i. any_not (begins_before (length path) path) earlier target apart member i || not_same target member i)

-- One more mark.
marked_more : (keys : List ℕ) (place other : ℕ) → list_any (nat_eq other) (insert_key nat_eq keys place) ≡ (list_any (nat_eq other) keys || nat_eq other place)
marked_more keys place other = by (list_any (nat_eq place) keys) refl
  where
    or_false : (a b : Bool) → (a || (b || false)) ≡ (a || b)
    or_false true b = refl
    or_false false true = refl
    or_false false false = refl

    there_already : (a b : Bool) → nat_eq other place ≡ b → list_any (nat_eq other) keys ≡ a → list_any (nat_eq place) keys ≡ true → a ≡ (a || b)
    there_already true b e h there = refl
    there_already false false e h there = refl
    there_already false true e h there = absurd (let same : list_any (nat_eq other) keys ≡ true = ap (λ n. list_any (nat_eq n) keys) (eqb-true other place e) ∙ there in cc)

    by : (b : Bool) → list_any (nat_eq place) keys ≡ b → list_any (nat_eq other) (cond b keys (keys ++ place ∷ [])) ≡ (list_any (nat_eq other) keys || nat_eq other place)
    by true e = there_already (list_any (nat_eq other) keys) (nat_eq other place) refl refl e
    by false e = list_any-append (nat_eq other) keys (place ∷ []) ∙ or_false (list_any (nat_eq other) keys) (nat_eq other place)

-- One more target.
module _ (old new : Targets) (path : Path) (place : ℕ) (longer : earlier_targets new ≡ path ∷ earlier_targets old) (keys : new.ends.keys ≡ insert_key nat_eq old.ends.keys place)
    (here : place_along (steps_of new.tree) path ≡ Some place) (stay : Stay (steps_of old.tree) (steps_of new.tree)) (begun : AreBegun (steps_of old.tree) (steps_of new.tree) path) (tabled : AreTabled old) where
  more : (other : ℕ) → list_any (nat_eq other) new.ends.keys ≡ (list_any (nat_eq other) old.ends.keys || nat_eq other place)
  more other = ap (list_any (nat_eq other)) keys ∙ marked_more old.ends.keys place other

  marked_then : (other : ℕ) → list_any (nat_eq other) new.ends.keys ≡ true → (target : Path) × Member target (earlier_targets new) × (place_along (steps_of new.tree) target ≡ Some other)
  marked_then other m = by (list_any (nat_eq other) old.ends.keys) (nat_eq other place) refl refl (sym (more other) ∙ m)
    where
      by : (a b : Bool) → list_any (nat_eq other) old.ends.keys ≡ a → nat_eq other place ≡ b → (a || b) ≡ true
          → (target : Path) × Member target (earlier_targets new) × (place_along (steps_of new.tree) target ≡ Some other)
      by true b e f h =
          let there = tabled.marked other e in
          (there.0, subst (Member there.0) (sym longer) (inr there.1), stay there.0 other there.2)
      by false true e f h = (path, subst (Member path) (sym longer) (inl refl), here ∙ ap Some (sym (eqb-true other place f)))
      by false false e f h = absurd (cc)

  lead_then : (target : Path) → Member target (earlier_targets new) → (other : ℕ) × (place_along (steps_of new.tree) target ≡ Some other) × (list_any (nat_eq other) new.ends.keys ≡ true)
  lead_then target member =
      elim (subst (Member target) longer member) [
        | inl same ↦ (place, ap (place_along (steps_of new.tree)) same ∙ here, more place ∙ ap (λ b. list_any (nat_eq place) old.ends.keys || b) (eq-eqb place place refl) ∙ or_true (list_any (nat_eq place) old.ends.keys))
        | inr before ↦
            let led = tabled.lead target before in
            (led.0, stay target led.0 led.1, more led.0 ∙ ap (λ b. b || nat_eq led.0 place) led.2)
      ]
    where
      or_true : (b : Bool) → (b || true) ≡ true
      or_true true = refl
      or_true false = refl

  begun_then : (i : ℕ) → i < length (steps_of new.tree) → (beginning : Path) × (place_along (steps_of new.tree) beginning ≡ Some (suc i)) × (list_any (is_beginning beginning) (earlier_targets new) ≡ true)
  begun_then i within =
      elim (begun i within) [
        | inl before ↦
            let there = tabled.begun i before in
            (there.0, stay there.0 (suc i) there.1, ap (list_any (is_beginning there.0)) longer ∙ ap (λ b. is_beginning there.0 path || b) there.2 ∙ or_true (is_beginning there.0 path))
        | inr there ↦ (there.0, there.1, ap (list_any (is_beginning there.0)) longer ∙ ap (λ b. b || list_any (is_beginning there.0) (earlier_targets old)) there.2)
      ]
    where
      or_true : (b : Bool) → (b || true) ≡ true
      or_true true = refl
      or_true false = refl

  pub tabled_more : AreTabled new
  tabled_more = record { marked = marked_then; lead = lead_then; begun = begun_then }
