-- The place of the only theory with a constant at a path, against the constants that the theories have there.
use Rattle.std.proofs.Common.{◌≡◌, ℕ, suc, ◌+◌, ◌<◌, ◌≤◌, Bool, true, false, cond, List, [], ◌∷◌, ◌++◌, Option, Some, None, is_some, refl, sym, ap, ◌∙◌, subst, arith, take, length, get_or, append_assoc}
use Rattle.std.specs.Prelude.{nat_eq, option_to_list, slice_get, filter_map}
use Rattle.std.specs.Borrow.{Bor}
use Rattle.std.specs.List.{HoldsAt}
use Rattle.std.specs.Option.{option_copied, MatchOption}
use Rattle.std.proofs.lemmas.Option.{slice_get_past, slice_get-get_or}
use Rattle.std.specs.Map.{lookup}
use Rattle.std.proofs.lemmas.Bool.{eqb-true, eq-eqb}
use Rattle.std.proofs.lemmas.List.{take_more}
use Rattle.std.proofs.lemmas.List.Elements.{filter_map-append}
use Rattle.std.proofs.lemmas.List.{length-append}
use Rattle.list_laws.proofs.Places.{place_within, get_front, get_last, length_take}
use Rattle.name_meaning.specs.Names.{Name, Path}
use Rattle.lf_terms.proofs.FirstPlaces.{same_path_sound}
use Rattle.lf_meaning.specs.Signatures.{Declaration, Signature}
use Rattle.library_meaning.specs.Faces.{Environment, own_part}
use Rattle.library_meaning.specs.Resolution.{Declared, Unknown, Ambiguous, has_path, own_at, same_path, the_only}
use Rattle.names.specs.IncludedTables.{Place, next_place, place_among, place_from, place_in, with_declaration, with_own}
use Rattle.names.proofs.Included.{constants_at}

-- What a slice lends at an index.
pub lent_at : {X : Type 0} (xs : List X) (i : ℕ) (r : Option (Bor X)) → MatchOption r (length xs ≤ i) (λ (b : Bor X). (i < length xs) × HoldsAt (λ (y : X). b.now ≡ y) xs i) → option_copied r ≡ slice_get xs i
lent_at xs i None h = sym (slice_get_past xs i h)
lent_at xs i (Some b) h = sym (slice_get-get_or xs i b.now h.0 ∙ ap (λ x. Some x) (sym (h.1 b.now)))

-- ---- constants of one theory

module _ (place : ℕ) (path : Path) where
  -- all declarations of the theory
  pub with_all : Place → Signature → Place
  with_all known [] = known
  with_all known (d ∷ own) = with_all (with_declaration place path known d) own

  pub all_none : (known : Place) → with_all known [] ≡ known
  unfolding with_all
  all_none known = refl

  pub all_more : (known : Place) (own : Signature) (d : Declaration) → with_all known (own ++ d ∷ []) ≡ with_declaration place path (with_all known own) d
  unfolding with_all
  all_more known [] d = refl
  all_more known (e ∷ own) d = all_more (with_declaration place path known e) own d

  -- the theory counts once
  again : (known : Place) → next_place place (Some (next_place place known)) ≡ next_place place known
  again None = ap (λ b. cond b (Some place) None) (eq-eqb place place refl)
  again (Some None) = refl
  again (Some (Some first)) = by (nat_eq first place)
    where
      by : (b : Bool) → next_place place (Some (cond b (Some place) None)) ≡ cond b (Some place) None
      by true = ap (λ b. cond b (Some place) None) (eq-eqb place place refl)
      by false = refl

  settled : (known : Place) (own : Signature) → with_all (Some (next_place place known)) own ≡ Some (next_place place known)
  unfolding with_all
  settled known [] = refl
  settled known (d ∷ own) = ap (λ k. with_all k own) (by (has_path path d)) ∙ settled known own
    where
      by : (b : Bool) → cond b (Some (next_place place (Some (next_place place known)))) (Some (next_place place known)) ≡ Some (next_place place known)
      by true = ap (λ o. Some o) (again known)
      by false = refl

  pub all_own : (known : Place) (own : Signature) → with_all known own ≡ with_own place path known own
  unfolding with_all
  all_own known [] = refl
  all_own known (d ∷ own) = by (has_path path d) (all_own known own)
    where
      by : (b : Bool) → with_all known own ≡ with_own place path known own → with_all (cond b (Some (next_place place known)) known) own ≡ cond (is_some (cond b (Some d) (own_at own path))) (Some (next_place place known)) known
      by true rest = settled known own
      by false rest = rest

-- One declaration more in a table.
pub constant_placed : (place : ℕ) (before after : List (Path × Option ℕ)) (d : Declaration) (next : Option ℕ) (path : Path)
    → ((q : Path) → lookup (same_path q) after ≡ cond (same_path d.name.path q) (Some next) (lookup (same_path q) before))
    → next ≡ next_place place (place_in before d.name.path) → place_in after path ≡ with_declaration place path (place_in before path) d
constant_placed place before after d next path updated is = updated path ∙ by (same_path d.name.path path) refl
  where
    by : (b : Bool) → same_path d.name.path path ≡ b
        → cond b (Some next) (place_in before path) ≡ cond b (Some (next_place place (place_in before path))) (place_in before path)
    by true e = ap (λ o. Some o) (is ∙ ap (λ p. next_place place (place_in before p)) (same_path_sound d.name.path path e))
    by false e = refl

-- ---- theory after theory

module _ (environment : Environment) (path : Path) where
  from_more : (first : ℕ) (known : Place) (theories : List Name) (theory : Name)
      → place_from first environment path known (theories ++ theory ∷ []) ≡ with_own (length theories + first) path (place_from first environment path known theories) (own_part environment theory)
  from_more first known [] theory =
      let none : first ≡ 0 + first = omega arith in
      ap (λ n. with_own n path known (own_part environment theory)) none
  from_more first known (t ∷ theories) theory =
      let moved : length theories + suc first ≡ length (t ∷ theories) + first = omega arith in
      let more = from_more (suc first) (with_own first path known (own_part environment t)) theories theory in
      more ∙ ap (λ n. with_own n path (place_from (suc first) environment path (with_own first path known (own_part environment t)) theories) (own_part environment theory)) moved

  -- the next theory
  pub among_more : (theories : List Name) (count : ℕ) (theory : Name) → count < length theories → theory ≡ get_or theories count theory
      → place_among environment path (take (count + 1) theories) ≡ with_own count path (place_among environment path (take count theories)) (own_part environment theory)
  among_more theories count theory within here =
      let long : length (take count theories) + 0 ≡ count = (let taken = length_take theories count (omega (arith, within)) in omega (arith, taken)) in
      ap (place_among environment path) (take_more theories count theory within ∙ ap (λ n. take count theories ++ n ∷ []) (sym here))
      ∙ from_more 0 None (take count theories) theory
      ∙ ap (λ n. with_own n path (place_among environment path (take count theories)) (own_part environment theory)) long

  -- What the place says of the theories before it and of the one there.
  abbrev pub IsPlace : Place → List Name → Type 0
  IsPlace None theories = constants_at environment path theories ≡ []
  IsPlace (Some (Some place)) theories =
      (theory : Name) × (d : Declaration) × (slice_get theories place ≡ Some theory) × (own_at (own_part environment theory) path ≡ Some d) × (constants_at environment path theories ≡ d ∷ [])
  IsPlace (Some None) theories = the_only (constants_at environment path theories) ≡ Ambiguous

  append_none : {A : Type 0} (xs : List A) → xs ++ [] ≡ xs
  append_none [] = refl
  append_none (x ∷ xs) = ap (λ z. x ∷ z) (append_none xs)

  constants_of : Option Declaration → List Declaration
  constants_of o = filter_map (λ (_ : Name). o) ([] ∷ [])

  at_one : (o : Option Declaration) → constants_of o ≡ option_to_list o
  unfolding constants_of
  at_one None = refl
  at_one (Some d) = refl

  one_more : (theories : List Name) (theory : Name) (o : Option Declaration) → own_at (own_part environment theory) path ≡ o
      → constants_at environment path (theories ++ theory ∷ []) ≡ constants_at environment path theories ++ option_to_list o
  unfolding constants_of
  one_more theories theory o is =
      filter_map-append (λ (t : Name). own_at (own_part environment t) path) theories (theory ∷ [])
      ∙ ap (λ ds. constants_at environment path theories ++ ds) (ap constants_of is ∙ at_one o)

  two_ambiguous : (ds : List Declaration) (d : Declaration) → the_only ds ≡ Ambiguous → the_only (ds ++ d ∷ []) ≡ Ambiguous
  two_ambiguous [] d h = absurd (cc)
  two_ambiguous (e ∷ []) d h = absurd (cc)
  two_ambiguous (e ∷ f ∷ ds) d h = refl

  -- the next theory has none
  without : (known : Place) (theories : List Name) (theory : Name) → own_at (own_part environment theory) path ≡ None → IsPlace known theories → IsPlace known (theories ++ theory ∷ [])
  without None theories theory none h = one_more theories theory None none ∙ append_none (constants_at environment path theories) ∙ h
  without (Some (Some place)) theories theory none h =
      (h.0, h.1, get_front theories (theory ∷ []) place (place_within theories place h.0 h.2) ∙ h.2, h.3, one_more theories theory None none ∙ append_none (constants_at environment path theories) ∙ h.4)
  without (Some None) theories theory none h = ap the_only (one_more theories theory None none ∙ append_none (constants_at environment path theories)) ∙ h

  -- it has one
  with_one : (known : Place) (theories : List Name) (theory : Name) (d : Declaration) (place : ℕ) → place ≡ length theories → own_at (own_part environment theory) path ≡ Some d
      → IsPlace known theories → IsPlace (Some (next_place place known)) (theories ++ theory ∷ [])
  with_one None theories theory d place here one h =
      (theory, d, ap (slice_get (theories ++ theory ∷ [])) here ∙ get_last theories theory, one, one_more theories theory (Some d) one ∙ ap (λ ds. ds ++ d ∷ []) h)
  with_one (Some (Some first)) theories theory d place here one h = by (nat_eq first place) refl
    where
      by : (b : Bool) → nat_eq first place ≡ b → IsPlace (Some (cond b (Some place) None)) (theories ++ theory ∷ [])
      by true same = absurd (let equal = eqb-true first place same in let less = place_within theories first h.0 h.2 in omega (arith, equal, less, here))
      by false other = ap the_only (one_more theories theory (Some d) one ∙ ap (λ ds. ds ++ d ∷ []) h.4)
  with_one (Some None) theories theory d place here one h =
      ap the_only (one_more theories theory (Some d) one) ∙ two_ambiguous (constants_at environment path theories) d h

  next_is : (known : Place) (theories : List Name) (theory : Name) (place : ℕ) → place ≡ length theories → IsPlace known theories
      → IsPlace (with_own place path known (own_part environment theory)) (theories ++ theory ∷ [])
  next_is known theories theory place here h = by (own_at (own_part environment theory) path) refl
    where
      by : (o : Option Declaration) → own_at (own_part environment theory) path ≡ o → IsPlace (cond (is_some o) (Some (next_place place known)) known) (theories ++ theory ∷ [])
      by None none = without known theories theory none h
      by (Some d) one = with_one known theories theory d place here one h

  from_is : (known : Place) (before theories : List Name) (place : ℕ) → place ≡ length before → IsPlace known before → IsPlace (place_from place environment path known theories) (before ++ theories)
  from_is known before [] place here h = subst (IsPlace known) (sym (append_none before)) h
  from_is known before (theory ∷ theories) place here h =
      let longer : suc place ≡ length (before ++ theory ∷ []) = let long = length-append before (theory ∷ []) in omega (arith, here, long) in
      let more = from_is (with_own place path known (own_part environment theory)) (before ++ theory ∷ []) theories (suc place) longer (next_is known before theory place here h) in
      subst (IsPlace (place_from (suc place) environment path (with_own place path known (own_part environment theory)) theories)) (append_assoc before (theory ∷ []) theories) more

  -- what the place says of all
  pub place_is : (theories : List Name) → IsPlace (place_among environment path theories) theories
  place_is theories = from_is None [] theories 0 refl refl

  -- The constant of the only theory that has one.
  pub only_at : (theories : List Name) (place : ℕ) (theory : Name) (found : Option Declaration) → Some (Some place) ≡ place_among environment path theories → slice_get theories place ≡ Some theory
      → found ≡ own_at (own_part environment theory) path → (d : Declaration) × (found ≡ Some d) × (the_only (constants_at environment path theories) ≡ Declared d)
  only_at theories place theory found here there is =
      let h = subst (λ p. IsPlace p theories) (sym here) (place_is theories) in
      let same : h.0 ≡ theory = let one = sym h.2 ∙ there in cc in
      (h.1, is ∙ ap (λ t. own_at (own_part environment t) path) (sym same) ∙ h.3, ap the_only h.4)

  pub place_there : (theories : List Name) (place : ℕ) → Some (Some place) ≡ place_among environment path theories → (theory : Name) × (slice_get theories place ≡ Some theory)
  place_there theories place here =
      let h = subst (λ p. IsPlace p theories) (sym here) (place_is theories) in
      (h.0, h.2)

  pub several_at : (theories : List Name) → Some None ≡ place_among environment path theories → the_only (constants_at environment path theories) ≡ Ambiguous
  several_at theories here = subst (λ p. IsPlace p theories) (sym here) (place_is theories)

  pub none_at : (theories : List Name) → None ≡ place_among environment path theories → the_only (constants_at environment path theories) ≡ Unknown
  none_at theories here = ap the_only (subst (λ p. IsPlace p theories) (sym here) (place_is theories))
