-- The index of the first declaration of each path, as declarations come and go at the end.
use Rattle.std.proofs.Common.{◌≡◌, ℕ, suc, ◌+◌, ◌<◌, Bool, true, false, cond, not, List, [], ◌∷◌, ◌++◌, Option, Some, None, is_some, length, refl, sym, ap, ◌∙◌, arith}
use Rattle.std.specs.Prelude.{position, nat_eq, nat_lt, option_map}
use Rattle.std.specs.List.{position_or_len}
use Rattle.std.specs.Map.{lookup}
use Rattle.std.specs.Option.{option_or}
use Rattle.std.specs.Cmp.Lexicographic.{lists_equiv, nat_list_eq_equiv}
use Rattle.std.proofs.lemmas.Bool.{ltb-true, lt-ltb, eqb-true, eq-eqb}
use Rattle.name_meaning.specs.Names.{Path, same_name}
use Rattle.term_trees.specs.declared.flat_decl.FlatDecl.{FlatDecl}
use Rattle.term_trees.proofs.Below.Equality.{pointwise_sound, pointwise_itself}
use Rattle.list_laws.proofs.Booleans.{both_ways}
use Rattle.lf_terms.specs.Tables.{same_path, first_place, with_place, HasFirstPlaces}

module _ {X : Type 0} (p : X → Bool) where
  next_place : (x : X) (xs : List X) → position p (x ∷ xs) ≡ cond (p x) (Some 0) (option_map suc (position p xs))
  next_place x xs = by (p x)
    where
      n : ℕ
      n = position_or_len p xs

      one_more : 1 + n ≡ suc n
      one_more = omega arith

      counted : (b : Bool) → cond b (Some (suc n)) None ≡ option_map suc (cond b (Some n) None)
      counted true = refl
      counted false = refl

      same_test : nat_lt (suc n) (suc (length xs)) ≡ nat_lt n (length xs)
      same_test = both_ways (nat_lt (suc n) (suc (length xs))) (nat_lt n (length xs))
          (λ e. let less = ltb-true (suc n) (suc (length xs)) e in lt-ltb n (length xs) (omega (arith, less)))
          (λ e. let less = ltb-true n (length xs) e in lt-ltb (suc n) (suc (length xs)) (omega (arith, less)))

      later : cond (nat_lt (1 + n) (suc (length xs))) (Some (1 + n)) None ≡ option_map suc (position p xs)
      later = ap (λ k. cond (nat_lt k (suc (length xs))) (Some k) None) one_more ∙ ap (λ b. cond b (Some (suc n)) None) same_test ∙ counted (nat_lt n (length xs))

      by : (b : Bool)
          → cond (nat_lt (cond (not b) (1 + n) 0) (suc (length xs))) (Some (cond (not b) (1 + n) 0)) None
          ≡ cond b (Some 0) (option_map suc (position p xs))
      by true = ap (λ b. cond b (Some 0) None) (lt-ltb 0 (suc (length xs)) (omega arith))
      by false = later

  -- the first place after one element more at the end
  pub place_last : (xs : List X) (x : X) → position p (xs ++ x ∷ []) ≡ option_or (position p xs) (cond (p x) (Some (length xs)) None)
  place_last [] x = next_place x []
  place_last (y ∷ ys) x =
      next_place y (ys ++ x ∷ []) ∙ ap (λ o. cond (p y) (Some 0) (option_map suc o)) (place_last ys x)
      ∙ by (p y) (position p ys) (p x) ∙ ap (λ o. option_or o (cond (p x) (Some (suc (length ys))) None)) (sym (next_place y ys))
    where
      by : (b : Bool) (o : Option ℕ) (c : Bool)
          → cond b (Some 0) (option_map suc (option_or o (cond c (Some (length ys)) None)))
          ≡ option_or (cond b (Some 0) (option_map suc o)) (cond c (Some (suc (length ys))) None)
      by true o c = refl
      by false (Some i) c = refl
      by false None true = refl
      by false None false = refl

  -- a place that is found lies within
  pub place_within : (xs : List X) (i : ℕ) → position p xs ≡ Some i → i < length xs
  place_within xs i h = by (nat_lt (position_or_len p xs) (length xs)) refl h
    where
      by : (b : Bool) → nat_lt (position_or_len p xs) (length xs) ≡ b → cond b (Some (position_or_len p xs)) None ≡ Some i → i < length xs
      by true e g =
          let here : position_or_len p xs ≡ i = cc in
          let within = ltb-true (position_or_len p xs) (length xs) e in
          omega (arith, here, within)
      by false e g = absurd (cc)

pub same_path_sound : (p q : Path) → same_path p q ≡ true → p ≡ q
same_path_sound = pointwise_sound same_name (pointwise_sound nat_eq eqb-true)

pub same_path_itself : (p : Path) → same_path p p ≡ true
same_path_itself = pointwise_itself same_name (pointwise_itself nat_eq (λ i. eq-eqb i i refl))

pub same_path_turned : (p q : Path) → same_path p q ≡ same_path q p
same_path_turned = (lists_equiv nat_list_eq_equiv).symm

-- What is found after one entry more at the end.
found_last : {K X : Type 0} (test : K → Bool) (es : List (K × X)) (k : K) (x : X) → lookup test (es ++ (k, x) ∷ []) ≡ option_or (lookup test es) (cond (test k) (Some x) None)
found_last test [] k x = refl
found_last test (e ∷ es) k x = by (test e.0) (found_last test es k x)
  where
    by : (b : Bool) → lookup test (es ++ (k, x) ∷ []) ≡ option_or (lookup test es) (cond (test k) (Some x) None)
        → cond b (Some e.1) (lookup test (es ++ (k, x) ∷ [])) ≡ option_or (cond b (Some e.1) (lookup test es)) (cond (test k) (Some x) None)
    by true h = refl
    by false h = h

-- The first place of a path after one declaration more.
pub first_place_last : (decls : List FlatDecl) (d : FlatDecl) (path : Path)
    → first_place (decls ++ d ∷ []) path ≡ option_or (first_place decls path) (cond (same_path d.name.path path) (Some (length decls)) None)
first_place_last decls d path = place_last (λ (e : FlatDecl). same_path e.name.path path) decls d

-- A declaration whose path is there already leaves the first places.
module _ (decls : List FlatDecl) (d : FlatDecl) (there : is_some (first_place decls d.name.path) ≡ true) where
  pub places_stay : (path : Path) → first_place (decls ++ d ∷ []) path ≡ first_place decls path
  places_stay path =
      first_place_last decls d path ∙ by (first_place decls path) (same_path d.name.path path) (λ e. ap (λ q. is_some (first_place decls q)) (sym (same_path_sound d.name.path path e)) ∙ there)
    where
      by : (o : Option ℕ) (b : Bool) → (b ≡ true → is_some o ≡ true) → option_or o (cond b (Some (length decls)) None) ≡ o
      by (Some i) b f = refl
      by None true f = absurd (let e = f refl in cc)
      by None false f = refl

-- One whose path is new adds its place.
module _ (decls : List FlatDecl) (d : FlatDecl) (absent : first_place decls d.name.path ≡ None) where
  pub places_grow : (path : Path) → first_place (decls ++ d ∷ []) path ≡ cond (same_path d.name.path path) (Some (length decls)) (first_place decls path)
  places_grow path =
      first_place_last decls d path ∙ by (first_place decls path) (same_path d.name.path path) (λ e. ap (first_place decls) (sym (same_path_sound d.name.path path e)) ∙ absent)
    where
      by : (o : Option ℕ) (b : Bool) → (b ≡ true → o ≡ None) → option_or o (cond b (Some (length decls)) None) ≡ cond b (Some (length decls)) o
      by (Some i) true f = absurd (let e = f refl in cc)
      by (Some i) false f = refl
      by None true f = refl
      by None false f = refl

  -- and takes it along where it goes
  pub places_shrink : (path : Path) → cond (same_path d.name.path path) None (first_place (decls ++ d ∷ []) path) ≡ first_place decls path
  places_shrink path = ap (cond (same_path d.name.path path) None) (places_grow path) ∙ by (first_place decls path) (same_path d.name.path path) (λ e. ap (first_place decls) (sym (same_path_sound d.name.path path e)) ∙ absent)
    where
      by : (o : Option ℕ) (b : Bool) → (b ≡ true → o ≡ None) → cond b None (cond b (Some (length decls)) o) ≡ o
      by o true f = sym (f refl)
      by o false f = refl

-- The last declaration is the first of its path exactly where none before it has the path.
module _ (decls : List FlatDecl) (d : FlatDecl) where
  own_place : first_place (decls ++ d ∷ []) d.name.path ≡ option_or (first_place decls d.name.path) (Some (length decls))
  own_place = first_place_last decls d d.name.path ∙ ap (λ b. option_or (first_place decls d.name.path) (cond b (Some (length decls)) None)) (same_path_itself d.name.path)

  pub last_is_first : first_place (decls ++ d ∷ []) d.name.path ≡ Some (length decls) → first_place decls d.name.path ≡ None
  last_is_first h = by (first_place decls d.name.path) refl (sym own_place ∙ h)
    where
      test : FlatDecl → Bool
      test e = same_path e.name.path d.name.path

      by : (o : Option ℕ) → position test decls ≡ o → option_or o (Some (length decls)) ≡ Some (length decls) → position test decls ≡ None
      by None e g = e
      by (Some i) e g =
          let within = place_within test decls i e in
          let last : i ≡ length decls = cc in
          absurd (omega (arith, within, last))

  pub last_is_later : (first_place (decls ++ d ∷ []) d.name.path ≡ Some (length decls) → ⊥) → is_some (first_place decls d.name.path) ≡ true
  last_is_later other = by (first_place decls d.name.path) refl
    where
      by : (o : Option ℕ) → first_place decls d.name.path ≡ o → is_some o ≡ true
      by (Some i) e = refl
      by None e = absurd (other (own_place ∙ ap (λ o. option_or o (Some (length decls))) e))

-- The table after each step.
module _ (places : List (Path × ℕ)) (decls : List FlatDecl) (d : FlatDecl) where
  pub table_stays : HasFirstPlaces places decls → is_some (lookup (same_path d.name.path) places) ≡ true → HasFirstPlaces places (decls ++ d ∷ [])
  table_stays h there path = h path ∙ sym (places_stay decls d (ap is_some (sym (h d.name.path)) ∙ there) path)

  pub table_grows : HasFirstPlaces places decls → HasFirstPlaces (places ++ (d.name.path, length decls) ∷ []) (decls ++ d ∷ [])
  table_grows h path =
      found_last (same_path path) places d.name.path (length decls)
      ∙ (λ i. option_or (h path i) (cond (same_path_turned path d.name.path i) (Some (length decls)) None))
      ∙ sym (first_place_last decls d path)

  pub table_shrinks : (shrunk : List (Path × ℕ)) → HasFirstPlaces places (decls ++ d ∷ []) → lookup (same_path d.name.path) places ≡ Some (length decls)
      → ((path : Path) → lookup (same_path path) shrunk ≡ cond (same_path d.name.path path) None (lookup (same_path path) places)) → HasFirstPlaces shrunk decls
  table_shrinks shrunk h last updated path =
      updated path ∙ ap (cond (same_path d.name.path path) None) (h path) ∙ places_shrink decls d (last_is_first decls d (sym (h d.name.path) ∙ last)) path

  pub table_left : HasFirstPlaces places (decls ++ d ∷ []) → (lookup (same_path d.name.path) places ≡ Some (length decls) → ⊥) → HasFirstPlaces places decls
  table_left h other path = h path ∙ places_stay decls d (last_is_later decls d (λ e. other (h d.name.path ∙ e))) path

  pub table_notes : HasFirstPlaces places decls → HasFirstPlaces (with_place places d.name.path (length decls)) (decls ++ d ∷ [])
  table_notes h = by (is_some (lookup (same_path d.name.path) places)) refl
    where
      by : (b : Bool) → is_some (lookup (same_path d.name.path) places) ≡ b → HasFirstPlaces (cond b places (places ++ (d.name.path, length decls) ∷ [])) (decls ++ d ∷ [])
      by true e = table_stays h e
      by false e = table_grows h
