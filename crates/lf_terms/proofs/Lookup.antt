-- Look-up by name in the tables.
use Rattle.std.proofs.Common.{◌≡◌, ℕ, zero, suc, Bool, true, false, cond, ◌||◌, List, [], ◌∷◌, map, Bor, arith, Option, Some, None, is_some, refl, sym, ap, ◌∙◌}
use Rattle.std.specs.Prelude.{slice_get, position, nat_lt, length, MatchOption, IsNone, ◌≤◌}
use Rattle.std.proofs.lemmas.List.Folds.{find_at}
use Rattle.std.proofs.lemmas.Bool.{ltb-false}
use Rattle.std.proofs.lemmas.Option.{slice_get-map, slice_get_past}
use Rattle.lf_meaning.specs.HeadMaps as meant
use Rattle.std.specs.Option.{option_copied, option_map}
use Rattle.std.specs.Ordering.{on}
use Rattle.std.specs.List.{list_any, AllByRecursion, IsDistinct, find, position_or_len}
use Rattle.name_meaning.specs.Names.{Path}
use Rattle.lf_meaning.specs.Signatures.{declaration_of, same_constant, Declaration}
use Rattle.list_laws.proofs.Options.{mapped_by}
use Rattle.term_trees.specs.Readings.{read_constant, read_declaration, read_signature, read_image, read_map, read_mapping}
use Rattle.lf_terms.proofs.SameName.{same_qname, same_qname_equiv}
use Rattle.lf_terms.specs.Tables.{declared, first_with_path, image_of, place_of, same_path, HasDistinctNames}
use Rattle.base_types.specs.declared.qname.QName.{QName}
use Rattle.term_trees.specs.declared.flat_decl.FlatDecl.{FlatDecl}
use Rattle.term_trees.specs.declared.flat_decl.Image.{Image}

module _ {X Y : Type 0} (f : X → Y) where
  all_images : (P : Y → Type 0) (xs : List X) → AllByRecursion (λ x. P (f x)) xs → AllByRecursion P (map f xs)
  all_images P [] h = tt
  all_images P (x ∷ xs) h = (h.0, all_images P xs h.1)

  -- Images that differ are distinct.
  pub distinct_images : (same : Y → Y → Bool) (xs : List X) → IsDistinct (on f same) xs → IsDistinct same (map f xs)
  unfolding IsDistinct
  distinct_images same [] h = tt
  distinct_images same (x ∷ xs) h = (all_images (λ y. same (f x) y ≡ false) xs h.0, distinct_images same xs h.1)

module _ {X : Type 0} (p : X → Bool) where
  pub position_is : (xs : List X) (i : ℕ) → position p xs ≡ Some i → position_or_len p xs ≡ i
  position_is xs i h = by (nat_lt (position_or_len p xs) (length xs)) h
    where
      by : (b : Bool) → cond b (Some (position_or_len p xs)) None ≡ Some i → position_or_len p xs ≡ i
      by true g = cc
      by false g = absurd (cc)

  pub position_past : (xs : List X) → position p xs ≡ None → length xs ≤ position_or_len p xs
  position_past xs h = by (nat_lt (position_or_len p xs) (length xs)) refl h
    where
      by : (b : Bool) → nat_lt (position_or_len p xs) (length xs) ≡ b → cond b (Some (position_or_len p xs)) None ≡ None → length xs ≤ position_or_len p xs
      by true e g = absurd (cc)
      by false e g = ltb-false (position_or_len p xs) (length xs) e

  -- What is found stands at its position.
  pub found_there : (xs : List X) (i : ℕ) → position p xs ≡ Some i → find p xs ≡ slice_get xs i
  found_there xs i h = find_at p xs ∙ ap (slice_get xs) (position_is xs i h)

  pub none_found : (xs : List X) → position p xs ≡ None → find p xs ≡ None
  none_found xs h = find_at p xs ∙ slice_get_past xs (position_or_len p xs) (position_past xs h)

-- The first declaration of a path stands for the first of what the declarations stand for.
pub first_read : (decls : List FlatDecl) (path : Path) → option_map read_declaration (first_with_path decls path) ≡ find (λ (d : Declaration). same_path d.name.path path) (read_signature decls)
first_read [] path = refl
first_read (d ∷ decls) path = sym (mapped_by read_declaration (same_path d.name.path path) d (first_with_path decls path) (find (λ (e : Declaration). same_path e.name.path path) (read_signature decls)) (sym (first_read decls path)))

pub declared_read : (decls : List FlatDecl) (q : QName) → option_map read_declaration (declared decls q) ≡ declaration_of (read_signature decls) (read_constant q)
declared_read [] q = refl
declared_read (d ∷ decls) q =
    let turned : same_qname q d.name ≡ same_constant (read_constant d.name) (read_constant q) = same_qname_equiv.symm q d.name in
    by (same_qname q d.name) (same_constant (read_constant d.name) (read_constant q)) turned (declared_read decls q)
  where
    by : (b c : Bool) → b ≡ c → option_map read_declaration (declared decls q) ≡ declaration_of (read_signature decls) (read_constant q) → option_map read_declaration (cond b (Some d) (declared decls q)) ≡ cond c (Some (read_declaration d)) (declaration_of (read_signature decls) (read_constant q))
    by true true e rest = refl
    by true false e rest = absurd (cc)
    by false true e rest = absurd (cc)
    by false false e rest = rest

-- A declaration has a name exactly where it is declared.
pub contained_declared : (q : QName) (decls : List FlatDecl) → list_any (λ (d : FlatDecl). same_qname q d.name) decls ≡ is_some (declared decls q)
contained_declared q [] = refl
contained_declared q (d ∷ decls) = by (same_qname q d.name) (contained_declared q decls)
  where
    by : (b : Bool) → list_any (λ (e : FlatDecl). same_qname q e.name) decls ≡ is_some (declared decls q)
        → (b || list_any (λ (e : FlatDecl). same_qname q e.name) decls) ≡ is_some (cond b (Some d) (declared decls q))
    by true h = refl
    by false h = h

-- Declarations that differ by their names have distinct names.
pub distinct_declared : (decls : List FlatDecl) → IsDistinct (λ (d e : FlatDecl). same_qname d.name e.name) decls → HasDistinctNames decls
distinct_declared decls h = distinct_images (λ (d : FlatDecl). read_constant d.name) same_constant decls h

-- The image of a constant in the code's map is that of the map which it stands for.
pub mapped_read : (images : List (QName × Image)) (q : QName) → option_map read_image (image_of images q) ≡ meant.image_of (read_map images) (read_constant q)
unfolding meant.image_of
mapped_read [] q = refl
mapped_read (m ∷ images) q =
    let turned : same_qname q m.0 ≡ same_constant (read_constant m.0) (read_constant q) = same_qname_equiv.symm q m.0 in
    by (same_qname q m.0) (same_constant (read_constant m.0) (read_constant q)) turned (mapped_read images q)
  where
    by : (b c : Bool) → b ≡ c → option_map read_image (image_of images q) ≡ meant.image_of (read_map images) (read_constant q) → option_map read_image (cond b (Some m.1) (image_of images q)) ≡ cond c (Some (read_image m.1)) (meant.image_of (read_map images) (read_constant q))
    by true true e rest = refl
    by true false e rest = absurd (cc)
    by false true e rest = absurd (cc)
    by false false e rest = rest

-- What is read off what a reference points to.
pub copied_read : {A B : Type 0} (f : A → B) (found : Option (Bor A)) → option_map (λ r. f r.now) found ≡ option_map f (option_copied found)
copied_read f None = refl
copied_read f (Some r) = refl

-- What is read at an index.
pub read_at : {A B : Type 0} (f : A → B) (found : Option (Bor A)) (items : List A) (i : ℕ) → option_copied found ≡ slice_get items i → option_map (λ r. f r.now) found ≡ slice_get (map f items) i
read_at f found items i h = copied_read f found ∙ ap (option_map f) h ∙ sym (slice_get-map f items i)

-- What stands at the index that is found is the declaration of the name; where none is found there is none.
abbrev pub IsPlaceOf : List FlatDecl → QName → Option ℕ → Type 0
IsPlaceOf decls q place = MatchOption place (declaration_of (read_signature decls) (read_constant q) ≡ None) (λ i. slice_get (read_signature decls) i ≡ declaration_of (read_signature decls) (read_constant q))

pub place_read : (decls : List FlatDecl) (q : QName) (place : Option ℕ) → place ≡ place_of decls q → IsPlaceOf decls q place
place_read decls q None h = sym (declared_read decls q) ∙ ap (option_map read_declaration) (none_found (λ (d : FlatDecl). same_qname q d.name) decls (sym h))
place_read decls q (Some i) h = slice_get-map read_declaration decls i ∙ ap (option_map read_declaration) (sym (found_there (λ (d : FlatDecl). same_qname q d.name) decls i (sym h))) ∙ declared_read decls q

-- ---- what stands at an index

pub nothing_behind : {A : Type 0} (xs : List A) (i : ℕ) → slice_get xs i ≡ None → length xs ≤ i
nothing_behind [] i h = omega arith
nothing_behind (x ∷ xs) zero h = absurd (cc)
nothing_behind (x ∷ xs) (suc i) h = let e = nothing_behind xs i h in omega (arith, e)

-- Nothing is found exactly behind the end.
pub none_behind : {A : Type 0} (xs : List A) (i : ℕ) (found : Option (Bor A)) → option_copied found ≡ slice_get xs i → (IsNone found → length xs ≤ i) × (length xs ≤ i → IsNone found)
none_behind xs i None h = (λ e. nothing_behind xs i (sym h), λ l. refl)
none_behind xs i (Some x) h = (λ e. absurd (cc), λ l. absurd (let e = h ∙ slice_get_past xs i l in cc))

abbrev Found : Type 0
Found = Option (Bor QName × Bor Image)

abbrev pub pair_of : Found → Option (QName × Image)
pair_of = option_map (λ (pair : Bor QName × Bor Image). (pair.0.now, pair.1.now))

pub none_at : (images : List (QName × Image)) (i : ℕ) (found : Found) → pair_of found ≡ slice_get images i → (IsNone found → length images ≤ i) × (length images ≤ i → IsNone found)
none_at images i None h = (λ e. nothing_behind images i (sym h), λ l. refl)
none_at images i (Some pair) h = (λ e. absurd (cc), λ l. absurd (let e = h ∙ slice_get_past images i l in cc))

pub mapping_at : (images : List (QName × Image)) (i : ℕ) (found : Found) → pair_of found ≡ slice_get images i
    → option_map (λ (pair : Bor QName × Bor Image). read_mapping (pair.0.now, pair.1.now)) found ≡ slice_get (read_map images) i
mapping_at images i found h = fused found ∙ ap (option_map read_mapping) h ∙ sym (slice_get-map read_mapping images i)
  where
    fused : (o : Found) → option_map (λ (pair : Bor QName × Bor Image). read_mapping (pair.0.now, pair.1.now)) o ≡ option_map read_mapping (pair_of o)
    fused None = refl
    fused (Some pair) = refl
