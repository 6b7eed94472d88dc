-- The declarations before an index, looked up by name.
use Rattle.std.proofs.Common.{◌≡◌, ℕ, zero, suc, ◌+◌, ◌<◌, ◌≤◌, Bool, true, false, cond, List, [], ◌∷◌, take, Option, Some, None, refl, sym, ap, ◌∙◌, arith}
use Rattle.std.specs.Prelude.{slice_get, position, not, nat_lt}
use Rattle.std.specs.List.{find, position_or_len}
use Rattle.std.specs.Option.{option_map}
use Rattle.std.proofs.lemmas.List.Folds.{find_at}
use Rattle.std.proofs.lemmas.Option.{slice_get_past}
use Rattle.std.proofs.lemmas.Bool.{ltb-true, ltb-false}
use Rattle.lf_meaning.specs.Signatures.{same_constant, declaration_of}
use Rattle.term_trees.specs.Readings.{read_constant, read_declaration, read_signature}
use Rattle.lf_terms.specs.Tables.{place_of}
use Rattle.term_trees.specs.declared.flat_decl.FlatDecl.{FlatDecl}
use Rattle.base_types.specs.declared.qname.QName.{QName}
use Rattle.lf_terms.proofs.Lookup.{declared_read, position_is, position_past}

module _ {X : Type 0} (p : X → Bool) where
  -- what is found within the first n is what stands at its place, if that is among them
  found_front : (xs : List X) (n : ℕ) → position_or_len p xs < n → find p (take n xs) ≡ find p xs
  found_front xs zero h = absurd (omega arith)
  found_front [] (suc n) h = refl
  found_front (x ∷ xs) (suc n) h = by (p x) h (found_front xs n)
    where
      by : (b : Bool) → cond (not b) (1 + position_or_len p xs) 0 < suc n → (position_or_len p xs < n → find p (take n xs) ≡ find p xs) → cond b (Some x) (find p (take n xs)) ≡ cond b (Some x) (find p xs)
      by true g rest = refl
      by false g rest = rest (omega arith)

  none_front : (xs : List X) (n : ℕ) → n ≤ position_or_len p xs → find p (take n xs) ≡ None
  none_front xs zero h = refl
  none_front [] (suc n) h = refl
  none_front (x ∷ xs) (suc n) h = by (p x) h (none_front xs n)
    where
      by : (b : Bool) → suc n ≤ cond (not b) (1 + position_or_len p xs) 0 → (n ≤ position_or_len p xs → find p (take n xs) ≡ None) → cond b (Some x) (find p (take n xs)) ≡ None
      by true g rest = absurd (omega arith)
      by false g rest = rest (omega arith)

  pub found_before : (xs : List X) (n i : ℕ) → position p xs ≡ Some i → i < n → find p (take n xs) ≡ slice_get xs i
  found_before xs n i h below =
      let is = position_is p xs i h in
      found_front xs n (omega arith) ∙ find_at p xs ∙ ap (slice_get xs) is

  pub none_before : (xs : List X) (n i : ℕ) → position p xs ≡ Some i → n ≤ i → find p (take n xs) ≡ None
  none_before xs n i h past =
      let is = position_is p xs i h in
      none_front xs n (omega arith)

  pub none_at_all : (xs : List X) (n : ℕ) → position p xs ≡ None → find p (take n xs) ≡ None
  none_at_all xs n h = by (nat_lt (position_or_len p xs) n) refl
    where
      by : (b : Bool) → nat_lt (position_or_len p xs) n ≡ b → find p (take n xs) ≡ None
      by true e = found_front xs n (ltb-true (position_or_len p xs) n e) ∙ find_at p xs ∙ slice_get_past xs (position_or_len p xs) (position_past p xs h)
      by false e = none_front xs n (ltb-false (position_or_len p xs) n e)

module _ (decls : List FlatDecl) (q : QName) (n : ℕ) where
  -- the declaration at a place that counts
  pub declared_before : (i : ℕ) → place_of decls q ≡ Some i → i < n → option_map read_declaration (slice_get decls i) ≡ declaration_of (read_signature (take n decls)) (read_constant q)
  declared_before i h below =
      ap (option_map read_declaration) (sym (found_before (λ (d : FlatDecl). same_constant (read_constant q) (read_constant d.name)) decls n i h below)) ∙ declared_read (take n decls) q

  pub not_before : (i : ℕ) → place_of decls q ≡ Some i → n ≤ i → ◌≡◌ {A = Option _} None (declaration_of (read_signature (take n decls)) (read_constant q))
  not_before i h past =
      ap (option_map read_declaration) (sym (none_before (λ (d : FlatDecl). same_constant (read_constant q) (read_constant d.name)) decls n i h past)) ∙ declared_read (take n decls) q

  pub not_declared : place_of decls q ≡ None → ◌≡◌ {A = Option _} None (declaration_of (read_signature (take n decls)) (read_constant q))
  not_declared h =
      ap (option_map read_declaration) (sym (none_at_all (λ (d : FlatDecl). same_constant (read_constant q) (read_constant d.name)) decls n h)) ∙ declared_read (take n decls) q
