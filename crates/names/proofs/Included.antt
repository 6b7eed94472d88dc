-- The constants of included theories at a path, met theory by theory.
use Rattle.std.proofs.Common.{◌≡◌, ℕ, ◌+◌, ◌≤◌, List, [], ◌∷◌, ◌++◌, take, drop, length, get_or, Option, Some, None, refl, sym, ap, ◌∙◌, ◌<◌, arith}
use Rattle.std.specs.Prelude.{option_map, option_to_list}
use Rattle.std.specs.Borrow.{Bor}
use Rattle.std.specs.List.{filter_map}
use Rattle.std.specs.Option.{is_some}
use Rattle.std.proofs.Common.{true, false}
use Rattle.std.proofs.lemmas.List.{take-append-drop, take_more}
use Rattle.std.proofs.lemmas.List.Elements.{filter_map-append}
use Rattle.std.proofs.Math.Seq.{take-length}
use Rattle.name_meaning.specs.Names.{Name, Path}
use Rattle.lf_meaning.specs.Signatures.{Declaration}
use Rattle.term_trees.specs.Readings.{read_declaration}
use Rattle.term_trees.specs.declared.flat_decl.FlatDecl.{FlatDecl}
use Rattle.library_meaning.specs.Faces.{Environment, own_part}
use Rattle.library_meaning.specs.Resolution.{own_at, Ambiguous, the_only}

-- What a borrowed declaration stands for, if there is one.
abbrev pub read_found : Option (Bor FlatDecl) → Option Declaration
read_found found = option_map (λ decl. read_declaration decl.now) found

-- The constants that these theories have at the path.
abbrev pub constants_at : Environment → Path → List Name → List Declaration
constants_at environment path theories = filter_map (λ (theory : Name). own_at (own_part environment theory) path) theories

-- Of so many theories just one has a constant there, or none.
abbrev pub AreMet : Environment → Path → List Name → ℕ → Option (Bor FlatDecl) → Type 0
AreMet environment path theories count found = constants_at environment path (take count theories) ≡ option_to_list (read_found found)

module _ (environment : Environment) (path : Path) (theories : List Name) where
  at_one : (o : Option Declaration) → filter_map (λ (_ : Name). o) ([] ∷ []) ≡ option_to_list o
  at_one None = refl
  at_one (Some d) = refl

  -- the next theory
  pub next_met : (count : ℕ) (theory : Name) → count < length theories → theory ≡ get_or theories count theory
      → constants_at environment path (take (count + 1) theories) ≡ constants_at environment path (take count theories) ++ option_to_list (own_at (own_part environment theory) path)
  next_met count theory within here =
      ap (constants_at environment path) (take_more theories count theory within ∙ ap (λ n. take count theories ++ n ∷ []) (sym here))
      ∙ filter_map-append (λ (t : Name). own_at (own_part environment t) path) (take count theories) (theory ∷ [])
      ∙ ap (λ ds. constants_at environment path (take count theories) ++ ds) (at_one (own_at (own_part environment theory) path))

  -- it has none
  pub none_more : (count : ℕ) (theory : Name) (found : Option (Bor FlatDecl)) → count < length theories → theory ≡ get_or theories count theory
      → None ≡ own_at (own_part environment theory) path → AreMet environment path theories count found → AreMet environment path theories (count + 1) found
  none_more count theory found within here none met =
      next_met count theory within here ∙ ap (λ o. constants_at environment path (take count theories) ++ option_to_list o) (sym none) ∙ append_none _ ∙ met
    where
      append_none : (ds : List Declaration) → ds ++ [] ≡ ds
      append_none [] = refl
      append_none (d ∷ ds) = ap (λ z. d ∷ z) (append_none ds)

  -- it is the first to have one
  pub first_met : (count : ℕ) (theory : Name) (found : Option (Bor FlatDecl)) (decl : Bor FlatDecl) → count < length theories → theory ≡ get_or theories count theory
      → Some (read_declaration decl.now) ≡ own_at (own_part environment theory) path → is_some found ≡ false → AreMet environment path theories count found
      → AreMet environment path theories (count + 1) (Some decl)
  first_met count theory (Some other) decl within here one free met = absurd (cc)
  first_met count theory None decl within here one free met =
      next_met count theory within here ∙ ap (λ o. constants_at environment path (take count theories) ++ option_to_list o) (sym one) ∙ ap (λ ds. ds ++ read_declaration decl.now ∷ []) met

  -- it is the second
  pub second_met : (count : ℕ) (theory : Name) (found : Option (Bor FlatDecl)) (decl : Bor FlatDecl) → count < length theories → theory ≡ get_or theories count theory
      → Some (read_declaration decl.now) ≡ own_at (own_part environment theory) path → is_some found ≡ true → AreMet environment path theories count found
      → the_only (constants_at environment path theories) ≡ Ambiguous
  second_met count theory None decl within here one there met = absurd (cc)
  second_met count theory (Some other) decl within here one there met =
      let all = ap (constants_at environment path) (sym (take-append-drop (count + 1) theories)) ∙ filter_map-append (λ (t : Name). own_at (own_part environment t) path) (take (count + 1) theories) (drop (count + 1) theories) in
      let two = next_met count theory within here ∙ ap (λ o. constants_at environment path (take count theories) ++ option_to_list o) (sym one) ∙ ap (λ ds. ds ++ read_declaration decl.now ∷ []) met in
      ap the_only (all ∙ ap (λ ds. ds ++ constants_at environment path (drop (count + 1) theories)) two)

  -- all theories have been met
  pub all_met : (count : ℕ) (found : Option (Bor FlatDecl)) → length theories ≤ count → count ≤ length theories → AreMet environment path theories count found
      → constants_at environment path theories ≡ option_to_list (read_found found)
  all_met count found past within met =
      let whole : count ≡ length theories = omega (arith, past, within) in
      ap (constants_at environment path) (sym (take-length theories) ∙ ap (λ n. take n theories) (sym whole)) ∙ met
