-- Rows of structures, structure by structure.
use Rattle.std.proofs.Common.{◌≡◌, ◌-◌, ◌≤◌, Bool, true, false, [], ◌∷◌, length, take, drop, get_or, List, Option, Some, None, refl, sym, ap, ◌∙◌, arith}
use Rattle.std.specs.Bool.{◌==◌}
use Rattle.std.proofs.lemmas.Bool.Decides.{nat_tests}
use Rattle.name_meaning.specs.Names.{Name, Path}
use Rattle.library_meaning.specs.Faces.{Environment, StructureFace, TheoryFace, structure_of, theory_of}
use Rattle.library_meaning.specs.Words.{Link, behind_structure, is_empty, link_by, structure_link, structures_link, structures_of}
use Rattle.morphism_words.proofs.ListsLeft.{behind_first}

-- Whether a path has no name, by its length.
empty_counted : (path : Path) → (length path == 0) ≡ is_empty path
empty_counted [] = refl
empty_counted (name ∷ path) = grind (arith, nat_tests)

-- So of what stands behind the first name of a path.
pub rest_empty : (path : Path) (b : Bool) → b ≡ (length (take (length path - 1) (drop 1 path)) == 0) → is_empty (drop 1 path) ≡ b
rest_empty path b e = sym (e ∙ ap (λ (p : Path). length p == 0) (behind_first path) ∙ empty_counted (drop 1 path))

-- Where there is no structure there is no row of them.
pub no_structures : (environment : Environment) (theory : Name) (path : Path) → structures_link environment theory [] path ≡ None
unfolding structures_link structure_of
no_structures environment theory [] = refl
no_structures environment theory (name ∷ path) = refl

-- The empty row.
pub empty_row : (environment : Environment) (theory : Name) (structures : List StructureFace) (path : Path) → length path ≤ 0 → structures_link environment theory structures path ≡ None
unfolding structures_link
empty_row environment theory structures [] h = refl
empty_row environment theory structures (name ∷ path) h = absurd (omega (arith, h))

module _ (environment : Environment) (theory : Name) (structures : List StructureFace) (path : Path) (name : Name) (some : 1 ≤ length path) (first : name ≡ get_or path 0 name) where
  -- The link of the names behind the first one, in a theory.
  abbrev inner_in : Name → Option TheoryFace → Option Link
  inner_in domain face = structures_link environment domain (structures_of face) (drop 1 path)

  abbrev inner : Name → Option Link
  inner domain = inner_in domain (theory_of environment domain)

  row_met : (p : Path) → 1 ≤ length p → name ≡ get_or p 0 name
      → structures_link environment theory structures p
      ≡ link_by theory (structure_of structures name) (is_empty (drop 1 p)) (λ (domain : Name). structures_link environment domain (structures_of (theory_of environment domain)) (drop 1 p))
  unfolding structures_link
  row_met [] h e = absurd (omega (arith, h))
  row_met (other ∷ rest) h e =
      ap (λ n. link_by theory (structure_of structures n) (is_empty rest) (λ (domain : Name). structures_link environment domain (structures_of (theory_of environment domain)) rest)) (sym e)

  pub absent : None ≡ structure_of structures name → structures_link environment theory structures path ≡ None
  absent none = row_met path some first ∙ ap (λ o. link_by theory o (is_empty (drop 1 path)) inner) (sym none)

  pub alone : (structure : StructureFace) → Some structure ≡ structure_of structures name → is_empty (drop 1 path) ≡ true
      → structures_link environment theory structures path ≡ Some (structure_link theory structure)
  alone structure found last = row_met path some first ∙ (λ i. link_by theory (sym found i) (last i) inner)

  -- Further names are looked up in the structure's domain.
  pub further : (structure : StructureFace) (face : Option TheoryFace) → Some structure ≡ structure_of structures name → is_empty (drop 1 path) ≡ false
      → face ≡ theory_of environment structure.domain → structures_link environment theory structures path ≡ behind_structure (inner_in structure.domain face) (structure_link theory structure)
  further structure face found more known =
      row_met path some first ∙ (λ i. link_by theory (sym found i) (more i) inner)
      ∙ ap (λ o. behind_structure (inner_in structure.domain o) (structure_link theory structure)) (sym known)
