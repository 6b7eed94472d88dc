-- Two environments that agree on some names, which are closed under what the faces there name: what is read of them is alike.
use Rattle.std.proofs.Common.{◌≡◌, Bool, true, false, cond, List, [], ◌∷◌, ◌++◌, filter_map, Option, Some, None, inl, inr, refl, sym, ap, ap₂, ◌∙◌, subst}
use Rattle.std.specs.List.{cons_option}
use Rattle.name_meaning.specs.Names.{Name, Path}
use Rattle.lf_meaning.specs.Signatures.{Signature}
use Rattle.list_laws.proofs.Members.{Member}
use Rattle.name_laws.proofs.Order.{among_member}
use Rattle.library_meaning.specs.Faces.{StructureFace, TheoryFace, ViewFace, IsTheory, IsView, theory_face, Environment, theory_of, includes_of, own_of, own_part, own_parts, flat_of}
use Rattle.library_meaning.specs.Closure.{sees}
use Rattle.library_meaning.specs.Resolution.{Scope, Variables, own_at, qualified, bound_variable, the_only, or_variable, or_declared, Resolved, resolve}
use Rattle.library_meaning.specs.StandsFor.{StandsFor}
use Rattle.library_meaning.specs.Words.{structures_of}
use Rattle.library_laws.proofs.Resolving.{resolution_stands}
use Rattle.link_laws.proofs.Linked.{known_theory}

-- the names have, with a theory, what it includes and the domains of its structures, and with a view its domain
pub record Alike (names : Name → Bool) (first second : Environment) : Type 0 where
  pub same : (x : Name) → names x ≡ true → first x ≡ second x
  pub includes : (x : Name) (face : TheoryFace) (other : Name) → names x ≡ true → first x ≡ IsTheory face → Member other face.includes → names other ≡ true
  pub domains : (x : Name) (face : TheoryFace) (structure : StructureFace) → names x ≡ true → first x ≡ IsTheory face → Member structure face.structures → names structure.domain ≡ true
  pub ends : (x : Name) (face : ViewFace) → names x ≡ true → first x ≡ IsView face → names face.domain ≡ true

pub alike_back : (names : Name → Bool) (first second : Environment) → Alike names first second → Alike names second first
alike_back names first second a =
    record {
      same = λ x n. sym (a.same x n);
      includes = λ x face other n e m. a.includes x face other n (a.same x n ∙ e) m;
      domains = λ x face structure n e m. a.domains x face structure n (a.same x n ∙ e) m;
      ends = λ x face n e. a.ends x face n (a.same x n ∙ e);
    }

-- the scope with this environment
abbrev pub scope_over : Signature → List Name → Environment → Scope
scope_over own includes environment = record { own = own; includes = includes; environment = environment }

-- all of these have their names among them
abbrev pub AllNamed : (Name → Bool) → List Name → Type 0
AllNamed names list = (x : Name) → Member x list → names x ≡ true

abbrev pub DomainsNamed : (Name → Bool) → List StructureFace → Type 0
DomainsNamed names structures = (structure : StructureFace) → Member structure structures → names structure.domain ≡ true

module _ (names : Name → Bool) (first second : Environment) (alike : Alike names first second) where
  pub theory_alike : (x : Name) → names x ≡ true → theory_of first x ≡ theory_of second x
  theory_alike x n = ap theory_face (alike.same x n)

  pub part_alike : (x : Name) → names x ≡ true → own_part first x ≡ own_part second x
  part_alike x n = ap own_of (theory_alike x n)

  pub parts_alike : (list : List Name) → AllNamed names list → own_parts first list ≡ own_parts second list
  parts_alike [] n = refl
  parts_alike (x ∷ xs) n = ap₂ (λ a b. a ++ b) (part_alike x (n x (inl refl))) (parts_alike xs (λ y m. n y (inr m)))

  pub includes_named : (x : Name) → names x ≡ true → AllNamed names (includes_of (theory_of first x))
  includes_named x n other m = by (theory_of first x) refl m
    where
      by : (o : Option TheoryFace) → theory_of first x ≡ o → Member other (includes_of o) → names other ≡ true
      by None e k = absurd k
      by (Some face) e k = alike.includes x face other n (known_theory (first x) face e) k

  pub structures_named : (x : Name) → names x ≡ true → DomainsNamed names (structures_of (theory_of first x))
  structures_named x n structure m = by (theory_of first x) refl m
    where
      by : (o : Option TheoryFace) → theory_of first x ≡ o → Member structure (structures_of o) → names structure.domain ≡ true
      by None e k = absurd k
      by (Some face) e k = alike.domains x face structure n (known_theory (first x) face e) k

  -- the own parts of what a theory includes
  pub included_parts_alike : (x : Name) → names x ≡ true → own_parts first (includes_of (theory_of first x)) ≡ own_parts second (includes_of (theory_of second x))
  included_parts_alike x n = parts_alike (includes_of (theory_of first x)) (includes_named x n) ∙ ap (λ o. own_parts second (includes_of o)) (theory_alike x n)

  pub flat_alike : (x : Name) → names x ≡ true → flat_of first x ≡ flat_of second x
  flat_alike x n = ap₂ (λ a b. a ++ b) (included_parts_alike x n) (part_alike x n)

  -- ---- names in a scope

  module _ (own : Signature) (includes : List Name) (named : AllNamed names includes) where
    qualified_by : (theory : Name) (path : Path) (b : Bool) → sees includes theory ≡ b → cond b (own_at (own_part first theory) path) None ≡ cond b (own_at (own_part second theory) path) None
    qualified_by theory path true e = ap (λ s. own_at s path) (part_alike theory (named theory (among_member includes theory e)))
    qualified_by theory path false e = refl

    qualified_alike : (path : Path) → qualified (scope_over own includes first) path ≡ qualified (scope_over own includes second) path
    qualified_alike [] = refl
    qualified_alike (theory ∷ path) = qualified_by theory path (sees includes theory) refl

    included_alike : (path : Path) (list : List Name) → AllNamed names list → filter_map (λ (theory : Name). own_at (own_part first theory) path) list ≡ filter_map (λ (theory : Name). own_at (own_part second theory) path) list
    included_alike path [] n = refl
    included_alike path (x ∷ xs) n = ap₂ cons_option (ap (λ s. own_at s path) (part_alike x (n x (inl refl)))) (included_alike path xs (λ y m. n y (inr m)))

    resolve_alike : (variables : Variables) (path : Path) → resolve (scope_over own includes first) variables path ≡ resolve (scope_over own includes second) variables path
    unfolding resolve
    resolve_alike variables path =
        ap₂ (λ q l. or_variable (bound_variable variables path) (or_declared (own_at own path) (or_declared q (the_only l)))) (qualified_alike path) (included_alike path includes named)

    pub stands_for_alike : (variables : Variables) (path : Path) (resolved : Resolved) → StandsFor (scope_over own includes first) variables path resolved → StandsFor (scope_over own includes second) variables path resolved
    stands_for_alike variables path resolved s =
        subst (StandsFor (scope_over own includes second) variables path)
        (sym ((resolution_stands (scope_over own includes first) variables path).1 resolved s ∙ resolve_alike variables path))
        (resolution_stands (scope_over own includes second) variables path).0
