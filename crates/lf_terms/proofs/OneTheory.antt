-- Declarations of one theory, whose paths are found by their names.
use Rattle.std.proofs.Common.{◌≡◌, List, [], ◌∷◌, ◌++◌, map, cond, Some, ◌&&◌, refl, sym, ap, ◌∙◌, subst}
use Rattle.std.specs.Prelude.{nat_eq, slice_get}
use Rattle.std.proofs.lemmas.Bool.{eq-eqb}
use Rattle.name_meaning.specs.Names.{Name, Path, same_name}
use Rattle.lf_meaning.specs.Signatures.{same_constant}
use Rattle.term_trees.specs.Readings.{read_constant}
use Rattle.term_trees.specs.declared.flat_decl.FlatDecl.{FlatDecl}
use Rattle.term_trees.proofs.Below.Equality.{pointwise_itself}
use Rattle.lf_terms.specs.Tables.{declared, first_with_path, same_path, AreDeclaredIn, AreOfOneTheory, IsOfFirst}
use Rattle.lf_terms.proofs.FirstPlaces.{same_path_turned}

-- What is found by name in the theory is what is found by path.
pub found_by_name : (theory : Name) (path : Path) (decls : List FlatDecl) → AreDeclaredIn theory decls → declared decls (record { theory = theory; path = path }) ≡ first_with_path decls path
found_by_name theory path [] h = refl
found_by_name theory path (d ∷ decls) h = λ i. cond (same i) (Some d) (found_by_name theory path decls h.1 i)
  where
    same : same_constant (record { theory = theory; path = path }) (read_constant d.name) ≡ same_path d.name.path path
    same =
        ap (λ t. same_name theory t && same_path path d.name.path) h.0 ∙ ap (λ b. b && same_path path d.name.path) (pointwise_itself nat_eq (λ i. eq-eqb i i refl) theory)
        ∙ same_path_turned path d.name.path

-- All are of the theory of the first one.
pub declared_in_first : (decls : List FlatDecl) (d : FlatDecl) → slice_get decls 0 ≡ Some d → AreOfOneTheory decls → AreDeclaredIn d.name.theory decls
declared_in_first [] d here one = absurd (cc)
declared_in_first (e ∷ decls) d here one =
    let is : e ≡ d = cc in
    subst (λ t. AreDeclaredIn t (e ∷ decls)) (ap (λ (x : FlatDecl). x.name.theory) is) (refl, one)

declared_last : (theory : Name) (decls : List FlatDecl) (d : FlatDecl) → d.name.theory ≡ theory → AreDeclaredIn theory decls → AreDeclaredIn theory (decls ++ d ∷ [])
declared_last theory [] d h in_it = (h, tt)
declared_last theory (e ∷ decls) d h in_it = (in_it.0, declared_last theory decls d h in_it.1)

-- One more of the theory of the first.
pub one_grows : (decls : List FlatDecl) (d : FlatDecl) → IsOfFirst d.name.theory (map (λ (e : FlatDecl). e.name) decls) → AreOfOneTheory decls → AreOfOneTheory (decls ++ d ∷ [])
one_grows [] d h one = tt
one_grows (e ∷ decls) d h one = declared_last e.name.theory decls d (sym h) one

declared_before : (theory : Name) (decls : List FlatDecl) (last : FlatDecl) → AreDeclaredIn theory (decls ++ last ∷ []) → AreDeclaredIn theory decls
declared_before theory [] last in_it = tt
declared_before theory (e ∷ decls) last in_it = (in_it.0, declared_before theory decls last in_it.1)

-- The last one goes.
pub one_shrinks : (decls : List FlatDecl) (last : FlatDecl) → AreOfOneTheory (decls ++ last ∷ []) → AreOfOneTheory decls
one_shrinks [] last one = tt
one_shrinks (e ∷ decls) last one = declared_before e.name.theory decls last one

-- The first one is of a theory.
pub first_is_of : (decls : List FlatDecl) (d : FlatDecl) (theory : Name) → slice_get decls 0 ≡ Some d → d.name.theory ≡ theory → IsOfFirst theory (map (λ (e : FlatDecl). e.name) decls)
first_is_of [] d theory here h = tt
first_is_of (e ∷ decls) d theory here h =
    let is : e ≡ d = cc in
    ap (λ (x : FlatDecl). x.name.theory) is ∙ h
