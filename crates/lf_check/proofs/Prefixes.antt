-- A signature checked declaration by declaration.
use Rattle.std.proofs.Common.{◌≡◌, ℕ, suc, ◌+◌, ◌<◌, ◌≤◌, List, [], ◌∷◌, ◌++◌, length, take, drop, Option, Some, None, sym, ap, ap₂, ◌∙◌, arith, add-one}
use Rattle.std.specs.Prelude.{slice_get}
use Rattle.std.proofs.Math.Seq.{drop-cons}
use Rattle.std.proofs.lemmas.List.{take_more, length-take-le, length-map, map-append, drop_all}
use Rattle.std.proofs.lemmas.Option.{slice_get_within, get_or_from_slice_get}
use Rattle.lf_meaning.specs.Faults.{BadDeclaration, bad_at, declaration_fault, signature_fault_after}
use Rattle.term_trees.specs.Readings.{read_declaration, read_signature}
use Rattle.term_trees.specs.declared.flat_decl.FlatDecl.{FlatDecl}

module _ (decls : List FlatDecl) (i : ℕ) (d : FlatDecl) (there : slice_get decls i ≡ Some d) where
  within : i < length decls
  within = slice_get_within decls i d there

  left : drop i decls ≡ d ∷ drop (i + 1) decls
  left = rw add-one (drop-cons decls i d within ∙ ap (λ x. x ∷ drop (suc i) decls) (get_or_from_slice_get decls i d d there))

  passed : read_signature (take (i + 1) decls) ≡ read_signature (take i decls) ++ (read_declaration d ∷ [])
  passed =
      ap read_signature (take_more decls i d within ∙ ap (λ x. take i decls ++ (x ∷ [])) (get_or_from_slice_get decls i d d there))
      ∙ map-append read_declaration (take i decls) (d ∷ [])

  index_is : length (read_signature (take i decls)) ≡ i
  index_is = length-map (take i decls) read_declaration ∙ length-take-le i decls (omega (arith, within))

  -- what comes of the declarations from the index on
  here : signature_fault_after (read_signature (take i decls)) (read_signature (drop i decls))
      ≡ bad_at i (declaration_fault (read_signature (take i decls)) (read_declaration d)) (signature_fault_after (read_signature (take (i + 1) decls)) (read_signature (drop (i + 1) decls)))
  here =
      ap (λ rest. signature_fault_after (read_signature (take i decls)) (read_signature rest)) left
      ∙ ap₂ (λ n before. bad_at n (declaration_fault (read_signature (take i decls)) (read_declaration d)) (signature_fault_after before (read_signature (drop (i + 1) decls)))) index_is (sym passed)

  module _ (whole : Option BadDeclaration) (so_far : whole ≡ signature_fault_after (read_signature (take i decls)) (read_signature (drop i decls))) where
    pub goes_on : declaration_fault (read_signature (take i decls)) (read_declaration d) ≡ None → whole ≡ signature_fault_after (read_signature (take (i + 1) decls)) (read_signature (drop (i + 1) decls))
    goes_on none = so_far ∙ here ∙ ap (λ o. bad_at i o (signature_fault_after (read_signature (take (i + 1) decls)) (read_signature (drop (i + 1) decls)))) none

    pub stops_here : whole ≡ bad_at i (declaration_fault (read_signature (take i decls)) (read_declaration d)) (signature_fault_after (read_signature (take (i + 1) decls)) (read_signature (drop (i + 1) decls)))
    stops_here = so_far ∙ here

-- at the end nothing is left
pub all_passed : (decls : List FlatDecl) (i : ℕ) (whole : Option BadDeclaration) → length decls ≤ i → whole ≡ signature_fault_after (read_signature (take i decls)) (read_signature (drop i decls)) → whole ≡ None
all_passed decls i whole past so_far = so_far ∙ ap (λ rest. signature_fault_after (read_signature (take i decls)) (read_signature rest)) (drop_all i decls past)
