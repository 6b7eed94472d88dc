-- The identity on a signature: the value that it gives to a constant is that of the constant's declaration.
use Rattle.std.proofs.Common.{◌≡◌, ℕ, zero, suc, Bool, true, false, cond, List, [], ◌∷◌, Some, None, refl, sym, ap, ◌∙◌}
use Rattle.std.specs.Prelude.{slice_get}
use Rattle.std.specs.Option.{option_map}
use Rattle.std.specs.List.{AllByRecursion, IsDistinct}
use Rattle.std.proofs.lemmas.Option.{same_Some}
use Rattle.lf_meaning.specs.Terms.{Constant}
use Rattle.lf_meaning.specs.Signatures.{Declaration, Signature, Value, declaration_of, same_constant}
use Rattle.lf_meaning.specs.HeadMaps.{Image, HeadMap, image_of}
use Rattle.lf_term_laws.proofs.Equality.{same_constant_itself}
use Rattle.translation_meaning.specs.Differ.{value_in, agree, agree_on, differ, differ_from}
use Rattle.library_meaning.specs.Words.{own_value, identity_mapping, identity_map}
use Rattle.term_trees.specs.declared.flat_decl.FlatDecl.{FlatDecl}
use Rattle.term_trees.specs.Readings.{read_constant, read_declaration, read_signature}
use Rattle.lf_terms.specs.Tables.{declared_names, HasDistinctNames}

-- The value of a declared constant by the identity.
abbrev pub by_identity : Declaration → Value
by_identity d = own_value d d.value

pub identity_gives : (own : Signature) (constant : Constant) → value_in (identity_map own) constant ≡ option_map by_identity (declaration_of own constant)
unfolding image_of
identity_gives [] constant = refl
identity_gives (d ∷ own) constant = by (same_constant d.name constant) (identity_gives own constant)
  where
    by : (b : Bool) → option_map (λ (image : Image). image.value) (image_of (identity_map own) constant) ≡ option_map by_identity (declaration_of own constant)
        → option_map (λ (image : Image). image.value) (cond b (Some (identity_mapping d).image) (image_of (identity_map own) constant)) ≡ option_map by_identity (cond b (Some d) (declaration_of own constant))
    by true rest = refl
    by false rest = rest

differ_at : (name : Constant) (decls : List FlatDecl) (i : ℕ) (d : Declaration) → AllByRecursion (λ other. same_constant name other ≡ false) (declared_names decls) → slice_get (read_signature decls) i ≡ Some d → same_constant name d.name ≡ false
differ_at name [] i d all there = absurd (cc)
differ_at name (first ∷ decls) zero d all there = ap (λ (e : Declaration). same_constant name e.name) (sym (same_Some _ _ there)) ∙ all.0
differ_at name (first ∷ decls) (suc i) d all there = differ_at name decls i d all.1 there

-- Of declarations with different names each is that of its name.
pub declares_itself : (decls : List FlatDecl) (i : ℕ) (d : Declaration) → HasDistinctNames decls → slice_get (read_signature decls) i ≡ Some d → declaration_of (read_signature decls) d.name ≡ Some d
unfolding IsDistinct
declares_itself [] i d distinct there = absurd (cc)
declares_itself (first ∷ decls) zero d distinct there =
    let e : read_declaration first ≡ d = same_Some _ _ there in
    ap (λ b. cond b (Some (read_declaration first)) (declaration_of (read_signature decls) d.name)) (ap (λ (x : Declaration). same_constant x.name d.name) e ∙ same_constant_itself d.name) ∙ ap Some e
declares_itself (first ∷ decls) (suc i) d distinct there =
    ap (λ b. cond b (Some (read_declaration first)) (declaration_of (read_signature decls) d.name)) (differ_at (read_constant first.name) decls i d distinct.0 there) ∙ declares_itself decls i d distinct.1 there

-- So a map agrees with the identity on a declaration where it gives that value.
pub agrees_with_identity : (decls : List FlatDecl) (i : ℕ) (d : Declaration) (along : HeadMap) → HasDistinctNames decls → slice_get (read_signature decls) i ≡ Some d
    → agree_on (identity_map (read_signature decls)) along d ≡ agree (Some (by_identity d)) (value_in along d.name)
agrees_with_identity decls i d along distinct there =
    ap (λ o. agree o (value_in along d.name)) (identity_gives (read_signature decls) d.name ∙ ap (option_map by_identity) (declares_itself decls i d distinct there))

-- On no constants no maps differ.
pub nothing_differs : (along other : HeadMap) → differ along other [] ≡ None
unfolding differ_from
nothing_differs along other = refl
