-- Declarations, and own parts of theories, that are added to others whose names differ from theirs.
use Rattle.std.proofs.Common.{◌≡◌, ℕ, suc, ◌+◌, ◌<◌, List, [], ◌∷◌, ◌++◌, take, drop, length, slice_get, get_or, append_assoc, Option, Some, None, is_some, inl, refl, sym, ap, ◌∙◌, subst}
use Rattle.std.proofs.lemmas.List.{append-nil, take_more}
use Rattle.list_laws.proofs.Options.{none_of, some_mapped}
use Rattle.list_laws.proofs.Places.{split_at, take_drop}
use Rattle.name_meaning.specs.Names.{Name}
use Rattle.lf_meaning.specs.Signatures.{Declaration, Signature, declaration_of}
use Rattle.library_meaning.specs.Faces.{Environment, own_part, own_parts}
use Rattle.library_meaning.specs.Coherence.{IsCoherent}
use Rattle.link_laws.proofs.Onces.{Once, declaration_member, once_apart, once_left, parts_joined}
use Rattle.term_trees.specs.declared.flat_decl.FlatDecl.{FlatDecl}
use Rattle.term_trees.specs.Readings.{read_constant, read_declaration, read_signature}
use Rattle.lf_terms.specs.Tables.{declared}
use Rattle.lf_terms.proofs.Lookup.{declared_read}

-- The last of declarations of different names is new behind the others.
pub last_new : (front : Signature) (d : Declaration) → Once (front ++ d ∷ []) → declaration_of front d.name ≡ None
last_new front d once = by (declaration_of front d.name) refl
  where
    by : (o : Option Declaration) → declaration_of front d.name ≡ o → o ≡ None
    by None h = refl
    by (Some e) h = let m = declaration_member front d.name e h in absurd (once_apart front (d ∷ []) once e d m.0 (inl refl) m.1)

-- So is each of those that come behind some.
pub next_new : (front own : Signature) (i : ℕ) (d : Declaration) → slice_get own i ≡ Some d → Once (front ++ own) → declaration_of (front ++ take i own) d.name ≡ None
next_new front own i d here once =
    let rest = drop (suc i) own in
    let before = front ++ take i own in
    let whole : front ++ own ≡ (before ++ d ∷ []) ++ rest =
    ap (λ z. front ++ z) (split_at own i d here) ∙ sym (append_assoc front (take i own) (d ∷ rest)) ∙ sym (append_assoc before (d ∷ []) rest) in
    last_new before d (once_left (before ++ d ∷ []) rest (subst Once whole once))

-- A name that is new among what declarations mean is new among them.
pub new_declared : (own : List FlatDecl) (decl : FlatDecl) → declaration_of (read_signature own) (read_constant decl.name) ≡ None → declared own decl.name ≡ None
new_declared own decl new =
    none_of (declared own decl.name) (sym (some_mapped read_declaration (declared own decl.name)) ∙ ap is_some (declared_read own decl.name ∙ new))

-- The own part of the next of some theories has new names, where no name of all their own parts comes twice.
pub next_part : (environment : Environment) → IsCoherent environment → (names : List Name) (i : ℕ) (name : Name) → i < length names → name ≡ get_or names i name → Once (own_parts environment names)
    → Once (own_parts environment (take i names) ++ own_part environment name)
next_part environment coherent names i name within here once =
    let more : own_parts environment (take (i + 1) names) ≡ own_parts environment (take i names) ++ own_part environment name =
    ap (own_parts environment) (take_more names i name within ∙ ap (λ n. take i names ++ n ∷ []) (sym here)) ∙ parts_joined environment coherent (take i names) (name ∷ [])
    ∙ ap (λ z. own_parts environment (take i names) ++ z) (append-nil (own_part environment name)) in
    let whole : own_parts environment names ≡ own_parts environment (take (i + 1) names) ++ own_parts environment (drop (i + 1) names) =
    ap (own_parts environment) (sym (take_drop names (i + 1))) ∙ parts_joined environment coherent (take (i + 1) names) (drop (i + 1) names) in
    subst Once more (once_left (own_parts environment (take (i + 1) names)) (own_parts environment (drop (i + 1) names)) (subst Once whole once))
