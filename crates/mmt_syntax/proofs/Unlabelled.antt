-- What an iterator gives of a whole module are the dependencies of its meaning, without their labels.
use Rattle.std.proofs.Common.{◌≡◌, Bool, true, false, not, List, [], ◌∷◌, ◌++◌, map, Option, Some, None, refl, sym, ap, ap₂, ◌∙◌}
use Rattle.std.specs.Prelude.{filter, flat_map}
use Rattle.std.proofs.lemmas.List.{map-append}
use Rattle.name_meaning.specs.Names.{Name, Path}
use Rattle.text_meaning.specs.Trees.{Written, Assign, IncludeAssign, StructAssign, ConstAssign, Decl, IncludeDecl, StructDecl, ConstDecl, Module, SigModule, ViewModule, first_name}
use Rattle.text_meaning.specs.Labels.{label_in}
use Rattle.text_meaning.specs.Dependencies as meaning
use Rattle.mmt_syntax.specs.Dependencies.{Dependency, unlabelled, dependencies}
use Rattle.mmt_syntax.specs.DependenciesLeft.{word_dependencies, words_of, assign_dependencies, decl_dependencies, left_of_module}

words_alike : (own : Option Name) (label : Path) (ws : List Written) → map unlabelled (flat_map (meaning.word_dependencies own label) ws) ≡ word_dependencies own ws
words_alike own label [] = refl
words_alike own label (w ∷ ws) = go (meaning.is_own_word own w.path) refl (words_alike own label ws)
  where
    go : (b : Bool) → meaning.is_own_word own w.path ≡ b → map unlabelled (flat_map (meaning.word_dependencies own label) ws) ≡ word_dependencies own ws
        → map unlabelled (flat_map (meaning.word_dependencies own label) (w ∷ ws)) ≡ word_dependencies own (w ∷ ws)
    go true e h = rw e h
    go false e h = rw e (ap (λ l. record { span = w.span; name = first_name w.path } ∷ l) h)

assign_alike : (own structure : Option Name) (label : Path) (x : Assign) → map unlabelled (meaning.assign_dependencies own structure label x) ≡ word_dependencies own (words_of x)
assign_alike own structure label (IncludeAssign ws) = words_alike own label ws
assign_alike own structure label (StructAssign target ws) = words_alike own (label_in structure target.path) ws
assign_alike own structure label (ConstAssign target value) = refl

assigns_alike : (own structure : Option Name) (label : Path) (xs : List Assign) → map unlabelled (flat_map (meaning.assign_dependencies own structure label) xs) ≡ assign_dependencies own xs
assigns_alike own structure label [] = refl
assigns_alike own structure label (x ∷ xs) =
    map-append unlabelled (meaning.assign_dependencies own structure label x) (flat_map (meaning.assign_dependencies own structure label) xs)
    ∙ ap₂ (λ a b. a ++ b) (assign_alike own structure label x) (assigns_alike own structure label xs)

decl_alike : (theory : Name) (d : Decl) → map unlabelled (meaning.decl_dependencies theory d) ≡ decl_dependencies (Some theory) d
decl_alike theory (IncludeDecl included) = refl
decl_alike theory (StructDecl name domain xs) = ap (λ l. record { span = domain.span; name = first_name domain.path } ∷ l) (assigns_alike (Some theory) (Some (first_name name.path)) name.path xs)
decl_alike theory (ConstDecl name class value) = refl

decls_alike : (theory : Name) (ds : List Decl) → map unlabelled (flat_map (meaning.decl_dependencies theory) ds) ≡ flat_map (decl_dependencies (Some theory)) ds
decls_alike theory [] = refl
decls_alike theory (d ∷ ds) =
    map-append unlabelled (meaning.decl_dependencies theory d) (flat_map (meaning.decl_dependencies theory) ds)
    ∙ ap₂ (λ a b. a ++ b) (decl_alike theory d) (decls_alike theory ds)

pub left_unlabelled : (m : Module) → left_of_module m ≡ dependencies m
left_unlabelled (SigModule name ds) = sym (decls_alike (first_name name.path) ds)
left_unlabelled (ViewModule name domain codomain xs) =
    ap (λ l. record { span = domain.span; name = first_name domain.path } ∷ record { span = codomain.span; name = first_name codomain.path } ∷ l) (sym (assigns_alike None None name.path xs))
