-- Which dependencies an iterator has still to give.
use Rattle.std.specs.Prelude.{ℕ, List, [], ◌∷◌, ◌++◌, Option, Some, None, filter, flat_map, map, not}
use Rattle.std.specs.Option.{option_map}
use Rattle.std.specs.Borrow.{Bor}
use Rattle.name_meaning.specs.Names.{Name}
use Rattle.text_meaning.specs.Trees as trees
use Rattle.text_meaning.specs.Trees.{first_name}
use Rattle.text_meaning.specs.Dependencies.{is_own_word}
use Rattle.base_types.specs.declared.span.Span.{Span}
use Rattle.mmt_syntax.specs.Readings.{read_span, read_written, read_words, read_assigns, read_decls}
use Rattle.mmt_syntax.specs.Dependencies.{Dependency}
use Rattle.mmt_syntax.specs.declared.written.Written.{Written}
use Rattle.mmt_syntax.specs.declared.decl.Decl.{Decl}
use Rattle.mmt_syntax.specs.declared.dep_iter.Links.{Links}
use Rattle.mmt_syntax.specs.declared.dep_iter.DepIter.{DepIter}

-- what a written path names first
abbrev pub dependency : trees.Written → Dependency
dependency w = record { span = w.span; name = first_name w.path }

-- the first names of words, but for those about structures of the theory itself
abbrev pub word_dependencies : Option Name → List trees.Written → List Dependency
word_dependencies own ws = map dependency (filter (λ w. not (is_own_word own w.path)) ws)

-- the words of an assignment's morphism; a value has none
abbrev pub words_of : trees.Assign → List trees.Written
words_of (trees.IncludeAssign ws) = ws
words_of (trees.StructAssign target ws) = ws
words_of (trees.ConstAssign target value) = []

abbrev pub assign_dependencies : Option Name → List trees.Assign → List Dependency
assign_dependencies own xs = flat_map (λ x. word_dependencies own (words_of x)) xs

abbrev pub decl_dependencies : Option Name → trees.Decl → List Dependency
decl_dependencies own (trees.IncludeDecl theory) = dependency theory ∷ []
decl_dependencies own (trees.StructDecl name domain xs) = dependency domain ∷ assign_dependencies own xs
decl_dependencies own (trees.ConstDecl name class value) = []

-- all of a module, before the first is given
abbrev pub left_of_module : trees.Module → List Dependency
left_of_module (trees.SigModule name ds) = flat_map (decl_dependencies (Some (first_name name.path))) ds
left_of_module (trees.ViewModule name domain codomain xs) = dependency domain ∷ dependency codomain ∷ assign_dependencies None xs

-- the theory's own name, where there is one
abbrev pub own_name : Option (Bor (List ℕ)) → Option Name
own_name own = option_map (λ n. n.now) own

-- of the words that are left of an assignment, and of the assignments behind it
abbrev pub left_of_links : Links → List Dependency
left_of_links l = word_dependencies (own_name l.own) (read_words l.words.now) ++ assign_dependencies (own_name l.own) (read_assigns l.assigns.now)

-- of an end of a view
abbrev pub left_of_end : Option (Bor Written) → List Dependency
left_of_end None = []
left_of_end (Some end) = dependency (read_written end.now) ∷ []

abbrev pub left_of_decls : Option (Bor (List ℕ)) → List Decl → List Dependency
left_of_decls own ds = flat_map (decl_dependencies (own_name own)) (read_decls ds)

abbrev pub left : DepIter → List Dependency
left d = left_of_end d.first ++ (left_of_end d.second ++ (left_of_links d.links ++ left_of_decls d.links.own d.decls.now))

-- what an item of the iterator is
abbrev pub item_dependency : Span × Bor (List ℕ) → Dependency
item_dependency item = record { span = read_span item.0; name = item.1.now }
