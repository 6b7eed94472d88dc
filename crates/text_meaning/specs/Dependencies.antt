-- The dependencies of a module, in the order of its text (this profile).
use Rattle.text_meaning.specs.Trees.{first_name, Written, Assign, IncludeAssign, StructAssign, ConstAssign, Decl, IncludeDecl, StructDecl, ConstDecl, Module, SigModule, ViewModule}
use Rattle.std.specs.Prelude.{Bool, true, false, List, [], ◌∷◌, map, flat_map, Option, Some, None}
use Rattle.name_meaning.specs.Names.{Name, Path, same_name, Text}
use Rattle.text_meaning.specs.Tokens.{Span}
use Rattle.text_meaning.specs.Reading.{ModuleText, ModuleTree, JudgementTree, Answer, Read, Syntax, TooDeep, Unsupported}
use Rattle.text_meaning.specs.TextAnswers.{read}
use Rattle.text_meaning.specs.Labels.{label_in}

-- A module that the text names, where it stands, and the label of the declaration or assignment that names it.
pub record Dependency : Type 0 where
  pub span : Span
  pub name : Name
  pub label : Path

-- A word of two or more names that begins with the theory's own written name names its own structures.
abbrev pub is_own_word : Option Name → Path → Bool
is_own_word None path = false
is_own_word (Some theory) [] = false
is_own_word (Some theory) (name ∷ []) = false
is_own_word (Some theory) (name ∷ next ∷ path) = same_name theory name

-- None for a word of the theory's own.
abbrev pub unless_own : Bool → Dependency → List Dependency
unless_own true dependency = []
unless_own false dependency = dependency ∷ []

-- The module that a written name names, at its place.
abbrev pub at_written : Path → Written → Dependency
at_written label written = record { span = written.span; name = first_name written.path; label = label }

-- The module that a word names, unless it is the theory's own.
abbrev pub word_dependencies : Option Name → Path → Written → List Dependency
word_dependencies theory label word = unless_own (is_own_word theory word.path) (at_written label word)

-- The words of an assignment. An inclusion has the label of its link, a structure that of its target.
abbrev pub assign_dependencies : Option Name → Option Name → Path → Assign → List Dependency
assign_dependencies theory structure label (IncludeAssign words) = flat_map (word_dependencies theory label) words
assign_dependencies theory structure label (StructAssign target words) = flat_map (word_dependencies theory (label_in structure target.path)) words
assign_dependencies theory structure label (ConstAssign target value) = []

-- The modules that a declaration names.
abbrev pub decl_dependencies : Name → Decl → List Dependency
decl_dependencies theory (IncludeDecl included) = at_written included.path included ∷ []
decl_dependencies theory (StructDecl name domain assigns) =
    at_written name.path domain ∷ flat_map (assign_dependencies (Some theory) (Some (first_name name.path)) name.path) assigns
decl_dependencies theory (ConstDecl name class value) = []

-- Included theories, domains of structures, the two ends of a view, and the first names of words.
abbrev pub module_dependencies : Module → List Dependency
module_dependencies (SigModule name decls) = flat_map (decl_dependencies (first_name name.path)) decls
module_dependencies (ViewModule name domain codomain assigns) =
    at_written name.path domain ∷ at_written name.path codomain ∷ flat_map (assign_dependencies None None name.path) assigns

-- A text that does not read has none.
abbrev pub answer_dependencies : Answer → List Dependency
answer_dependencies (Read (ModuleTree tree)) = module_dependencies tree
answer_dependencies (Read (JudgementTree tree)) = []
answer_dependencies (Syntax at) = []
answer_dependencies (TooDeep at) = []
answer_dependencies (Unsupported at) = []

-- The names on which a text depends. The name under which it is put does not count.
unfoldable pub dependencies : Name → Text → List Name
dependencies name text = map (λ (dependency : Dependency). dependency.name) (answer_dependencies (read ModuleText text))
