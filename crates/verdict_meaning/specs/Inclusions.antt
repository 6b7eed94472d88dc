-- The inclusions of a theory, and what is reached by inclusions alone (Rabe and Kohlhase 2013, section 3: inclusions are
-- transitive).
use Rattle.std.specs.Prelude.{◌≡◌, true, List, [], ◌∷◌, flat_map}
use Rattle.name_meaning.specs.Names.{Name, Text, is_among}
use Rattle.edit_log_meaning.specs.Log.{Library, text_of}
use Rattle.module_graph_meaning.specs.Walks.{of_text}
use Rattle.text_meaning.specs.Trees.{Decl, IncludeDecl, StructDecl, ConstDecl, Module, SigModule, ViewModule, first_name}
use Rattle.text_meaning.specs.Reading.{ModuleText, ModuleTree, JudgementTree, Answer, Read, Syntax, TooDeep, Unsupported}
use Rattle.text_meaning.specs.TextAnswers.{read}

-- The theory that a declaration includes, if it is an inclusion.
abbrev pub decl_inclusions : Decl → List Name
decl_inclusions (IncludeDecl included) = first_name included.path ∷ []
decl_inclusions (StructDecl name domain assigns) = []
decl_inclusions (ConstDecl name class value) = []

-- A theory includes these directly, in the order of its text; a view includes nothing.
abbrev pub module_inclusions : Module → List Name
module_inclusions (SigModule name decls) = flat_map decl_inclusions decls
module_inclusions (ViewModule name domain codomain assigns) = []

-- A text that does not read has none.
abbrev pub answer_inclusions : Answer → List Name
answer_inclusions (Read (ModuleTree tree)) = module_inclusions tree
answer_inclusions (Read (JudgementTree tree)) = []
answer_inclusions (Syntax at) = []
answer_inclusions (TooDeep at) = []
answer_inclusions (Unsupported at) = []

-- The theories that a text includes directly.
unfoldable pub text_inclusions : Text → List Name
text_inclusions text = answer_inclusions (read ModuleText text)

-- The theories that the text under this name includes directly; where there is no text, none.
unfoldable pub inclusions_in : Library → Name → List Name
inclusions_in library name = of_text text_inclusions (text_of library name)

-- By the texts of the library the first theory reaches the second by inclusions alone: it includes it directly, or
-- includes one that reaches it so.
pub data ReachesByInclusions (library : Library) : Name → Name → Type 0 where
  Directly : {theory other : Name} → is_among (inclusions_in library theory) other ≡ true → ReachesByInclusions library theory other
  Through : {theory included other : Name} → is_among (inclusions_in library theory) included ≡ true → ReachesByInclusions library included other → ReachesByInclusions library theory other
