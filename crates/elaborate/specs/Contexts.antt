-- The scope and the variables of a context of the code.
use Rattle.std.specs.Prelude.{Bool, false, [], ◌∷◌, Option, Some, None, Ok}
use Rattle.std.specs.Option.{option_copied}
use Rattle.name_meaning.specs.Names.{Name, Path, same_name}
use Rattle.library_meaning.specs.Resolution as resolution
use Rattle.text_meaning.specs.Tokens as tokens
use Rattle.elaborate_meaning.specs.Rules.{Rule}
use Rattle.elaborate_meaning.specs.Answers.{Answer, broken, must}
use Rattle.elaborate_meaning.specs.Locals.{Locals, with_local}
use Rattle.elaborate_meaning.specs.NameHeads.{Level, level_of, same_level}
use Rattle.answer_meaning.specs.Answers.{◌>>=◌}
use Rattle.translation_meaning.specs.Heads.{Head}
use Rattle.term_trees.specs.Readings.{read_declaration, read_family}
use Rattle.names.specs.Readings.{read_locals, read_tabled}
use Rattle.names.specs.declared.scope.Found.{Found}
use Rattle.names.specs.declared.scope.Found.TheVariants as found
use Rattle.elaborate.specs.declared.context.Context.{Context}
use Rattle.elaborate.specs.declared.context.Variables.{Variables}
use Rattle.elaborate.specs.declared.context.Variables.TheOpen as variables
use Rattle.elaborate.specs.declared.context.Variables.TheFolds.{fold-Variables}

-- The variables, given the outer ones.
abbrev pub variables_layer : variables.Variables-F Locals → Locals
variables_layer (variables.Given given) = read_locals given.vars.now
variables_layer (variables.Bound name family outer) = with_local (option_copied name) (read_family family.now) outer.now

abbrev pub variables_in : Variables → Locals
variables_in = fold-Variables Locals variables_layer

abbrev pub scope_of : Context → resolution.Scope
scope_of context = read_tabled context.scope.now

abbrev pub locals_of : Context → Locals
locals_of context = variables_in context.variables

-- What is found.
abbrev pub read_found : Found → resolution.Resolved
read_found (found.Var index) = resolution.Variable index
read_found (found.Decl decl) = resolution.Declared (read_declaration decl.now)

-- A name that stands for something, or the rule that it breaks.
abbrev pub resolved_answer : tokens.Span → resolution.Resolved → Answer resolution.Resolved
resolved_answer span (resolution.Variable index) = Ok (resolution.Variable index)
resolved_answer span (resolution.Declared declaration) = Ok (resolution.Declared declaration)
resolved_answer span resolution.Unknown = broken span Rule.UnknownName
resolved_answer span resolution.Ambiguous = broken span Rule.AmbiguousName

-- The path is the one name of a binder.
abbrev pub is_named_by : Option Name → Path → Bool
is_named_by None path = false
is_named_by (Some other) [] = false
is_named_by (Some other) (name ∷ []) = same_name other name
is_named_by (Some other) (name ∷ next ∷ path) = false

-- A head of this level.
abbrev pub levelled : Level → tokens.Span → Answer Head → Answer Head
levelled level span answer = do
  head ← answer
  _ ← must (same_level (level_of head) level) span Rule.Level
  Ok head
