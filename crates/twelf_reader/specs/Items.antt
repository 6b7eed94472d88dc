-- Where the machine stands behind what a reader of declarations and assignments has read.
use Rattle.std.specs.Prelude.{List, [], ◌∷◌, ◌++◌, Option, Some, None}
use Rattle.text_meaning.specs.Tokens.{ArrowSign, ColonSign, DotSign, EndSign, EqualSign, LeftBrace}
use Rattle.text_meaning.specs.Trees as trees
use Rattle.text_meaning.specs.Reading.{ModuleTree, Tree}
use Rattle.text_meaning.specs.Parsing.{AfterDomain, AtAssign, AtDecl, Expect, ExpectName, InView, Owner, Simple, State, Whole, as_written, close_owner}
use Rattle.mmt_syntax.specs.Readings.{read_assign, read_decl}
use Rattle.mmt_syntax.specs.declared.assign.Assign.{Assign}
use Rattle.mmt_syntax.specs.declared.decl.Decl.{Decl}

-- behind one more assignment, or behind the brace that ends them
abbrev pub next_assign : Owner → List trees.Assign → Option Assign → State
next_assign o xs (Some x) = AtAssign o (xs ++ (read_assign x ∷ []))
next_assign o xs None = close_owner o xs

-- behind the brace that ends a module
abbrev pub text_ends : Tree → State
text_ends tree = Expect DotSign (Expect EndSign (Whole tree))

abbrev pub theory_ends : Simple → List trees.Decl → State
theory_ends sig ds = text_ends (ModuleTree (trees.SigModule (as_written sig) ds))

-- behind one more declaration, or behind that brace
abbrev pub next_decl : Simple → List trees.Decl → Option Decl → State
next_decl sig ds (Some d) = AtDecl sig (ds ++ (read_decl d ∷ []))
next_decl sig ds None = theory_ends sig ds

-- before the body of a module
abbrev pub body_begins : State → State
body_begins inside = Expect EqualSign (Expect LeftBrace inside)

-- behind the name of a theory; of a view, of its domain, of its codomain; of a structure
abbrev pub theory_named : Simple → State
theory_named x = body_begins (AtDecl x [])

abbrev pub view_to : Simple → Simple → Simple → State
view_to x y z = body_begins (AtAssign (InView x y z) [])

abbrev pub view_from : Simple → Simple → State
view_from x y = Expect ArrowSign (ExpectName (view_to x y))

abbrev pub view_named : Simple → State
view_named x = Expect ColonSign (ExpectName (view_from x))

abbrev pub struct_named : Simple → List trees.Decl → Simple → State
struct_named sig ds y = Expect ColonSign (ExpectName (AfterDomain sig ds y))
