-- How many parentheses a printed tree has, by recursion on the tree.
use Rattle.std.specs.Prelude.{ℕ, ◌+◌, Bool, true, false, ◌&&◌, ◌||◌, List, [], ◌∷◌, Option, Some, None, if◌then◌else◌}
use Rattle.text_meaning.specs.Trees.{Expr, TypeExpr, NameExpr, AppExpr, PiExpr, LamExpr, TypedLamExpr, ArrowExpr, BackExpr, Exprs, NoArgs, ThenArg, Assign, IncludeAssign, StructAssign, ConstAssign, Decl, IncludeDecl, StructDecl, ConstDecl, Module, SigModule, ViewModule}
use Rattle.print_meaning.specs.PrintedExpressions.{is_word, is_binding, is_operand, is_last_operand, is_back}

-- an expression that stands as it is, or in two parentheses
abbrev pub placed_cost : Bool → ℕ → ℕ → ℕ
placed_cost bare plain inside = if bare then plain else inside + 2

unfoldable mutual
  pub cost : (free : Bool) → Expr → ℕ
  cost free (TypeExpr s) = 0
  cost free (NameExpr s p) = 0
  cost free (AppExpr s h xs) = placed_cost (is_word h) (cost true h) (cost true h) + args_cost free xs
  cost free (PiExpr s x a b) = cost true a + cost true b
  cost free (LamExpr s x b) = cost true b
  cost free (TypedLamExpr s x a b) = cost true a + cost true b
  cost free (ArrowExpr s a b) = placed_cost (is_operand a) (cost false a) (cost true a) + placed_cost (if is_back b then false else true) (cost true b) (cost true b)
  cost free (BackExpr s b a) =
      placed_cost (is_operand b || is_back b) (cost false b) (cost true b) + placed_cost (if free then is_last_operand a else is_operand a) (cost free a) (cost true a)

  pub args_cost : (free : Bool) → Exprs → ℕ
  args_cost free NoArgs = 0
  args_cost free (ThenArg xs e) = args_cost false xs + placed_cost (is_word e || (free && is_binding e)) (cost true e) (cost true e)

-- ---- an expression in each of its places

-- an atom
abbrev pub atom_cost : Expr → ℕ
atom_cost e = placed_cost (is_word e) (cost true e) (cost true e)

-- an argument
abbrev pub argument_cost : Bool → Expr → ℕ
argument_cost free e = placed_cost (is_word e || (free && is_binding e)) (cost true e) (cost true e)

-- a row of atoms
abbrev pub operand_cost : Expr → ℕ
operand_cost e = placed_cost (is_operand e) (cost false e) (cost true e)

-- what stands behind `->`
abbrev pub body_cost : Expr → ℕ
body_cost e = placed_cost (if is_back e then false else true) (cost true e) (cost true e)

-- the front of a row of `<-`
abbrev pub front_cost : Expr → ℕ
front_cost e = placed_cost (is_operand e || is_back e) (cost false e) (cost true e)

-- the last operand of a row of `<-`
abbrev pub last_cost : Bool → Expr → ℕ
last_cost free e = placed_cost (if free then is_last_operand e else is_operand e) (cost free e) (cost true e)

-- ---- modules

abbrev pub assign_cost : Assign → ℕ
assign_cost (IncludeAssign m) = 0
assign_cost (StructAssign t m) = 0
assign_cost (ConstAssign t e) = cost true e

unfoldable pub assigns_cost : List Assign → ℕ
assigns_cost [] = 0
assigns_cost (x ∷ xs) = assign_cost x + assigns_cost xs

abbrev pub value_cost : Option Expr → ℕ
value_cost None = 0
value_cost (Some e) = cost true e

abbrev pub decl_cost : Decl → ℕ
decl_cost (IncludeDecl w) = 0
decl_cost (StructDecl n d xs) = assigns_cost xs
decl_cost (ConstDecl n c v) = cost true c + value_cost v

unfoldable pub decls_cost : List Decl → ℕ
decls_cost [] = 0
decls_cost (d ∷ ds) = decl_cost d + decls_cost ds

abbrev pub module_cost : Module → ℕ
module_cost (SigModule n ds) = decls_cost ds
module_cost (ViewModule n d c xs) = assigns_cost xs
