-- Trees that are equal up to their spans.
use Rattle.std.specs.Prelude.{◌≡◌, map, option_map}
use Rattle.text_meaning.specs.Tokens.{Span}
use Rattle.text_meaning.specs.Trees.{Expr, TypeExpr, NameExpr, AppExpr, PiExpr, LamExpr, TypedLamExpr, ArrowExpr, BackExpr, Exprs, NoArgs, ThenArg, Written, Assign, IncludeAssign, StructAssign, ConstAssign, Decl, IncludeDecl, StructDecl, ConstDecl, Module, SigModule, ViewModule}

-- the one span that stands for all
abbrev pub no_span : Span
no_span = record { from = 0; to = 0 }

-- a tree without its spans
unfoldable mutual
  pub bare_expr : Expr → Expr
  bare_expr (TypeExpr s) = TypeExpr no_span
  bare_expr (NameExpr s p) = NameExpr no_span p
  bare_expr (AppExpr s h xs) = AppExpr no_span (bare_expr h) (bare_exprs xs)
  bare_expr (PiExpr s x a b) = PiExpr no_span x (bare_expr a) (bare_expr b)
  bare_expr (LamExpr s x b) = LamExpr no_span x (bare_expr b)
  bare_expr (TypedLamExpr s x a b) = TypedLamExpr no_span x (bare_expr a) (bare_expr b)
  bare_expr (ArrowExpr s a b) = ArrowExpr no_span (bare_expr a) (bare_expr b)
  bare_expr (BackExpr s b a) = BackExpr no_span (bare_expr b) (bare_expr a)

  pub bare_exprs : Exprs → Exprs
  bare_exprs NoArgs = NoArgs
  bare_exprs (ThenArg xs e) = ThenArg (bare_exprs xs) (bare_expr e)

abbrev pub bare_written : Written → Written
bare_written w = record { path = w.path; span = no_span }

unfoldable pub bare_assign : Assign → Assign
bare_assign (IncludeAssign m) = IncludeAssign (map bare_written m)
bare_assign (StructAssign t m) = StructAssign (bare_written t) (map bare_written m)
bare_assign (ConstAssign t e) = ConstAssign (bare_written t) (bare_expr e)

unfoldable pub bare_decl : Decl → Decl
bare_decl (IncludeDecl w) = IncludeDecl (bare_written w)
bare_decl (StructDecl n d xs) = StructDecl (bare_written n) (bare_written d) (map bare_assign xs)
bare_decl (ConstDecl n c v) = ConstDecl (bare_written n) (bare_expr c) (option_map bare_expr v)

unfoldable pub bare_module : Module → Module
bare_module (SigModule n ds) = SigModule (bare_written n) (map bare_decl ds)
bare_module (ViewModule n d c xs) = ViewModule (bare_written n) (bare_written d) (bare_written c) (map bare_assign xs)

-- Two modules, or two expressions, are one up to spans.
abbrev pub IsSameModule : Module → Module → Type 0
IsSameModule m k = bare_module m ≡ bare_module k

abbrev pub IsSameExpr : Expr → Expr → Type 0
IsSameExpr e f = bare_expr e ≡ bare_expr f
