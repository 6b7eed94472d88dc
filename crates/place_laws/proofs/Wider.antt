-- What stands within some bytes stands within more.
use Rattle.std.proofs.Common.{ℕ, ◌≤◌, List, [], ◌∷◌, Option, Some, None, arith}
use Rattle.text_meaning.specs.Tokens.{Span}
use Rattle.text_meaning.specs.Trees.{Expr, TypeExpr, NameExpr, AppExpr, PiExpr, LamExpr, TypedLamExpr, ArrowExpr, BackExpr, Exprs, NoArgs, ThenArg, Written, Assign, IncludeAssign, StructAssign, ConstAssign, Decl, IncludeDecl, StructDecl, ConstDecl}
use Rattle.span_meaning.specs.Spans.{StandsWithin, ExprStands, ExprsStand, WordsStand, AssignStands, AssignsStand, ValueStands, DeclStands, DeclsStand}

module _ (P Q : Span → Type 0) (wider : (span : Span) → P span → Q span) where
  mutual
    pub expr_wider : (e : Expr) → ExprStands P e → ExprStands Q e
    expr_wider (TypeExpr span) h = wider span h
    expr_wider (NameExpr span path) h = wider span h
    expr_wider (AppExpr span head arguments) h = (wider span h.0, expr_wider head h.1, exprs_wider arguments h.2)
    expr_wider (PiExpr span binder domain body) h = (wider span h.0, expr_wider domain h.1, expr_wider body h.2)
    expr_wider (LamExpr span binder body) h = (wider span h.0, expr_wider body h.1)
    expr_wider (TypedLamExpr span binder domain body) h = (wider span h.0, expr_wider domain h.1, expr_wider body h.2)
    expr_wider (ArrowExpr span domain body) h = (wider span h.0, expr_wider domain h.1, expr_wider body h.2)
    expr_wider (BackExpr span body domain) h = (wider span h.0, expr_wider body h.1, expr_wider domain h.2)

    pub exprs_wider : (es : Exprs) → ExprsStand P es → ExprsStand Q es
    exprs_wider NoArgs h = tt
    exprs_wider (ThenArg arguments argument) h = (exprs_wider arguments h.0, expr_wider argument h.1)

  pub words_wider : (ws : List Written) → WordsStand P ws → WordsStand Q ws
  words_wider [] h = tt
  words_wider (w ∷ ws) h = (wider w.span h.0, words_wider ws h.1)

  pub assign_wider : (a : Assign) → AssignStands P a → AssignStands Q a
  assign_wider (IncludeAssign words) h = words_wider words h
  assign_wider (StructAssign target words) h = (wider target.span h.0, words_wider words h.1)
  assign_wider (ConstAssign target value) h = (wider target.span h.0, expr_wider value h.1)

  pub assigns_wider : (xs : List Assign) → AssignsStand P xs → AssignsStand Q xs
  assigns_wider [] h = tt
  assigns_wider (a ∷ xs) h = (assign_wider a h.0, assigns_wider xs h.1)

  value_wider : (o : Option Expr) → ValueStands P o → ValueStands Q o
  value_wider None h = tt
  value_wider (Some e) h = expr_wider e h

  pub decl_wider : (d : Decl) → DeclStands P d → DeclStands Q d
  decl_wider (IncludeDecl included) h = wider included.span h
  decl_wider (StructDecl named domain assigns) h = (wider named.span h.0, wider domain.span h.1, assigns_wider assigns h.2)
  decl_wider (ConstDecl named class value) h = (wider named.span h.0, expr_wider class h.1, value_wider value h.2)

  pub decls_wider : (ds : List Decl) → DeclsStand P ds → DeclsStand Q ds
  decls_wider [] h = tt
  decls_wider (d ∷ ds) h = (decl_wider d h.0, decls_wider ds h.1)

pub within_wider : (a b c d : ℕ) → a ≤ c → d ≤ b → (span : Span) → StandsWithin c d span → StandsWithin a b span
within_wider a b c d f g span s = let p = s.behind in let q = s.before in record { behind = omega (arith, f, p); forward = s.forward; before = omega (arith, g, q) }
