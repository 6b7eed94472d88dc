-- The trees that texts spell: expressions, and the modules around them (this profile, in Twelf's module syntax).
use Rattle.std.specs.Prelude.{[], ◌∷◌, List, Option}
use Rattle.name_meaning.specs.Names.{Name, Path}
use Rattle.text_meaning.specs.Tokens.{Span}

-- the variable of a binder: its name, or none where `_` is written
abbrev pub Binder : Type 0
Binder = Option Name

-- Expressions. Each has its span, which does not count parentheses around the whole of it.
mutual
  pub data Expr : Type 0 where
    TypeExpr : Span → Expr
    NameExpr : Span → Path → Expr
    AppExpr : Span → (head : Expr) → (args : Exprs) → Expr
    PiExpr : Span → Binder → (domain body : Expr) → Expr
    LamExpr : Span → Binder → (body : Expr) → Expr
    TypedLamExpr : Span → Binder → (domain body : Expr) → Expr
    ArrowExpr : Span → (domain body : Expr) → Expr
    BackExpr : Span → (body domain : Expr) → Expr

  -- the arguments of an application, the last one outermost
  pub data Exprs : Type 0 where
    NoArgs : Exprs
    ThenArg : Exprs → Expr → Exprs

-- a written path, where it stands
pub record Written : Type 0 where
  pub path : Path
  pub span : Span

-- an assignment of a structure or a view; a morphism is a row of words, at least one
pub data Assign : Type 0 where
  IncludeAssign : (morph : List Written) → Assign
  StructAssign : (target : Written) → (morph : List Written) → Assign
  ConstAssign : (target : Written) → (value : Expr) → Assign

-- a declaration of a theory; a structure without a body and one with an empty body are one tree
pub data Decl : Type 0 where
  IncludeDecl : Written → Decl
  StructDecl : (name domain : Written) → List Assign → Decl
  ConstDecl : (name : Written) → (class : Expr) → (value : Option Expr) → Decl

pub data Module : Type 0 where
  SigModule : (name : Written) → List Decl → Module
  ViewModule : (name domain codomain : Written) → List Assign → Module

pub record Judgement : Type 0 where
  pub object : Expr
  pub family : Expr

-- The first name of a path.
abbrev pub first_name : Path → Name
first_name [] = []
first_name (name ∷ path) = name
