-- Where the parts of a tree stand (this profile). A property of spans holds of a tree where it holds of each span that stands in
-- it.
use Rattle.std.specs.Prelude.{ℕ, ◌≤◌, List, [], ◌∷◌, Option, Some, None, ⊤}
use Rattle.text_meaning.specs.Tokens.{Span}
use Rattle.text_meaning.specs.Trees.{Expr, TypeExpr, NameExpr, AppExpr, PiExpr, LamExpr, TypedLamExpr, ArrowExpr, BackExpr, Exprs, NoArgs, ThenArg, Written, Assign, IncludeAssign, StructAssign, ConstAssign, Decl, IncludeDecl, StructDecl, ConstDecl, Module, SigModule, ViewModule}
use Rattle.text_meaning.specs.Reading.{Tree, ModuleTree, JudgementTree, Answer, Read, Syntax, TooDeep, Unsupported}

-- The span begins and ends within the bytes from one place up to another.
pub record StandsWithin (from to : ℕ) (span : Span) : Type 0 where
  pub behind : from ≤ span.from
  pub forward : span.from ≤ span.to
  pub before : span.to ≤ to

abbrev mutual
  -- Each span of the expression has the property.
  pub ExprStands : (Span → Type 0) → Expr → Type 0
  ExprStands P (TypeExpr span) = P span
  ExprStands P (NameExpr span path) = P span
  ExprStands P (AppExpr span head arguments) = P span × ExprStands P head × ExprsStand P arguments
  ExprStands P (PiExpr span binder domain body) = P span × ExprStands P domain × ExprStands P body
  ExprStands P (LamExpr span binder body) = P span × ExprStands P body
  ExprStands P (TypedLamExpr span binder domain body) = P span × ExprStands P domain × ExprStands P body
  ExprStands P (ArrowExpr span domain body) = P span × ExprStands P domain × ExprStands P body
  ExprStands P (BackExpr span body domain) = P span × ExprStands P body × ExprStands P domain

  -- So has each of the arguments.
  pub ExprsStand : (Span → Type 0) → Exprs → Type 0
  ExprsStand P NoArgs = ⊤
  ExprsStand P (ThenArg arguments argument) = ExprsStand P arguments × ExprStands P argument

-- Each word.
abbrev pub WordsStand : (Span → Type 0) → List Written → Type 0
WordsStand P [] = ⊤
WordsStand P (word ∷ words) = P word.span × WordsStand P words

abbrev pub AssignStands : (Span → Type 0) → Assign → Type 0
AssignStands P (IncludeAssign words) = WordsStand P words
AssignStands P (StructAssign target words) = P target.span × WordsStand P words
AssignStands P (ConstAssign target value) = P target.span × ExprStands P value

abbrev pub AssignsStand : (Span → Type 0) → List Assign → Type 0
AssignsStand P [] = ⊤
AssignsStand P (assign ∷ assigns) = AssignStands P assign × AssignsStand P assigns

-- A value, if there is one.
abbrev pub ValueStands : (Span → Type 0) → Option Expr → Type 0
ValueStands P None = ⊤
ValueStands P (Some value) = ExprStands P value

abbrev pub DeclStands : (Span → Type 0) → Decl → Type 0
DeclStands P (IncludeDecl included) = P included.span
DeclStands P (StructDecl name domain assigns) = P name.span × P domain.span × AssignsStand P assigns
DeclStands P (ConstDecl name class value) = P name.span × ExprStands P class × ValueStands P value

abbrev pub DeclsStand : (Span → Type 0) → List Decl → Type 0
DeclsStand P [] = ⊤
DeclsStand P (decl ∷ decls) = DeclStands P decl × DeclsStand P decls

-- Each span of the module has the property.
abbrev pub ModuleStands : (Span → Type 0) → Module → Type 0
ModuleStands P (SigModule name decls) = P name.span × DeclsStand P decls
ModuleStands P (ViewModule name domain codomain assigns) = P name.span × P domain.span × P codomain.span × AssignsStand P assigns

abbrev pub TreeStands : (Span → Type 0) → Tree → Type 0
TreeStands P (ModuleTree tree) = ModuleStands P tree
TreeStands P (JudgementTree tree) = ExprStands P tree.object × ExprStands P tree.family

-- A tree that is read stands within so many bytes, and a place where reading stops does not lie past them.
abbrev pub AnswerStands : ℕ → Answer → Type 0
AnswerStands bytes (Read tree) = TreeStands (StandsWithin 0 bytes) tree
AnswerStands bytes (Syntax at) = at ≤ bytes
AnswerStands bytes (TooDeep at) = at ≤ bytes
AnswerStands bytes (Unsupported at) = at ≤ bytes
