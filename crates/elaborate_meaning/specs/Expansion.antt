-- Expansion: the term that a written expression stands for, or its first fault (this profile). Each argument is taken by the
-- head so far, and what is atomic at a Π is put in its long form (Harper and Licata 2007, section 2: hereditary substitution
-- and η-expansion at the erasure of the classifier).
use Rattle.std.specs.Prelude.{Option, Some, None, Ok}
use Rattle.library_meaning.specs.Below.Terms.{Object, Lam, Family, Pi, AtFamily, Kind, Ty, PiKind}
use Rattle.library_meaning.specs.Below.Equality.{same_family}
use Rattle.library_meaning.specs.Below.LongTerms.{expanded}
use Rattle.library_meaning.specs.Below.Heads.{Head, ObjectHead, FamilyHead, head_takes}
use Rattle.library_meaning.specs.Resolution.{Scope}
use Rattle.text_meaning.specs.Tokens.{Span}
use Rattle.text_meaning.specs.Trees.{Expr, TypeExpr, NameExpr, AppExpr, PiExpr, LamExpr, TypedLamExpr, ArrowExpr, BackExpr, Exprs, NoArgs, ThenArg}
use Rattle.elaborate_meaning.specs.Rules.{Rule}
use Rattle.elaborate_meaning.specs.Answers.{Answer, broken, must, or_broken}
use Rattle.answer_meaning.specs.Answers.{◌>>=◌}
use Rattle.elaborate_meaning.specs.Locals.{Locals, with_local}
use Rattle.elaborate_meaning.specs.NameHeads.{Level, Objects, Families, name_head}

-- Where an expression stands.
abbrev pub span_of : Expr → Span
span_of (TypeExpr span) = span
span_of (NameExpr span path) = span
span_of (AppExpr span head arguments) = span
span_of (PiExpr span binder domain body) = span
span_of (LamExpr span binder body) = span
span_of (TypedLamExpr span binder domain body) = span
span_of (ArrowExpr span domain body) = span
span_of (BackExpr span body domain) = span

-- The domain and the codomain of a Π.
pub record Product : Type 0 where
  pub domain : Family
  pub codomain : Family

-- A λ stands at a Π alone.
abbrev pub lambda_at : Span → Family → Answer Product
lambda_at span (Pi domain codomain) = Ok (record { domain = domain; codomain = codomain })
lambda_at span (AtFamily p) = broken span Rule.Mismatch

-- The domain of what the head takes next, where its classifier is a Π.
abbrev pub domain_of : Head → Option Family
domain_of (ObjectHead object (Pi domain body)) = Some domain
domain_of (ObjectHead object (AtFamily p)) = None
domain_of (FamilyHead binders family (PiKind domain kind)) = Some domain
domain_of (FamilyHead binders family Ty) = None

-- The object of a head that is wanted at this family: a name or an application stands only where its classifier is just this
-- one. What it comes out as is put in its long form, where it is not there already.
abbrev pub object_at : Span → Family → Head → Answer Object
object_at span family (ObjectHead outcome classifier) = do
  _ ← must (same_family classifier family) span Rule.Mismatch
  Ok (expanded family outcome)
object_at span family (FamilyHead binders other kind) = broken span Rule.Level

-- The family of a head whose remaining kind is `type`.
abbrev pub family_at_type : Span → Head → Answer Family
family_at_type span (FamilyHead binders family Ty) = Ok family
family_at_type span (FamilyHead binders family (PiKind domain kind)) = broken span Rule.NotCanonical
family_at_type span (ObjectHead object classifier) = broken span Rule.Level

unfoldable mutual
  -- The object that an expression stands for at a family.
  pub expand_object : Scope → Locals → Expr → Family → Answer Object
  expand_object scope locals (TypeExpr span) family = broken span Rule.Level
  expand_object scope locals (PiExpr span binder domain body) family = broken span Rule.Level
  expand_object scope locals (ArrowExpr span domain body) family = broken span Rule.Level
  expand_object scope locals (BackExpr span body domain) family = broken span Rule.Level
  expand_object scope locals (LamExpr span binder body) family = do
    product ← lambda_at span family
    object ← expand_object scope (with_local binder product.domain locals) body product.codomain
    Ok (Lam object)
  expand_object scope locals (TypedLamExpr span binder domain body) family = do
    product ← lambda_at span family
    written ← expand_family scope locals domain
    _ ← must (same_family written product.domain) (span_of domain) Rule.Annotation
    object ← expand_object scope (with_local binder product.domain locals) body product.codomain
    Ok (Lam object)
  expand_object scope locals (NameExpr span path) family = do
    head ← name_head Objects scope locals span path
    object_at span family head
  expand_object scope locals (AppExpr span function arguments) family = do
    first ← expand_head Objects scope locals function
    head ← expand_arguments scope locals arguments first
    object_at span family head

  -- The head that an expression of this level begins with, which takes further arguments.
  pub expand_head : Level → Scope → Locals → Expr → Answer Head
  expand_head level scope locals (NameExpr span path) = name_head level scope locals span path
  expand_head level scope locals (AppExpr span function arguments) = do
    first ← expand_head level scope locals function
    expand_arguments scope locals arguments first
  expand_head level scope locals (LamExpr span binder body) = broken span Rule.NotCanonical
  expand_head level scope locals (TypedLamExpr span binder domain body) = broken span Rule.NotCanonical
  expand_head level scope locals (TypeExpr span) = broken span Rule.Level
  expand_head level scope locals (PiExpr span binder domain body) = broken span Rule.Level
  expand_head level scope locals (ArrowExpr span domain body) = broken span Rule.Level
  expand_head level scope locals (BackExpr span body domain) = broken span Rule.Level

  -- The head takes the arguments from left to right, each an object at the domain of the classifier so far.
  pub expand_arguments : Scope → Locals → Exprs → Head → Answer Head
  expand_arguments scope locals NoArgs first = Ok first
  expand_arguments scope locals (ThenArg arguments argument) first = do
    head ← expand_arguments scope locals arguments first
    domain ← or_broken (domain_of head) (span_of argument) Rule.NotAFunction
    object ← expand_object scope locals argument domain
    Ok (head_takes head object)

  -- The family that an expression stands for.
  pub expand_family : Scope → Locals → Expr → Answer Family
  expand_family scope locals (PiExpr span binder domain body) = do
    first ← expand_family scope locals domain
    second ← expand_family scope (with_local binder first locals) body
    Ok (Pi first second)
  expand_family scope locals (ArrowExpr span domain body) = do
    first ← expand_family scope locals domain
    second ← expand_family scope (with_local None first locals) body
    Ok (Pi first second)
  expand_family scope locals (BackExpr span body domain) = do
    first ← expand_family scope locals domain
    second ← expand_family scope (with_local None first locals) body
    Ok (Pi first second)
  expand_family scope locals (TypeExpr span) = broken span Rule.Level
  expand_family scope locals (LamExpr span binder body) = broken span Rule.Level
  expand_family scope locals (TypedLamExpr span binder domain body) = broken span Rule.Level
  expand_family scope locals (NameExpr span path) = do
    head ← name_head Families scope locals span path
    family_at_type span head
  expand_family scope locals (AppExpr span function arguments) = do
    first ← expand_head Families scope locals function
    head ← expand_arguments scope locals arguments first
    family_at_type span head

-- The kind that an expression stands for.
unfoldable pub expand_kind : Scope → Locals → Expr → Answer Kind
expand_kind scope locals (TypeExpr span) = Ok Ty
expand_kind scope locals (PiExpr span binder domain body) = do
  first ← expand_family scope locals domain
  kind ← expand_kind scope (with_local binder first locals) body
  Ok (PiKind first kind)
expand_kind scope locals (ArrowExpr span domain body) = do
  first ← expand_family scope locals domain
  kind ← expand_kind scope (with_local None first locals) body
  Ok (PiKind first kind)
expand_kind scope locals (BackExpr span body domain) = do
  first ← expand_family scope locals domain
  kind ← expand_kind scope (with_local None first locals) body
  Ok (PiKind first kind)
expand_kind scope locals (NameExpr span path) = broken span Rule.Level
expand_kind scope locals (AppExpr span function arguments) = broken span Rule.Level
expand_kind scope locals (LamExpr span binder body) = broken span Rule.Level
expand_kind scope locals (TypedLamExpr span binder domain body) = broken span Rule.Level
