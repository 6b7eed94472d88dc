-- Classes and values: what stands behind the colon of a declaration, and behind its `=` or that of an assignment (this
-- profile).
use Rattle.std.specs.Prelude.{ℕ, zero, suc, Bool, true, false, [], Ok}
use Rattle.name_meaning.specs.Names.{Path}
use Rattle.library_meaning.specs.Below.Terms.{Family, Pi, AtFamily, Kind, Ty, PiKind, domain_count}
use Rattle.library_meaning.specs.Below.Signatures.{Class, FamilyClass, KindClass, Value, Declaration}
use Rattle.library_meaning.specs.Below.Equality.{same_family, same_kind, same_class}
use Rattle.library_meaning.specs.Below.LongTerms.{eta_family}
use Rattle.library_meaning.specs.Below.Heads.{Head, ObjectHead, FamilyHead}
use Rattle.library_meaning.specs.Below.Translation.{object_value, family_value}
use Rattle.library_meaning.specs.Resolution.{Scope, Resolved, Variable, Declared, Unknown, Ambiguous, resolve}
use Rattle.library_meaning.specs.Words.{own_value}
use Rattle.text_meaning.specs.Tokens.{Span}
use Rattle.text_meaning.specs.Trees.{Expr, TypeExpr, NameExpr, AppExpr, PiExpr, LamExpr, TypedLamExpr, ArrowExpr, BackExpr}
use Rattle.elaborate_meaning.specs.Rules.{Rule}
use Rattle.elaborate_meaning.specs.Answers.{Answer, broken, must}
use Rattle.answer_meaning.specs.Answers.{◌>>=◌}
use Rattle.elaborate_meaning.specs.Locals.{Locals, with_local}
use Rattle.elaborate_meaning.specs.NameHeads.{Level, Objects, Families, same_level, name_head}
use Rattle.elaborate_meaning.specs.Expansion.{span_of, family_at_type, expand_head, expand_arguments, expand_object, expand_family, expand_kind}

-- The last body of the products is `type`.
unfoldable pub ends_in_type : Expr → Bool
ends_in_type (TypeExpr span) = true
ends_in_type (PiExpr span binder domain body) = ends_in_type body
ends_in_type (ArrowExpr span domain body) = ends_in_type body
ends_in_type (BackExpr span body domain) = ends_in_type body
ends_in_type (NameExpr span path) = false
ends_in_type (AppExpr span function arguments) = false
ends_in_type (LamExpr span binder body) = false
ends_in_type (TypedLamExpr span binder domain body) = false

-- The class that an expression stands for: a kind where it ends in `type`, else a family.
abbrev pub class_by : Scope → Expr → Bool → Answer Class
class_by scope expression true = do
  kind ← expand_kind scope [] expression
  Ok (KindClass kind)
class_by scope expression false = do
  family ← expand_family scope [] expression
  Ok (FamilyClass family)

-- The class that an expression stands for.
unfoldable pub expand_class : Scope → Expr → Answer Class
expand_class scope expression = class_by scope expression (ends_in_type expression)

-- The domain of a kind, and the kind behind it.
pub record KindProduct : Type 0 where
  pub domain : Family
  pub rest : Kind

-- A λ stands at a Π kind alone.
abbrev pub lambda_at_kind : Span → Kind → Answer KindProduct
lambda_at_kind span (PiKind domain rest) = Ok (record { domain = domain; rest = rest })
lambda_at_kind span Ty = broken span Rule.Mismatch

-- The body of the family value that an outcome stands for at a kind: behind the kind's domains, the outcome applied to the
-- long forms of their variables. Where binders are left, there is one for each of these domains, and what stands under them is
-- this body already. A Π takes no argument.
abbrev pub expanded_family : Kind → ℕ → Family → Family
expanded_family kind zero (AtFamily p) = AtFamily (eta_family kind p)
expanded_family kind zero (Pi domain codomain) = Pi domain codomain
expanded_family kind (suc binders) outcome = outcome

-- The family of a head that is wanted at this kind: at a Π kind a name or an application stands only where the kind that it has
-- left is just this one.
abbrev pub family_at_kind : Span → Kind → Head → Answer Family
family_at_kind span (PiKind domain rest) (FamilyHead binders outcome kind) = do
  _ ← must (same_kind kind (PiKind domain rest)) span Rule.Mismatch
  Ok (expanded_family (PiKind domain rest) binders outcome)
family_at_kind span (PiKind domain rest) (ObjectHead object classifier) = broken span Rule.Level
family_at_kind span Ty head = family_at_type span head

-- The body of the family value that an expression stands for at a kind: λ for domains of the kind, and under them a name or
-- an application at the kind that is left.
unfoldable pub expand_family_value : Scope → Locals → Expr → Kind → Answer Family
expand_family_value scope locals (LamExpr span binder body) kind = do
  product ← lambda_at_kind span kind
  expand_family_value scope (with_local binder product.domain locals) body product.rest
expand_family_value scope locals (TypedLamExpr span binder domain body) kind = do
  product ← lambda_at_kind span kind
  written ← expand_family scope locals domain
  _ ← must (same_family written product.domain) (span_of domain) Rule.Annotation
  expand_family_value scope (with_local binder product.domain locals) body product.rest
expand_family_value scope locals (TypeExpr span) kind = broken span Rule.Level
expand_family_value scope locals (PiExpr span binder domain body) kind = broken span Rule.FamilyNotAtomic
expand_family_value scope locals (ArrowExpr span domain body) kind = broken span Rule.FamilyNotAtomic
expand_family_value scope locals (BackExpr span body domain) kind = broken span Rule.FamilyNotAtomic
expand_family_value scope locals (NameExpr span path) kind = do
  head ← name_head Families scope locals span path
  family_at_kind span kind head
expand_family_value scope locals (AppExpr span function arguments) kind = do
  first ← expand_head Families scope locals function
  head ← expand_arguments scope locals arguments first
  family_at_kind span kind head

-- A family is the class of objects, a kind that of families.
abbrev pub class_level : Class → Level
class_level (FamilyClass family) = Objects
class_level (KindClass kind) = Families

-- The declaration that a name is resolved to. Around a value there are no variables.
abbrev pub resolved_declaration : Span → Resolved → Answer Declaration
resolved_declaration span (Variable index) = broken span Rule.UnknownName
resolved_declaration span (Declared declaration) = Ok declaration
resolved_declaration span Unknown = broken span Rule.UnknownName
resolved_declaration span Ambiguous = broken span Rule.AmbiguousName

-- The value that one name gives: an undefined constant itself, or the value of a defined one.
abbrev pub named_value : Scope → Span → Path → Class → Answer Value
named_value scope span path class = do
  declaration ← resolved_declaration span (resolve scope [] path)
  _ ← must (same_level (class_level declaration.class) (class_level class)) span Rule.Level
  _ ← must (same_class declaration.class class) span Rule.Mismatch
  Ok (own_value declaration declaration.value)

-- The value that an expression which is not one name gives.
abbrev pub built_value : Scope → Expr → Class → Answer Value
built_value scope expression (FamilyClass family) = do
  object ← expand_object scope [] expression family
  Ok (object_value object)
built_value scope expression (KindClass kind) = do
  body ← expand_family_value scope [] expression kind
  Ok (family_value (domain_count kind) body)

-- The value that an expression stands for at a class.
unfoldable pub expand_value : Scope → Expr → Class → Answer Value
expand_value scope (NameExpr span path) class = named_value scope span path class
expand_value scope (TypeExpr span) class = built_value scope (TypeExpr span) class
expand_value scope (AppExpr span function arguments) class = built_value scope (AppExpr span function arguments) class
expand_value scope (PiExpr span binder domain body) class = built_value scope (PiExpr span binder domain body) class
expand_value scope (LamExpr span binder body) class = built_value scope (LamExpr span binder body) class
expand_value scope (TypedLamExpr span binder domain body) class = built_value scope (TypedLamExpr span binder domain body) class
expand_value scope (ArrowExpr span domain body) class = built_value scope (ArrowExpr span domain body) class
expand_value scope (BackExpr span body domain) class = built_value scope (BackExpr span body domain) class
