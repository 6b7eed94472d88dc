-- Steps of expansion in which the code is cut, by the definitions of expansion.
use Rattle.std.specs.Prelude.{Bool, true, false, Option, Some, None, Ok, ⊤}
use Rattle.std.specs.Option.{option_map}
use Rattle.std.specs.declared.boxed.Box.{Box}
use Rattle.std.specs.declared.alloc.Global.{Global}
use Rattle.name_meaning.specs.Names.{Name, Path}
use Rattle.lf_meaning.specs.Terms.{Object, Family, Pi, Kind, PiKind, domain_count}
use Rattle.lf_meaning.specs.Signatures.{Class, FamilyClass, KindClass, Value}
use Rattle.lf_meaning.specs.Equality.{same_family, same_class}
use Rattle.translation_meaning.specs.Heads.{Head, head_takes}
use Rattle.translation_meaning.specs.Translation.{object_value, family_value}
use Rattle.library_meaning.specs.Resolution.{Scope, resolve}
use Rattle.library_meaning.specs.Words.{own_value}
use Rattle.text_meaning.specs.Tokens.{Span}
use Rattle.text_meaning.specs.Trees as trees
use Rattle.answer_meaning.specs.Answers.{◌>>=◌}
use Rattle.elaborate_meaning.specs.Rules.{Rule}
use Rattle.elaborate_meaning.specs.Answers.{Answer, must, or_broken}
use Rattle.elaborate_meaning.specs.Locals.{Locals, variables_of, with_local}
use Rattle.elaborate_meaning.specs.NameHeads.{Objects, Families, same_level}
use Rattle.elaborate_meaning.specs.Expansion.{span_of, domain_of, object_at, family_at_type, expand_object, expand_head, expand_family, expand_kind}
use Rattle.elaborate_meaning.specs.Values.{ends_in_type, class_level, resolved_declaration, family_at_kind, expand_family_value}
use Rattle.mmt_syntax.specs.Readings.{read_expr}
use Rattle.mmt_syntax.specs.declared.expr.Expr.{Expr}

-- The written domain of a λ, if there is one.
abbrev pub written_of : Option (Box Expr Global) → Option trees.Expr
written_of written = option_map (λ (domain : Box Expr Global). read_expr domain.value) written

-- It is the expected one.
abbrev pub domain_answer : Scope → Locals → Option trees.Expr → Family → Answer ⊤
domain_answer scope locals None domain = Ok tt
domain_answer scope locals (Some expression) domain = do
  written ← expand_family scope locals expression
  must (same_family written domain) (span_of expression) Rule.Annotation

-- What a name or an application at a span stands for at a family, and as a family.
abbrev pub applied_answer : Scope → Locals → Span → trees.Expr → Family → Answer Object
applied_answer scope locals span expression family = do
  head ← expand_head Objects scope locals expression
  object_at span family head

abbrev pub applied_family_answer : Scope → Locals → Span → trees.Expr → Answer Family
applied_family_answer scope locals span expression = do
  head ← expand_head Families scope locals expression
  family_at_type span head

-- The head takes one argument.
abbrev pub argument_answer : Scope → Locals → trees.Expr → Head → Answer Head
argument_answer scope locals argument head = do
  domain ← or_broken (domain_of head) (span_of argument) Rule.NotAFunction
  object ← expand_object scope locals argument domain
  Ok (head_takes head object)

-- The Π of a domain and of a body behind it; and the kind.
abbrev pub product_answer : Scope → Locals → Option Name → trees.Expr → trees.Expr → Answer Family
product_answer scope locals binder domain body = do
  first ← expand_family scope locals domain
  second ← expand_family scope (with_local binder first locals) body
  Ok (Pi first second)

abbrev pub kind_product_answer : Scope → Locals → Option Name → trees.Expr → trees.Expr → Answer Kind
kind_product_answer scope locals binder domain body = do
  first ← expand_family scope locals domain
  kind ← expand_kind scope (with_local binder first locals) body
  Ok (PiKind first kind)

-- The class of an expression: a kind where it ends in `type`, else a family. Around a class there are no variables; these
-- steps are written for any.
abbrev pub class_by_end : Scope → Locals → trees.Expr → Bool → Answer Class
class_by_end scope locals expression true = do
  kind ← expand_kind scope locals expression
  Ok (KindClass kind)
class_by_end scope locals expression false = do
  family ← expand_family scope locals expression
  Ok (FamilyClass family)

abbrev pub class_answer : Scope → Locals → trees.Expr → Answer Class
class_answer scope locals expression = class_by_end scope locals expression (ends_in_type expression)

-- The value that one name gives.
abbrev pub named_answer : Scope → Locals → Span → Path → Class → Answer Value
named_answer scope locals span path class = do
  declaration ← resolved_declaration span (resolve scope (variables_of locals) path)
  _ ← must (same_level (class_level declaration.class) (class_level class)) span Rule.Level
  _ ← must (same_class declaration.class class) span Rule.Mismatch
  Ok (own_value declaration declaration.value)

-- The value of another expression.
abbrev pub built_answer : Scope → Locals → trees.Expr → Class → Answer Value
built_answer scope locals expression (FamilyClass family) = do
  object ← expand_object scope locals expression family
  Ok (object_value object)
built_answer scope locals expression (KindClass kind) = do
  body ← expand_family_value scope locals expression kind
  Ok (family_value (domain_count kind) body)

-- The value of an expression.
abbrev pub value_answer : Scope → Locals → trees.Expr → Class → Answer Value
value_answer scope locals (trees.NameExpr span path) class = named_answer scope locals span path class
value_answer scope locals (trees.TypeExpr span) class = built_answer scope locals (trees.TypeExpr span) class
value_answer scope locals (trees.AppExpr span function arguments) class = built_answer scope locals (trees.AppExpr span function arguments) class
value_answer scope locals (trees.PiExpr span binder domain body) class = built_answer scope locals (trees.PiExpr span binder domain body) class
value_answer scope locals (trees.LamExpr span binder body) class = built_answer scope locals (trees.LamExpr span binder body) class
value_answer scope locals (trees.TypedLamExpr span binder domain body) class = built_answer scope locals (trees.TypedLamExpr span binder domain body) class
value_answer scope locals (trees.ArrowExpr span domain body) class = built_answer scope locals (trees.ArrowExpr span domain body) class
value_answer scope locals (trees.BackExpr span body domain) class = built_answer scope locals (trees.BackExpr span body domain) class

-- The family of a name or an application at a kind.
abbrev pub atomic_body_answer : Scope → Locals → Span → trees.Expr → Kind → Answer Family
atomic_body_answer scope locals span expression kind = do
  head ← expand_head Families scope locals expression
  family_at_kind span kind head
