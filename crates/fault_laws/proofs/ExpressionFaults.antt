-- The faults of expressions stand at their spans, and break the rules of expressions.
use Rattle.std.proofs.Common.{ℕ, Bool, true, false, [], Option, Some, None, refl}
use Rattle.name_meaning.specs.Names.{Path}
use Rattle.lf_meaning.specs.Terms.{Family, Pi, AtFamily, Kind, Ty, PiKind}
use Rattle.lf_meaning.specs.Signatures.{Class, FamilyClass, KindClass}
use Rattle.lf_meaning.specs.Equality.{same_family, same_kind, same_class}
use Rattle.translation_meaning.specs.Heads.{Head, ObjectHead, FamilyHead}
use Rattle.library_meaning.specs.Resolution.{Scope, Resolved, Variable, Declared, Unknown, Ambiguous, resolve}
use Rattle.text_meaning.specs.Tokens.{Span}
use Rattle.text_meaning.specs.Trees.{Expr, TypeExpr, NameExpr, AppExpr, PiExpr, LamExpr, TypedLamExpr, ArrowExpr, BackExpr, Exprs, NoArgs, ThenArg}
use Rattle.elaborate_meaning.specs.Rules.{Rule}
use Rattle.elaborate_meaning.specs.Answers.{Answer, must, or_broken}
use Rattle.elaborate_meaning.specs.Locals.{Locals, with_local, variables_of, family_at}
use Rattle.elaborate_meaning.specs.NameHeads.{Level, Objects, Families, level_of, same_level, variable_head, resolved_head, name_head}
use Rattle.elaborate_meaning.specs.Expansion.{span_of, lambda_at, domain_of, object_at, family_at_type, expand_object, expand_head, expand_arguments, expand_family, expand_kind}
use Rattle.elaborate_meaning.specs.Values.{ends_in_type, class_by, expand_class, lambda_at_kind, family_at_kind, expand_family_value, class_level, resolved_declaration, named_value, built_value, expand_value}
use Rattle.span_meaning.specs.Spans.{ExprStands, ExprsStand}
use Rattle.fault_laws.specs.RulesBroken.{expression_rules, Tells}
use Rattle.fault_laws.proofs.Telling.{tells_then, tells_test, tells_there}

module _ (P : Span → Type 0) where
  abbrev pub Told : {A : Type 0} → Answer A → Type 0
  Told answer = Tells P expression_rules answer

  pub span_stands : (e : Expr) → ExprStands P e → P (span_of e)
  span_stands (TypeExpr span) h = h
  span_stands (NameExpr span path) h = h
  span_stands (AppExpr span head arguments) h = h.0
  span_stands (PiExpr span binder domain body) h = h.0
  span_stands (LamExpr span binder body) h = h.0
  span_stands (TypedLamExpr span binder domain body) h = h.0
  span_stands (ArrowExpr span domain body) h = h.0
  span_stands (BackExpr span body domain) h = h.0

  -- ---- names and heads

  variable_told : (index : ℕ) (o : Option Family) (span : Span) → P span → Told (variable_head index o span)
  variable_told index None span h = (h, refl)
  variable_told index (Some family) span h = tt

  resolved_told : (locals : Locals) (span : Span) (r : Resolved) → P span → Told (resolved_head locals span r)
  resolved_told locals span (Variable index) h = variable_told index (family_at locals index) span h
  resolved_told locals span (Declared declaration) h = tt
  resolved_told locals span Unknown h = (h, refl)
  resolved_told locals span Ambiguous h = (h, refl)

  name_told : (level : Level) (scope : Scope) (locals : Locals) (span : Span) (path : Path) → P span → Told (name_head level scope locals span path)
  unfolding name_head
  name_told level scope locals span path h =
      tells_then P expression_rules (resolved_head locals span (resolve scope (variables_of locals) path)) _ (resolved_told locals span (resolve scope (variables_of locals) path) h)
      (λ head. tells_then P expression_rules (must (same_level (level_of head) level) span Rule.Level) _ (tells_test P expression_rules (same_level (level_of head) level) span Rule.Level h refl) (λ done. tt))

  lambda_told : (span : Span) (family : Family) → P span → Told (lambda_at span family)
  lambda_told span (Pi domain codomain) h = tt
  lambda_told span (AtFamily p) h = (h, refl)

  object_told : (span : Span) (family : Family) (head : Head) → P span → Told (object_at span family head)
  object_told span family (ObjectHead outcome classifier) h =
      tells_then P expression_rules (must (same_family classifier family) span Rule.Mismatch) _ (tells_test P expression_rules (same_family classifier family) span Rule.Mismatch h refl) (λ done. tt)
  object_told span family (FamilyHead binders other kind) h = (h, refl)

  family_told : (span : Span) (head : Head) → P span → Told (family_at_type span head)
  family_told span (FamilyHead binders family Ty) h = tt
  family_told span (FamilyHead binders family (PiKind domain kind)) h = (h, refl)
  family_told span (ObjectHead object classifier) h = (h, refl)

  -- ---- objects and families

  mutual
    unfolding expand_object expand_head expand_arguments expand_family

    pub object_faults : (e : Expr) (scope : Scope) (locals : Locals) (family : Family) → ExprStands P e → Told (expand_object scope locals e family)
    object_faults (TypeExpr span) scope locals family h = (h, refl)
    object_faults (PiExpr span binder domain body) scope locals family h = (h.0, refl)
    object_faults (ArrowExpr span domain body) scope locals family h = (h.0, refl)
    object_faults (BackExpr span body domain) scope locals family h = (h.0, refl)
    object_faults (LamExpr span binder body) scope locals family h =
        tells_then P expression_rules (lambda_at span family) _ (lambda_told span family h.0)
        (λ product. tells_then P expression_rules (expand_object scope (with_local binder product.domain locals) body product.codomain) _
        (object_faults body scope (with_local binder product.domain locals) product.codomain h.1) (λ object. tt))
    object_faults (TypedLamExpr span binder domain body) scope locals family h =
        tells_then P expression_rules (lambda_at span family) _ (lambda_told span family h.0)
        (λ product. tells_then P expression_rules (expand_family scope locals domain) _ (family_faults domain scope locals h.1)
        (λ written. tells_then P expression_rules (must (same_family written product.domain) (span_of domain) Rule.Annotation) _
        (tells_test P expression_rules (same_family written product.domain) (span_of domain) Rule.Annotation (span_stands domain h.1) refl)
        (λ done. tells_then P expression_rules (expand_object scope (with_local binder product.domain locals) body product.codomain) _
        (object_faults body scope (with_local binder product.domain locals) product.codomain h.2) (λ object. tt))))
    object_faults (NameExpr span path) scope locals family h =
        tells_then P expression_rules (name_head Objects scope locals span path) _ (name_told Objects scope locals span path h) (λ head. object_told span family head h)
    object_faults (AppExpr span function arguments) scope locals family h =
        tells_then P expression_rules (expand_head Objects scope locals function) _ (head_faults function Objects scope locals h.1)
        (λ first. tells_then P expression_rules (expand_arguments scope locals arguments first) _ (argument_faults arguments scope locals first h.2)
        (λ head. object_told span family head h.0))

    head_faults : (e : Expr) (level : Level) (scope : Scope) (locals : Locals) → ExprStands P e → Told (expand_head level scope locals e)
    head_faults (NameExpr span path) level scope locals h = name_told level scope locals span path h
    head_faults (AppExpr span function arguments) level scope locals h =
        tells_then P expression_rules (expand_head level scope locals function) _ (head_faults function level scope locals h.1)
        (λ first. argument_faults arguments scope locals first h.2)
    head_faults (LamExpr span binder body) level scope locals h = (h.0, refl)
    head_faults (TypedLamExpr span binder domain body) level scope locals h = (h.0, refl)
    head_faults (TypeExpr span) level scope locals h = (h, refl)
    head_faults (PiExpr span binder domain body) level scope locals h = (h.0, refl)
    head_faults (ArrowExpr span domain body) level scope locals h = (h.0, refl)
    head_faults (BackExpr span body domain) level scope locals h = (h.0, refl)

    argument_faults : (es : Exprs) (scope : Scope) (locals : Locals) (first : Head) → ExprsStand P es → Told (expand_arguments scope locals es first)
    argument_faults NoArgs scope locals first h = tt
    argument_faults (ThenArg arguments argument) scope locals first h =
        tells_then P expression_rules (expand_arguments scope locals arguments first) _ (argument_faults arguments scope locals first h.0)
        (λ head. tells_then P expression_rules (or_broken (domain_of head) (span_of argument) Rule.NotAFunction) _
        (tells_there P expression_rules (domain_of head) (span_of argument) Rule.NotAFunction (span_stands argument h.1) refl)
        (λ domain. tells_then P expression_rules (expand_object scope locals argument domain) _ (object_faults argument scope locals domain h.1) (λ object. tt)))

    pub family_faults : (e : Expr) (scope : Scope) (locals : Locals) → ExprStands P e → Told (expand_family scope locals e)
    family_faults (PiExpr span binder domain body) scope locals h =
        tells_then P expression_rules (expand_family scope locals domain) _ (family_faults domain scope locals h.1)
        (λ first. tells_then P expression_rules (expand_family scope (with_local binder first locals) body) _ (family_faults body scope (with_local binder first locals) h.2) (λ second. tt))
    family_faults (ArrowExpr span domain body) scope locals h =
        tells_then P expression_rules (expand_family scope locals domain) _ (family_faults domain scope locals h.1)
        (λ first. tells_then P expression_rules (expand_family scope (with_local None first locals) body) _ (family_faults body scope (with_local None first locals) h.2) (λ second. tt))
    family_faults (BackExpr span body domain) scope locals h =
        tells_then P expression_rules (expand_family scope locals domain) _ (family_faults domain scope locals h.2)
        (λ first. tells_then P expression_rules (expand_family scope (with_local None first locals) body) _ (family_faults body scope (with_local None first locals) h.1) (λ second. tt))
    family_faults (TypeExpr span) scope locals h = (h, refl)
    family_faults (LamExpr span binder body) scope locals h = (h.0, refl)
    family_faults (TypedLamExpr span binder domain body) scope locals h = (h.0, refl)
    family_faults (NameExpr span path) scope locals h =
        tells_then P expression_rules (name_head Families scope locals span path) _ (name_told Families scope locals span path h) (λ head. family_told span head h)
    family_faults (AppExpr span function arguments) scope locals h =
        tells_then P expression_rules (expand_head Families scope locals function) _ (head_faults function Families scope locals h.1)
        (λ first. tells_then P expression_rules (expand_arguments scope locals arguments first) _ (argument_faults arguments scope locals first h.2)
        (λ head. family_told span head h.0))

  -- ---- kinds and classes

  pub kind_faults : (e : Expr) (scope : Scope) (locals : Locals) → ExprStands P e → Told (expand_kind scope locals e)
  unfolding expand_kind
  kind_faults (TypeExpr span) scope locals h = tt
  kind_faults (PiExpr span binder domain body) scope locals h =
      tells_then P expression_rules (expand_family scope locals domain) _ (family_faults domain scope locals h.1)
      (λ first. tells_then P expression_rules (expand_kind scope (with_local binder first locals) body) _ (kind_faults body scope (with_local binder first locals) h.2) (λ kind. tt))
  kind_faults (ArrowExpr span domain body) scope locals h =
      tells_then P expression_rules (expand_family scope locals domain) _ (family_faults domain scope locals h.1)
      (λ first. tells_then P expression_rules (expand_kind scope (with_local None first locals) body) _ (kind_faults body scope (with_local None first locals) h.2) (λ kind. tt))
  kind_faults (BackExpr span body domain) scope locals h =
      tells_then P expression_rules (expand_family scope locals domain) _ (family_faults domain scope locals h.2)
      (λ first. tells_then P expression_rules (expand_kind scope (with_local None first locals) body) _ (kind_faults body scope (with_local None first locals) h.1) (λ kind. tt))
  kind_faults (NameExpr span path) scope locals h = (h, refl)
  kind_faults (AppExpr span function arguments) scope locals h = (h.0, refl)
  kind_faults (LamExpr span binder body) scope locals h = (h.0, refl)
  kind_faults (TypedLamExpr span binder domain body) scope locals h = (h.0, refl)

  class_told : (b : Bool) (scope : Scope) (e : Expr) → ExprStands P e → Told (class_by scope e b)
  class_told true scope e h = tells_then P expression_rules (expand_kind scope [] e) _ (kind_faults e scope [] h) (λ kind. tt)
  class_told false scope e h = tells_then P expression_rules (expand_family scope [] e) _ (family_faults e scope [] h) (λ family. tt)

  pub class_faults : (scope : Scope) (e : Expr) → ExprStands P e → Told (expand_class scope e)
  unfolding expand_class
  class_faults scope e h = class_told (ends_in_type e) scope e h

  -- ---- values

  lambda_kind_told : (span : Span) (kind : Kind) → P span → Told (lambda_at_kind span kind)
  lambda_kind_told span (PiKind domain rest) h = tt
  lambda_kind_told span Ty h = (h, refl)

  family_kind_told : (span : Span) (kind : Kind) (head : Head) → P span → Told (family_at_kind span kind head)
  family_kind_told span (PiKind domain rest) (FamilyHead binders outcome kind) h =
      tells_then P expression_rules (must (same_kind kind (PiKind domain rest)) span Rule.Mismatch) _ (tells_test P expression_rules (same_kind kind (PiKind domain rest)) span Rule.Mismatch h refl) (λ done. tt)
  family_kind_told span (PiKind domain rest) (ObjectHead object classifier) h = (h, refl)
  family_kind_told span Ty head h = family_told span head h

  family_value_faults : (e : Expr) (scope : Scope) (locals : Locals) (kind : Kind) → ExprStands P e → Told (expand_family_value scope locals e kind)
  unfolding expand_family_value
  family_value_faults (LamExpr span binder body) scope locals kind h =
      tells_then P expression_rules (lambda_at_kind span kind) _ (lambda_kind_told span kind h.0)
      (λ product. family_value_faults body scope (with_local binder product.domain locals) product.rest h.1)
  family_value_faults (TypedLamExpr span binder domain body) scope locals kind h =
      tells_then P expression_rules (lambda_at_kind span kind) _ (lambda_kind_told span kind h.0)
      (λ product. tells_then P expression_rules (expand_family scope locals domain) _ (family_faults domain scope locals h.1)
      (λ written. tells_then P expression_rules (must (same_family written product.domain) (span_of domain) Rule.Annotation) _
      (tells_test P expression_rules (same_family written product.domain) (span_of domain) Rule.Annotation (span_stands domain h.1) refl)
      (λ done. family_value_faults body scope (with_local binder product.domain locals) product.rest h.2)))
  family_value_faults (TypeExpr span) scope locals kind h = (h, refl)
  family_value_faults (PiExpr span binder domain body) scope locals kind h = (h.0, refl)
  family_value_faults (ArrowExpr span domain body) scope locals kind h = (h.0, refl)
  family_value_faults (BackExpr span body domain) scope locals kind h = (h.0, refl)
  family_value_faults (NameExpr span path) scope locals kind h =
      tells_then P expression_rules (name_head Families scope locals span path) _ (name_told Families scope locals span path h) (λ head. family_kind_told span kind head h)
  family_value_faults (AppExpr span function arguments) scope locals kind h =
      tells_then P expression_rules (expand_head Families scope locals function) _ (head_faults function Families scope locals h.1)
      (λ first. tells_then P expression_rules (expand_arguments scope locals arguments first) _ (argument_faults arguments scope locals first h.2)
      (λ head. family_kind_told span kind head h.0))

  declaration_told : (span : Span) (r : Resolved) → P span → Told (resolved_declaration span r)
  declaration_told span (Variable index) h = (h, refl)
  declaration_told span (Declared declaration) h = tt
  declaration_told span Unknown h = (h, refl)
  declaration_told span Ambiguous h = (h, refl)

  named_told : (scope : Scope) (span : Span) (path : Path) (class : Class) → P span → Told (named_value scope span path class)
  named_told scope span path class h =
      tells_then P expression_rules (resolved_declaration span (resolve scope [] path)) _ (declaration_told span (resolve scope [] path) h)
      (λ declaration. tells_then P expression_rules (must (same_level (class_level declaration.class) (class_level class)) span Rule.Level) _
      (tells_test P expression_rules (same_level (class_level declaration.class) (class_level class)) span Rule.Level h refl)
      (λ done. tells_then P expression_rules (must (same_class declaration.class class) span Rule.Mismatch) _
      (tells_test P expression_rules (same_class declaration.class class) span Rule.Mismatch h refl) (λ also. tt)))

  built_told : (scope : Scope) (e : Expr) (class : Class) → ExprStands P e → Told (built_value scope e class)
  built_told scope e (FamilyClass family) h = tells_then P expression_rules (expand_object scope [] e family) _ (object_faults e scope [] family h) (λ object. tt)
  built_told scope e (KindClass kind) h = tells_then P expression_rules (expand_family_value scope [] e kind) _ (family_value_faults e scope [] kind h) (λ body. tt)

  pub value_faults : (scope : Scope) (e : Expr) (class : Class) → ExprStands P e → Told (expand_value scope e class)
  unfolding expand_value
  value_faults scope (NameExpr span path) class h = named_told scope span path class h
  value_faults scope (TypeExpr span) class h = built_told scope (TypeExpr span) class h
  value_faults scope (AppExpr span function arguments) class h = built_told scope (AppExpr span function arguments) class h
  value_faults scope (PiExpr span binder domain body) class h = built_told scope (PiExpr span binder domain body) class h
  value_faults scope (LamExpr span binder body) class h = built_told scope (LamExpr span binder body) class h
  value_faults scope (TypedLamExpr span binder domain body) class h = built_told scope (TypedLamExpr span binder domain body) class h
  value_faults scope (ArrowExpr span domain body) class h = built_told scope (ArrowExpr span domain body) class h
  value_faults scope (BackExpr span body domain) class h = built_told scope (BackExpr span body domain) class h
