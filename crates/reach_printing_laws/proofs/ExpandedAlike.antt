-- An expression is expanded alike in two scopes in which each path is resolved alike: to the same term, or with the same fault.
use Rattle.std.proofs.Common.{◌≡◌, None, Ok, refl}
use Rattle.name_meaning.specs.Names.{Path}
use Rattle.lf_meaning.specs.Terms.{Lam, Family, Pi}
use Rattle.lf_meaning.specs.Equality.{same_family}
use Rattle.translation_meaning.specs.Heads.{Head, head_takes}
use Rattle.library_meaning.specs.Resolution.{Scope, Variables, resolve}
use Rattle.text_meaning.specs.Tokens.{Span}
use Rattle.text_meaning.specs.Trees.{Expr, TypeExpr, NameExpr, AppExpr, PiExpr, LamExpr, TypedLamExpr, ArrowExpr, BackExpr, Exprs, NoArgs, ThenArg}
use Rattle.answer_meaning.specs.Answers.{◌>>=◌}
use Rattle.elaborate_meaning.specs.Rules.{Rule}
use Rattle.elaborate_meaning.specs.Answers.{must, or_broken}
use Rattle.elaborate_meaning.specs.Locals.{Locals, variables_of, with_local}
use Rattle.elaborate_meaning.specs.NameHeads.{Level, Objects, Families, level_of, same_level, resolved_head, name_head}
use Rattle.elaborate_meaning.specs.Expansion.{span_of, lambda_at, domain_of, object_at, family_at_type, expand_object, expand_head, expand_arguments, expand_family}

module _ (one two : Scope) (alike : (variables : Variables) (path : Path) → resolve one variables path ≡ resolve two variables path) where
  head_named : (level : Level) (locals : Locals) (span : Span) (path : Path) → name_head level one locals span path ≡ name_head level two locals span path
  unfolding name_head
  head_named level locals span path =
      λ i. resolved_head locals span (alike (variables_of locals) path i) >>= (λ head. must (same_level (level_of head) level) span Rule.Level >>= (λ _. Ok head))

  mutual
    unfolding expand_object expand_head expand_arguments expand_family

    pub object_expanded : (locals : Locals) (expression : Expr) (family : Family) → expand_object one locals expression family ≡ expand_object two locals expression family
    object_expanded locals (TypeExpr span) family = refl
    object_expanded locals (PiExpr span binder domain body) family = refl
    object_expanded locals (ArrowExpr span domain body) family = refl
    object_expanded locals (BackExpr span body domain) family = refl
    object_expanded locals (LamExpr span binder body) family =
        λ i. lambda_at span family >>= (λ product. object_expanded (with_local binder product.domain locals) body product.codomain i >>= (λ object. Ok (Lam object)))
    object_expanded locals (TypedLamExpr span binder domain body) family =
        λ i. lambda_at span family >>= (λ product. family_expanded locals domain i >>= (λ written. must (same_family written product.domain) (span_of domain) Rule.Annotation >>= (λ _.
        object_expanded (with_local binder product.domain locals) body product.codomain i >>= (λ object. Ok (Lam object)))))
    object_expanded locals (NameExpr span path) family = λ i. head_named Objects locals span path i >>= (λ head. object_at span family head)
    object_expanded locals (AppExpr span function arguments) family =
        λ i. head_expanded Objects locals function i >>= (λ first. arguments_expanded locals arguments first i >>= (λ head. object_at span family head))

    head_expanded : (level : Level) (locals : Locals) (expression : Expr) → expand_head level one locals expression ≡ expand_head level two locals expression
    head_expanded level locals (NameExpr span path) = head_named level locals span path
    head_expanded level locals (AppExpr span function arguments) =
        λ i. head_expanded level locals function i >>= (λ first. arguments_expanded locals arguments first i)
    head_expanded level locals (LamExpr span binder body) = refl
    head_expanded level locals (TypedLamExpr span binder domain body) = refl
    head_expanded level locals (TypeExpr span) = refl
    head_expanded level locals (PiExpr span binder domain body) = refl
    head_expanded level locals (ArrowExpr span domain body) = refl
    head_expanded level locals (BackExpr span body domain) = refl

    arguments_expanded : (locals : Locals) (arguments : Exprs) (first : Head) → expand_arguments one locals arguments first ≡ expand_arguments two locals arguments first
    arguments_expanded locals NoArgs first = refl
    arguments_expanded locals (ThenArg arguments argument) first =
        λ i. arguments_expanded locals arguments first i >>= (λ head. or_broken (domain_of head) (span_of argument) Rule.NotAFunction >>= (λ domain.
        object_expanded locals argument domain i >>= (λ object. Ok (head_takes head object))))

    pub family_expanded : (locals : Locals) (expression : Expr) → expand_family one locals expression ≡ expand_family two locals expression
    family_expanded locals (PiExpr span binder domain body) =
        λ i. family_expanded locals domain i >>= (λ first. family_expanded (with_local binder first locals) body i >>= (λ second. Ok (Pi first second)))
    family_expanded locals (ArrowExpr span domain body) =
        λ i. family_expanded locals domain i >>= (λ first. family_expanded (with_local None first locals) body i >>= (λ second. Ok (Pi first second)))
    family_expanded locals (BackExpr span body domain) =
        λ i. family_expanded locals domain i >>= (λ first. family_expanded (with_local None first locals) body i >>= (λ second. Ok (Pi first second)))
    family_expanded locals (TypeExpr span) = refl
    family_expanded locals (LamExpr span binder body) = refl
    family_expanded locals (TypedLamExpr span binder domain body) = refl
    family_expanded locals (NameExpr span path) = λ i. head_named Families locals span path i >>= (λ head. family_at_type span head)
    family_expanded locals (AppExpr span function arguments) =
        λ i. head_expanded Families locals function i >>= (λ first. arguments_expanded locals arguments first i >>= (λ head. family_at_type span head))
