-- What stands is answered.
use Rattle.std.proofs.Common.{◌≡◌, None, Ok, refl, sym, ap, ◌∙◌}
use Rattle.lf_meaning.specs.Terms.{Object, Family, Kind, Ty}
use Rattle.lf_meaning.specs.Equality.{same_family}
use Rattle.lf_term_laws.proofs.Equality.{same_family_itself}
use Rattle.translation_meaning.specs.Heads.{Head, ObjectHead, FamilyHead}
use Rattle.library_meaning.specs.Resolution.{Scope}
use Rattle.text_meaning.specs.Tokens.{Span}
use Rattle.text_meaning.specs.Trees.{Expr, TypeExpr, NameExpr, AppExpr, PiExpr, LamExpr, TypedLamExpr, ArrowExpr, BackExpr, Exprs, NoArgs, ThenArg}
use Rattle.elaborate_meaning.specs.Rules.{Rule}
use Rattle.elaborate_meaning.specs.Answers.{must, or_broken}
use Rattle.elaborate_meaning.specs.Locals.{Locals, with_local}
use Rattle.elaborate_meaning.specs.NameHeads.{Level, Objects, Families, level_of, name_head}
use Rattle.elaborate_meaning.specs.Expansion.{span_of, lambda_at, domain_of, object_at, expand_object, expand_head, expand_arguments, expand_family, expand_kind}
use Rattle.eta_meaning.specs.LongTerms.{expanded}
use Rattle.elaborate_meaning.specs.Stands.{StandsObject, StandsHead, StandsArguments, StandsFamily, StandsKind}
use Rattle.elaborate_laws.proofs.Binding.{must_by, there_by}
use Rattle.elaborate_laws.proofs.NamesStand.{level_kept, name_complete}
use Rattle.list_laws.proofs.Answers.{goes_by}

pub object_at_complete : (span : Span) (family : Family) (outcome object : Object) → object ≡ expanded family outcome → object_at span family (ObjectHead outcome family) ≡ Ok object
object_at_complete span family outcome object e =
    goes_by (must (same_family family family) span Rule.Mismatch) _ tt object (must_by (same_family family family) span Rule.Mismatch (same_family_itself family)) (ap Ok (sym e))

mutual
  unfolding expand_object expand_head expand_arguments expand_family

  pub object_complete : (expression : Expr) (scope : Scope) (locals : Locals) (family : Family) (object : Object) → StandsObject scope locals expression family object → expand_object scope locals expression family ≡ Ok object
  object_complete (TypeExpr span) scope locals family object s = absurd s
  object_complete (PiExpr span binder domain body) scope locals family object s = absurd s
  object_complete (ArrowExpr span domain body) scope locals family object s = absurd s
  object_complete (BackExpr span body domain) scope locals family object s = absurd s
  object_complete (LamExpr span binder body) scope locals family object s =
      goes_by (lambda_at span family) _ (record { domain = s.domain; codomain = s.codomain }) object (ap (lambda_at span) s.family_is)
      (goes_by (expand_object scope (with_local binder s.domain locals) body s.codomain) _ s.body object
      (object_complete body scope (with_local binder s.domain locals) s.codomain s.body s.stands)
      (ap Ok (sym s.object_is)))
  object_complete (TypedLamExpr span binder domain body) scope locals family object s =
      goes_by (lambda_at span family) _ (record { domain = s.domain; codomain = s.codomain }) object (ap (lambda_at span) s.family_is)
      (goes_by (expand_family scope locals domain) _ s.domain object (family_complete domain scope locals s.domain s.domain_stands)
      (goes_by (must (same_family s.domain s.domain) (span_of domain) Rule.Annotation) _ tt object (must_by (same_family s.domain s.domain) (span_of domain) Rule.Annotation (same_family_itself s.domain))
      (goes_by (expand_object scope (with_local binder s.domain locals) body s.codomain) _ s.body object
      (object_complete body scope (with_local binder s.domain locals) s.codomain s.body s.stands)
      (ap Ok (sym s.object_is)))))
  object_complete (NameExpr span path) scope locals family object s =
      goes_by (name_head Objects scope locals span path) _ (ObjectHead s.outcome family) object (name_complete Objects scope locals span path (ObjectHead s.outcome family) s.stands refl)
      (object_at_complete span family s.outcome object s.is)
  object_complete (AppExpr span function arguments) scope locals family object s =
      let b = s.stands in
      goes_by (expand_head Objects scope locals function) _ b.first object
      (head_complete function Objects scope locals b.first b.begins (sym (arguments_keep arguments scope locals b.first (ObjectHead s.outcome family) b.takes)))
      (goes_by (expand_arguments scope locals arguments b.first) _ (ObjectHead s.outcome family) object
      (arguments_complete arguments scope locals b.first (ObjectHead s.outcome family) b.takes)
      (object_at_complete span family s.outcome object s.is))

  pub head_complete : (expression : Expr) (level : Level) (scope : Scope) (locals : Locals) (head : Head) → StandsHead scope locals expression head → level_of head ≡ level → expand_head level scope locals expression ≡ Ok head
  head_complete (NameExpr span path) level scope locals head s l = name_complete level scope locals span path head s l
  head_complete (AppExpr span function arguments) level scope locals head s l =
      goes_by (expand_head level scope locals function) _ s.first head
      (head_complete function level scope locals s.first s.begins (sym (arguments_keep arguments scope locals s.first head s.takes) ∙ l))
      (arguments_complete arguments scope locals s.first head s.takes)
  head_complete (LamExpr span binder body) level scope locals head s l = absurd s
  head_complete (TypedLamExpr span binder domain body) level scope locals head s l = absurd s
  head_complete (TypeExpr span) level scope locals head s l = absurd s
  head_complete (PiExpr span binder domain body) level scope locals head s l = absurd s
  head_complete (ArrowExpr span domain body) level scope locals head s l = absurd s
  head_complete (BackExpr span body domain) level scope locals head s l = absurd s

  pub arguments_complete : (arguments : Exprs) (scope : Scope) (locals : Locals) (first head : Head) → StandsArguments scope locals arguments first head → expand_arguments scope locals arguments first ≡ Ok head
  arguments_complete NoArgs scope locals first head s = ap Ok (sym s)
  arguments_complete (ThenArg arguments argument) scope locals first head s =
      goes_by (expand_arguments scope locals arguments first) _ s.head head (arguments_complete arguments scope locals first s.head s.is_before)
      (goes_by (or_broken (domain_of s.head) (span_of argument) Rule.NotAFunction) _ s.domain head (there_by (domain_of s.head) (span_of argument) Rule.NotAFunction s.domain s.takes)
      (goes_by (expand_object scope locals argument s.domain) _ s.object head (object_complete argument scope locals s.domain s.object s.stands) (ap Ok (sym s.is))))

  pub arguments_keep : (arguments : Exprs) (scope : Scope) (locals : Locals) (first head : Head) → StandsArguments scope locals arguments first head → level_of head ≡ level_of first
  arguments_keep NoArgs scope locals first head s = ap level_of s
  arguments_keep (ThenArg arguments argument) scope locals first head s =
      ap level_of s.is ∙ level_kept s.head s.object ∙ arguments_keep arguments scope locals first s.head s.is_before

  pub family_complete : (expression : Expr) (scope : Scope) (locals : Locals) (family : Family) → StandsFamily scope locals expression family → expand_family scope locals expression ≡ Ok family
  family_complete (PiExpr span binder domain body) scope locals family s =
      goes_by (expand_family scope locals domain) _ s.domain family (family_complete domain scope locals s.domain s.first)
      (goes_by (expand_family scope (with_local binder s.domain locals) body) _ s.codomain family (family_complete body scope (with_local binder s.domain locals) s.codomain s.second) (ap Ok (sym s.is)))
  family_complete (ArrowExpr span domain body) scope locals family s =
      goes_by (expand_family scope locals domain) _ s.domain family (family_complete domain scope locals s.domain s.first)
      (goes_by (expand_family scope (with_local None s.domain locals) body) _ s.codomain family (family_complete body scope (with_local None s.domain locals) s.codomain s.second) (ap Ok (sym s.is)))
  family_complete (BackExpr span body domain) scope locals family s =
      goes_by (expand_family scope locals domain) _ s.domain family (family_complete domain scope locals s.domain s.first)
      (goes_by (expand_family scope (with_local None s.domain locals) body) _ s.codomain family (family_complete body scope (with_local None s.domain locals) s.codomain s.second) (ap Ok (sym s.is)))
  family_complete (TypeExpr span) scope locals family s = absurd s
  family_complete (LamExpr span binder body) scope locals family s = absurd s
  family_complete (TypedLamExpr span binder domain body) scope locals family s = absurd s
  family_complete (NameExpr span path) scope locals family s =
      goes_by (name_head Families scope locals span path) _ (FamilyHead s.0 family Ty) family (name_complete Families scope locals span path (FamilyHead s.0 family Ty) s.1 refl) refl
  family_complete (AppExpr span function arguments) scope locals family s =
      let b = s.1 in
      goes_by (expand_head Families scope locals function) _ b.first family
      (head_complete function Families scope locals b.first b.begins (sym (arguments_keep arguments scope locals b.first (FamilyHead s.0 family Ty) b.takes)))
      (goes_by (expand_arguments scope locals arguments b.first) _ (FamilyHead s.0 family Ty) family
      (arguments_complete arguments scope locals b.first (FamilyHead s.0 family Ty) b.takes) refl)

pub kind_complete : (expression : Expr) (scope : Scope) (locals : Locals) (kind : Kind) → StandsKind scope locals expression kind → expand_kind scope locals expression ≡ Ok kind
unfolding expand_kind
kind_complete (TypeExpr span) scope locals kind s = ap Ok (sym s)
kind_complete (PiExpr span binder domain body) scope locals kind s =
    goes_by (expand_family scope locals domain) _ s.domain kind (family_complete domain scope locals s.domain s.first)
    (goes_by (expand_kind scope (with_local binder s.domain locals) body) _ s.rest kind (kind_complete body scope (with_local binder s.domain locals) s.rest s.second) (ap Ok (sym s.is)))
kind_complete (ArrowExpr span domain body) scope locals kind s =
    goes_by (expand_family scope locals domain) _ s.domain kind (family_complete domain scope locals s.domain s.first)
    (goes_by (expand_kind scope (with_local None s.domain locals) body) _ s.rest kind (kind_complete body scope (with_local None s.domain locals) s.rest s.second) (ap Ok (sym s.is)))
kind_complete (BackExpr span body domain) scope locals kind s =
    goes_by (expand_family scope locals domain) _ s.domain kind (family_complete domain scope locals s.domain s.first)
    (goes_by (expand_kind scope (with_local None s.domain locals) body) _ s.rest kind (kind_complete body scope (with_local None s.domain locals) s.rest s.second) (ap Ok (sym s.is)))
kind_complete (NameExpr span path) scope locals kind s = absurd s
kind_complete (AppExpr span function arguments) scope locals kind s = absurd s
kind_complete (LamExpr span binder body) scope locals kind s = absurd s
kind_complete (TypedLamExpr span binder domain body) scope locals kind s = absurd s
