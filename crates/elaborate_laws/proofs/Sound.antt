-- What is answered stands.
use Rattle.std.proofs.Common.{◌≡◌, ℕ, None, Ok, sym, ap, ◌∙◌, subst}
use Rattle.lf_meaning.specs.Terms.{Object, Family, Pi, AtFamily, Kind, Ty, PiKind}
use Rattle.lf_meaning.specs.Equality.{same_family}
use Rattle.lf_term_laws.proofs.Equality.{same_family_sound}
use Rattle.translation_meaning.specs.Heads.{Head, ObjectHead, FamilyHead}
use Rattle.library_meaning.specs.Resolution.{Scope}
use Rattle.text_meaning.specs.Tokens.{Span}
use Rattle.text_meaning.specs.Trees.{Expr, TypeExpr, NameExpr, AppExpr, PiExpr, LamExpr, TypedLamExpr, ArrowExpr, BackExpr, Exprs, NoArgs, ThenArg}
use Rattle.elaborate_meaning.specs.Rules.{Rule}
use Rattle.elaborate_meaning.specs.Answers.{must, or_broken}
use Rattle.elaborate_meaning.specs.Locals.{Locals, with_local}
use Rattle.elaborate_meaning.specs.NameHeads.{Level, Objects, Families, level_of, name_head}
use Rattle.elaborate_meaning.specs.Expansion.{span_of, lambda_at, domain_of, object_at, family_at_type, expand_object, expand_head, expand_arguments, expand_family, expand_kind}
use Rattle.eta_meaning.specs.LongTerms.{expanded}
use Rattle.elaborate_meaning.specs.Stands.{StandsObject, StandsHead, StandsArguments, StandsFamily, StandsKind}
use Rattle.elaborate_laws.proofs.Binding.{must_holds, there}
use Rattle.elaborate_laws.proofs.NamesStand.{level_kept, name_sound}
use Rattle.list_laws.proofs.Answers.{came_by, ok_same}

-- a head that is answered as an object, or as a family
pub record ObjectAt (family : Family) (head : Head) (object : Object) : Type 0 where
  pub outcome : Object
  pub head_is : head ≡ ObjectHead outcome family
  pub is : object ≡ expanded family outcome

pub object_at_sound : (span : Span) (family : Family) (head : Head) (object : Object) → object_at span family head ≡ Ok object → ObjectAt family head object
object_at_sound span family (ObjectHead outcome classifier) object h =
    let c = came_by (must (same_family classifier family) span Rule.Mismatch) _ object h in
    let e : classifier ≡ family = same_family_sound classifier family (must_holds (same_family classifier family) span Rule.Mismatch c.item c.came) in
    record { outcome = outcome; head_is = ap (ObjectHead outcome) e; is = sym (ok_same c.goes) }
object_at_sound span family (FamilyHead binders other kind) object h = absurd (cc)

pub record FamilyAt (head : Head) (family : Family) : Type 0 where
  pub binders : ℕ
  pub is : head ≡ FamilyHead binders family Ty

pub family_at_sound : (span : Span) (head : Head) (family : Family) → family_at_type span head ≡ Ok family → FamilyAt head family
family_at_sound span (FamilyHead binders found Ty) family h = record { binders = binders; is = ap (λ a. FamilyHead binders a Ty) (ok_same h) }
family_at_sound span (FamilyHead binders found (PiKind domain kind)) family h = absurd (cc)
family_at_sound span (ObjectHead object classifier) family h = absurd (cc)

pub lambda_sound : (span : Span) (family domain codomain : Family) → lambda_at span family ≡ Ok (record { domain = domain; codomain = codomain }) → family ≡ Pi domain codomain
lambda_sound span (Pi a b) domain codomain h = let e = ok_same h in ap (λ z. Pi z.domain z.codomain) e
lambda_sound span (AtFamily p) domain codomain h = absurd (cc)

mutual
  unfolding expand_object expand_head expand_arguments expand_family

  pub object_sound : (expression : Expr) (scope : Scope) (locals : Locals) (family : Family) (object : Object) → expand_object scope locals expression family ≡ Ok object → StandsObject scope locals expression family object
  object_sound (TypeExpr span) scope locals family object h = absurd (cc)
  object_sound (PiExpr span binder domain body) scope locals family object h = absurd (cc)
  object_sound (ArrowExpr span domain body) scope locals family object h = absurd (cc)
  object_sound (BackExpr span body domain) scope locals family object h = absurd (cc)
  object_sound (LamExpr span binder body) scope locals family object h =
      let c = came_by (lambda_at span family) _ object h in
      let d = came_by (expand_object scope (with_local binder c.item.domain locals) body c.item.codomain) _ object c.goes in
      record {
        domain = c.item.domain;
        codomain = c.item.codomain;
        body = d.item;
        family_is = lambda_sound span family c.item.domain c.item.codomain c.came;
        object_is = sym (ok_same d.goes);
        domain_stands = tt;
        stands = object_sound body scope (with_local binder c.item.domain locals) c.item.codomain d.item d.came;
      }
  object_sound (TypedLamExpr span binder domain body) scope locals family object h =
      let c = came_by (lambda_at span family) _ object h in
      let w = came_by (expand_family scope locals domain) _ object c.goes in
      let m = came_by (must (same_family w.item c.item.domain) (span_of domain) Rule.Annotation) _ object w.goes in
      let d = came_by (expand_object scope (with_local binder c.item.domain locals) body c.item.codomain) _ object m.goes in
      let e : w.item ≡ c.item.domain = same_family_sound w.item c.item.domain (must_holds (same_family w.item c.item.domain) (span_of domain) Rule.Annotation m.item m.came) in
      record {
        domain = c.item.domain;
        codomain = c.item.codomain;
        body = d.item;
        family_is = lambda_sound span family c.item.domain c.item.codomain c.came;
        object_is = sym (ok_same d.goes);
        domain_stands = subst (StandsFamily scope locals domain) e (family_sound domain scope locals w.item w.came);
        stands = object_sound body scope (with_local binder c.item.domain locals) c.item.codomain d.item d.came;
      }
  object_sound (NameExpr span path) scope locals family object h =
      let c = came_by (name_head Objects scope locals span path) _ object h in
      let a = object_at_sound span family c.item object c.goes in
      record { outcome = a.outcome; stands = subst (StandsHead scope locals (NameExpr span path)) a.head_is ((name_sound Objects scope locals span path c.item c.came).0); is = a.is }
  object_sound (AppExpr span function arguments) scope locals family object h =
      let c = came_by (expand_head Objects scope locals function) _ object h in
      let d = came_by (expand_arguments scope locals arguments c.item) _ object c.goes in
      let a = object_at_sound span family d.item object d.goes in
      record {
        outcome = a.outcome;
        stands = record {
          first = c.item;
          begins = (head_sound function Objects scope locals c.item c.came).0;
          takes = subst (StandsArguments scope locals arguments c.item) a.head_is (arguments_sound arguments scope locals c.item d.item d.came);
        };
        is = a.is;
      }

  pub head_sound : (expression : Expr) (level : Level) (scope : Scope) (locals : Locals) (head : Head) → expand_head level scope locals expression ≡ Ok head → StandsHead scope locals expression head × (level_of head ≡ level)
  head_sound (NameExpr span path) level scope locals head h = name_sound level scope locals span path head h
  head_sound (AppExpr span function arguments) level scope locals head h =
      let c = came_by (expand_head level scope locals function) _ head h in
      let b = head_sound function level scope locals c.item c.came in
      (record { first = c.item; begins = b.0; takes = arguments_sound arguments scope locals c.item head c.goes }, arguments_level arguments scope locals c.item head c.goes ∙ b.1)
  head_sound (LamExpr span binder body) level scope locals head h = absurd (cc)
  head_sound (TypedLamExpr span binder domain body) level scope locals head h = absurd (cc)
  head_sound (TypeExpr span) level scope locals head h = absurd (cc)
  head_sound (PiExpr span binder domain body) level scope locals head h = absurd (cc)
  head_sound (ArrowExpr span domain body) level scope locals head h = absurd (cc)
  head_sound (BackExpr span body domain) level scope locals head h = absurd (cc)

  pub arguments_sound : (arguments : Exprs) (scope : Scope) (locals : Locals) (first head : Head) → expand_arguments scope locals arguments first ≡ Ok head → StandsArguments scope locals arguments first head
  arguments_sound NoArgs scope locals first head h = sym (ok_same h)
  arguments_sound (ThenArg arguments argument) scope locals first head h =
      let c = came_by (expand_arguments scope locals arguments first) _ head h in
      let d = came_by (or_broken (domain_of c.item) (span_of argument) Rule.NotAFunction) _ head c.goes in
      let m = came_by (expand_object scope locals argument d.item) _ head d.goes in
      record {
        head = c.item;
        domain = d.item;
        object = m.item;
        is_before = arguments_sound arguments scope locals first c.item c.came;
        takes = there (domain_of c.item) (span_of argument) Rule.NotAFunction d.item d.came;
        stands = object_sound argument scope locals d.item m.item m.came;
        is = sym (ok_same m.goes);
      }

  pub arguments_level : (arguments : Exprs) (scope : Scope) (locals : Locals) (first head : Head) → expand_arguments scope locals arguments first ≡ Ok head → level_of head ≡ level_of first
  arguments_level NoArgs scope locals first head h = ap level_of (sym (ok_same h))
  arguments_level (ThenArg arguments argument) scope locals first head h =
      let c = came_by (expand_arguments scope locals arguments first) _ head h in
      let d = came_by (or_broken (domain_of c.item) (span_of argument) Rule.NotAFunction) _ head c.goes in
      let m = came_by (expand_object scope locals argument d.item) _ head d.goes in
      ap level_of (sym (ok_same m.goes)) ∙ level_kept c.item m.item ∙ arguments_level arguments scope locals first c.item c.came

  pub family_sound : (expression : Expr) (scope : Scope) (locals : Locals) (family : Family) → expand_family scope locals expression ≡ Ok family → StandsFamily scope locals expression family
  family_sound (PiExpr span binder domain body) scope locals family h =
      let c = came_by (expand_family scope locals domain) _ family h in
      let d = came_by (expand_family scope (with_local binder c.item locals) body) _ family c.goes in
      record { domain = c.item; codomain = d.item; is = sym (ok_same d.goes); first = family_sound domain scope locals c.item c.came; second = family_sound body scope (with_local binder c.item locals) d.item d.came }
  family_sound (ArrowExpr span domain body) scope locals family h =
      let c = came_by (expand_family scope locals domain) _ family h in
      let d = came_by (expand_family scope (with_local None c.item locals) body) _ family c.goes in
      record { domain = c.item; codomain = d.item; is = sym (ok_same d.goes); first = family_sound domain scope locals c.item c.came; second = family_sound body scope (with_local None c.item locals) d.item d.came }
  family_sound (BackExpr span body domain) scope locals family h =
      let c = came_by (expand_family scope locals domain) _ family h in
      let d = came_by (expand_family scope (with_local None c.item locals) body) _ family c.goes in
      record { domain = c.item; codomain = d.item; is = sym (ok_same d.goes); first = family_sound domain scope locals c.item c.came; second = family_sound body scope (with_local None c.item locals) d.item d.came }
  family_sound (TypeExpr span) scope locals family h = absurd (cc)
  family_sound (LamExpr span binder body) scope locals family h = absurd (cc)
  family_sound (TypedLamExpr span binder domain body) scope locals family h = absurd (cc)
  family_sound (NameExpr span path) scope locals family h =
      let c = came_by (name_head Families scope locals span path) _ family h in
      let a = family_at_sound span c.item family c.goes in
      (a.binders, subst (StandsHead scope locals (NameExpr span path)) a.is ((name_sound Families scope locals span path c.item c.came).0))
  family_sound (AppExpr span function arguments) scope locals family h =
      let c = came_by (expand_head Families scope locals function) _ family h in
      let d = came_by (expand_arguments scope locals arguments c.item) _ family c.goes in
      let a = family_at_sound span d.item family d.goes in (
        a.binders,
        record {
          first = c.item;
          begins = (head_sound function Families scope locals c.item c.came).0;
          takes = subst (StandsArguments scope locals arguments c.item) a.is (arguments_sound arguments scope locals c.item d.item d.came);
        },
      )

pub kind_sound : (expression : Expr) (scope : Scope) (locals : Locals) (kind : Kind) → expand_kind scope locals expression ≡ Ok kind → StandsKind scope locals expression kind
unfolding expand_kind
kind_sound (TypeExpr span) scope locals kind h = sym (ok_same h)
kind_sound (PiExpr span binder domain body) scope locals kind h =
    let c = came_by (expand_family scope locals domain) _ kind h in
    let d = came_by (expand_kind scope (with_local binder c.item locals) body) _ kind c.goes in
    record { domain = c.item; rest = d.item; is = sym (ok_same d.goes); first = family_sound domain scope locals c.item c.came; second = kind_sound body scope (with_local binder c.item locals) d.item d.came }
kind_sound (ArrowExpr span domain body) scope locals kind h =
    let c = came_by (expand_family scope locals domain) _ kind h in
    let d = came_by (expand_kind scope (with_local None c.item locals) body) _ kind c.goes in
    record { domain = c.item; rest = d.item; is = sym (ok_same d.goes); first = family_sound domain scope locals c.item c.came; second = kind_sound body scope (with_local None c.item locals) d.item d.came }
kind_sound (BackExpr span body domain) scope locals kind h =
    let c = came_by (expand_family scope locals domain) _ kind h in
    let d = came_by (expand_kind scope (with_local None c.item locals) body) _ kind c.goes in
    record { domain = c.item; rest = d.item; is = sym (ok_same d.goes); first = family_sound domain scope locals c.item c.came; second = kind_sound body scope (with_local None c.item locals) d.item d.came }
kind_sound (NameExpr span path) scope locals kind h = absurd (cc)
kind_sound (AppExpr span function arguments) scope locals kind h = absurd (cc)
kind_sound (LamExpr span binder body) scope locals kind h = absurd (cc)
kind_sound (TypedLamExpr span binder domain body) scope locals kind h = absurd (cc)
