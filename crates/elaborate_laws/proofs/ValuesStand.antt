-- Classes and values: what is answered stands, and what stands is answered.
use Rattle.std.proofs.Common.{◌≡◌, ℕ, zero, suc, Bool, true, false, [], Ok, refl, sym, ap, ◌∙◌, subst}
use Rattle.name_meaning.specs.Names.{Path}
use Rattle.lf_meaning.specs.Terms.{Family, Pi, AtFamily, Kind, Ty, PiKind}
use Rattle.lf_meaning.specs.Signatures.{Class, FamilyClass, KindClass, Value, Declaration}
use Rattle.lf_meaning.specs.Equality.{same_family, same_kind, same_class}
use Rattle.lf_term_laws.proofs.Equality.{same_family_sound, same_family_itself, same_kind_sound, same_kind_itself, same_class_sound, same_class_itself}
use Rattle.translation_meaning.specs.Heads.{Head, ObjectHead, FamilyHead}
use Rattle.library_meaning.specs.Resolution.{Scope, Resolved, Variable, Declared, Unknown, Ambiguous, resolve}
use Rattle.library_meaning.specs.StandsFor.{StandsFor}
use Rattle.library_laws.proofs.Resolving.{resolution_stands}
use Rattle.text_meaning.specs.Tokens.{Span}
use Rattle.text_meaning.specs.Trees.{Expr, TypeExpr, NameExpr, AppExpr, PiExpr, LamExpr, TypedLamExpr, ArrowExpr, BackExpr}
use Rattle.elaborate_meaning.specs.Rules.{Rule}
use Rattle.elaborate_meaning.specs.Answers.{must}
use Rattle.elaborate_meaning.specs.Locals.{Locals, with_local}
use Rattle.elaborate_meaning.specs.NameHeads.{Families, same_level, name_head}
use Rattle.elaborate_meaning.specs.Expansion.{span_of, expand_head, expand_arguments, expand_object, expand_family, expand_kind}
use Rattle.elaborate_meaning.specs.Values.{ends_in_type, class_by, expand_class, lambda_at_kind, expanded_family, family_at_kind, expand_family_value, class_level, resolved_declaration, named_value, built_value, expand_value}
use Rattle.elaborate_meaning.specs.Stands.{StandsHead, StandsArguments, StandsClass, StandsFamily, StandsFamilyValue, NameGives, BuildsValue, StandsValue}
use Rattle.elaborate_laws.proofs.Binding.{must_holds, must_by}
use Rattle.elaborate_laws.proofs.NamesStand.{same_level_itself, name_sound, name_complete}
use Rattle.elaborate_laws.proofs.Sound.{family_at_sound, object_sound, head_sound, arguments_sound, family_sound, kind_sound}
use Rattle.elaborate_laws.proofs.Complete.{object_complete, head_complete, arguments_complete, arguments_keep, family_complete, kind_complete}
use Rattle.list_laws.proofs.Answers.{came_by, goes_by, ok_same}

-- ---- classes

class_by_sound : (scope : Scope) (expression : Expr) (ends : Bool) (class : Class) → ends_in_type expression ≡ ends → class_by scope expression ends ≡ Ok class → StandsClass scope expression class
class_by_sound scope expression true class e h =
    let c = came_by (expand_kind scope [] expression) _ class h in
    subst (StandsClass scope expression) (ok_same c.goes) (e, kind_sound expression scope [] c.item c.came)
class_by_sound scope expression false class e h =
    let c = came_by (expand_family scope [] expression) _ class h in
    subst (StandsClass scope expression) (ok_same c.goes) (e, family_sound expression scope [] c.item c.came)

pub class_sound : (scope : Scope) (expression : Expr) (class : Class) → expand_class scope expression ≡ Ok class → StandsClass scope expression class
unfolding expand_class
class_sound scope expression class h = class_by_sound scope expression (ends_in_type expression) class refl h

pub class_complete : (scope : Scope) (expression : Expr) (class : Class) → StandsClass scope expression class → expand_class scope expression ≡ Ok class
unfolding expand_class
class_complete scope expression (FamilyClass family) s =
    ap (class_by scope expression) s.0 ∙ goes_by (expand_family scope [] expression) _ family (FamilyClass family) (family_complete expression scope [] family s.1) refl
class_complete scope expression (KindClass kind) s =
    ap (class_by scope expression) s.0 ∙ goes_by (expand_kind scope [] expression) _ kind (KindClass kind) (kind_complete expression scope [] kind s.1) refl

-- ---- family values

-- at `type` an outcome is left
at_type : (binders : ℕ) (outcome : Family) → expanded_family Ty binders outcome ≡ outcome
at_type zero (AtFamily p) = refl
at_type zero (Pi domain codomain) = refl
at_type (suc binders) outcome = refl

record FamilyAtKind (kind : Kind) (head : Head) (family : Family) : Type 0 where
  pub binders : ℕ
  pub outcome : Family
  pub head_is : head ≡ FamilyHead binders outcome kind
  pub is : family ≡ expanded_family kind binders outcome

family_at_kind_sound : (span : Span) (kind : Kind) (head : Head) (family : Family) → family_at_kind span kind head ≡ Ok family → FamilyAtKind kind head family
family_at_kind_sound span (PiKind domain rest) (FamilyHead binders outcome kind) family h =
    let c = came_by (must (same_kind kind (PiKind domain rest)) span Rule.Mismatch) _ family h in
    let e : kind ≡ PiKind domain rest = same_kind_sound kind (PiKind domain rest) (must_holds (same_kind kind (PiKind domain rest)) span Rule.Mismatch c.item c.came) in
    record { binders = binders; outcome = outcome; head_is = ap (FamilyHead binders outcome) e; is = sym (ok_same c.goes) }
family_at_kind_sound span (PiKind domain rest) (ObjectHead object classifier) family h = absurd (cc)
family_at_kind_sound span Ty head family h =
    let a = family_at_sound span head family h in
    record { binders = a.binders; outcome = family; head_is = a.is; is = sym (at_type a.binders family) }

family_at_kind_complete : (span : Span) (kind : Kind) (binders : ℕ) (outcome family : Family) → family ≡ expanded_family kind binders outcome → family_at_kind span kind (FamilyHead binders outcome kind) ≡ Ok family
family_at_kind_complete span (PiKind domain rest) binders outcome family e =
    let kind : Kind = PiKind domain rest in
    goes_by (must (same_kind kind kind) span Rule.Mismatch) _ tt family (must_by (same_kind kind kind) span Rule.Mismatch (same_kind_itself kind)) (ap Ok (sym e))
family_at_kind_complete span Ty binders outcome family e = ap Ok (sym (e ∙ at_type binders outcome))

lambda_at_kind_sound : (span : Span) (kind : Kind) (domain : Family) (rest : Kind) → lambda_at_kind span kind ≡ Ok (record { domain = domain; rest = rest }) → kind ≡ PiKind domain rest
lambda_at_kind_sound span (PiKind a k) domain rest h = let e = ok_same h in ap (λ z. PiKind z.domain z.rest) e
lambda_at_kind_sound span Ty domain rest h = absurd (cc)

pub family_value_sound : (expression : Expr) (scope : Scope) (locals : Locals) (kind : Kind) (body : Family) → expand_family_value scope locals expression kind ≡ Ok body → StandsFamilyValue scope locals expression kind body
unfolding expand_family_value
family_value_sound (LamExpr span binder inner) scope locals kind body h =
    let c = came_by (lambda_at_kind span kind) _ body h in
    record { domain = c.item.domain; rest = c.item.rest; kind_is = lambda_at_kind_sound span kind c.item.domain c.item.rest c.came; domain_stands = tt; stands = family_value_sound inner scope (with_local binder c.item.domain locals) c.item.rest body c.goes }
family_value_sound (TypedLamExpr span binder domain inner) scope locals kind body h =
    let c = came_by (lambda_at_kind span kind) _ body h in
    let w = came_by (expand_family scope locals domain) _ body c.goes in
    let m = came_by (must (same_family w.item c.item.domain) (span_of domain) Rule.Annotation) _ body w.goes in
    let e : w.item ≡ c.item.domain = same_family_sound w.item c.item.domain (must_holds (same_family w.item c.item.domain) (span_of domain) Rule.Annotation m.item m.came) in
    record { domain = c.item.domain; rest = c.item.rest; kind_is = lambda_at_kind_sound span kind c.item.domain c.item.rest c.came; domain_stands = subst (StandsFamily scope locals domain) e (family_sound domain scope locals w.item w.came); stands = family_value_sound inner scope (with_local binder c.item.domain locals) c.item.rest body m.goes }
family_value_sound (TypeExpr span) scope locals kind body h = absurd (cc)
family_value_sound (PiExpr span binder domain inner) scope locals kind body h = absurd (cc)
family_value_sound (ArrowExpr span domain inner) scope locals kind body h = absurd (cc)
family_value_sound (BackExpr span inner domain) scope locals kind body h = absurd (cc)
family_value_sound (NameExpr span path) scope locals kind body h =
    let c = came_by (name_head Families scope locals span path) _ body h in
    let a = family_at_kind_sound span kind c.item body c.goes in
    record { binders = a.binders; outcome = a.outcome; stands = subst (StandsHead scope locals (NameExpr span path)) a.head_is ((name_sound Families scope locals span path c.item c.came).0); is = a.is }
family_value_sound (AppExpr span function arguments) scope locals kind body h =
    let c = came_by (expand_head Families scope locals function) _ body h in
    let d = came_by (expand_arguments scope locals arguments c.item) _ body c.goes in
    let a = family_at_kind_sound span kind d.item body d.goes in
    record {
      binders = a.binders;
      outcome = a.outcome;
      stands = record {
        first = c.item;
        begins = (head_sound function Families scope locals c.item c.came).0;
        takes = subst (StandsArguments scope locals arguments c.item) a.head_is (arguments_sound arguments scope locals c.item d.item d.came);
      };
      is = a.is;
    }

pub family_value_complete : (expression : Expr) (scope : Scope) (locals : Locals) (kind : Kind) (body : Family) → StandsFamilyValue scope locals expression kind body → expand_family_value scope locals expression kind ≡ Ok body
unfolding expand_family_value
family_value_complete (LamExpr span binder inner) scope locals kind body s =
    goes_by (lambda_at_kind span kind) _ (record { domain = s.domain; rest = s.rest }) body (ap (lambda_at_kind span) s.kind_is)
    (family_value_complete inner scope (with_local binder s.domain locals) s.rest body s.stands)
family_value_complete (TypedLamExpr span binder domain inner) scope locals kind body s =
    goes_by (lambda_at_kind span kind) _ (record { domain = s.domain; rest = s.rest }) body (ap (lambda_at_kind span) s.kind_is)
    (goes_by (expand_family scope locals domain) _ s.domain body (family_complete domain scope locals s.domain s.domain_stands)
    (goes_by (must (same_family s.domain s.domain) (span_of domain) Rule.Annotation) _ tt body (must_by (same_family s.domain s.domain) (span_of domain) Rule.Annotation (same_family_itself s.domain))
    (family_value_complete inner scope (with_local binder s.domain locals) s.rest body s.stands)))
family_value_complete (TypeExpr span) scope locals kind body s = absurd s
family_value_complete (PiExpr span binder domain inner) scope locals kind body s = absurd s
family_value_complete (ArrowExpr span domain inner) scope locals kind body s = absurd s
family_value_complete (BackExpr span inner domain) scope locals kind body s = absurd s
family_value_complete (NameExpr span path) scope locals kind body s =
    goes_by (name_head Families scope locals span path) _ (FamilyHead s.binders s.outcome kind) body (name_complete Families scope locals span path (FamilyHead s.binders s.outcome kind) s.stands refl)
    (family_at_kind_complete span kind s.binders s.outcome body s.is)
family_value_complete (AppExpr span function arguments) scope locals kind body s =
    let b = s.stands in
    let head : Head = FamilyHead s.binders s.outcome kind in
    goes_by (expand_head Families scope locals function) _ b.first body
    (head_complete function Families scope locals b.first b.begins (sym (arguments_keep arguments scope locals b.first head b.takes)))
    (goes_by (expand_arguments scope locals arguments b.first) _ head body
    (arguments_complete arguments scope locals b.first head b.takes)
    (family_at_kind_complete span kind s.binders s.outcome body s.is))

-- ---- values

declaration_sound : (span : Span) (resolved : Resolved) (declaration : Declaration) → resolved_declaration span resolved ≡ Ok declaration → resolved ≡ Declared declaration
declaration_sound span (Variable index) declaration h = absurd (cc)
declaration_sound span (Declared found) declaration h = ap Declared (ok_same h)
declaration_sound span Unknown declaration h = absurd (cc)
declaration_sound span Ambiguous declaration h = absurd (cc)

named_sound : (scope : Scope) (span : Span) (path : Path) (class : Class) (value : Value) → named_value scope span path class ≡ Ok value → NameGives scope path class value
named_sound scope span path class value h =
    let c = came_by (resolved_declaration span (resolve scope [] path)) _ value h in
    let l = came_by (must (same_level (class_level c.item.class) (class_level class)) span Rule.Level) _ value c.goes in
    let m = came_by (must (same_class c.item.class class) span Rule.Mismatch) _ value l.goes in
    record {
      declaration = c.item;
      stands = subst (StandsFor scope [] path) (declaration_sound span (resolve scope [] path) c.item c.came) (resolution_stands scope [] path).0;
      class_is = same_class_sound c.item.class class (must_holds (same_class c.item.class class) span Rule.Mismatch m.item m.came);
      is = sym (ok_same m.goes);
    }

named_complete : (scope : Scope) (span : Span) (path : Path) (class : Class) (value : Value) → NameGives scope path class value → named_value scope span path class ≡ Ok value
named_complete scope span path class value n =
    goes_by (resolved_declaration span (resolve scope [] path)) _ n.declaration value (ap (resolved_declaration span) (sym ((resolution_stands scope [] path).1 (Declared n.declaration) n.stands)))
    (goes_by (must (same_level (class_level n.declaration.class) (class_level class)) span Rule.Level) _ tt value
    (must_by (same_level (class_level n.declaration.class) (class_level class)) span Rule.Level (ap (λ z. same_level (class_level z) (class_level class)) n.class_is ∙ same_level_itself (class_level class)))
    (goes_by (must (same_class n.declaration.class class) span Rule.Mismatch) _ tt value (must_by (same_class n.declaration.class class) span Rule.Mismatch (ap (λ z. same_class z class) n.class_is ∙ same_class_itself class))
    (ap Ok (sym n.is))))

built_sound : (scope : Scope) (expression : Expr) (class : Class) (value : Value) → built_value scope expression class ≡ Ok value → BuildsValue scope expression class value
built_sound scope expression (FamilyClass family) value h =
    let c = came_by (expand_object scope [] expression family) _ value h in
    (c.item, object_sound expression scope [] family c.item c.came, sym (ok_same c.goes))
built_sound scope expression (KindClass kind) value h =
    let c = came_by (expand_family_value scope [] expression kind) _ value h in
    (c.item, family_value_sound expression scope [] kind c.item c.came, sym (ok_same c.goes))

built_complete : (scope : Scope) (expression : Expr) (class : Class) (value : Value) → BuildsValue scope expression class value → built_value scope expression class ≡ Ok value
built_complete scope expression (FamilyClass family) value b =
    goes_by (expand_object scope [] expression family) _ b.0 value (object_complete expression scope [] family b.0 b.1) (ap Ok (sym b.2))
built_complete scope expression (KindClass kind) value b =
    goes_by (expand_family_value scope [] expression kind) _ b.0 value (family_value_complete expression scope [] kind b.0 b.1) (ap Ok (sym b.2))

pub value_sound : (scope : Scope) (expression : Expr) (class : Class) (value : Value) → expand_value scope expression class ≡ Ok value → StandsValue scope expression class value
unfolding expand_value
value_sound scope (NameExpr span path) class value h = named_sound scope span path class value h
value_sound scope (TypeExpr span) class value h = built_sound scope (TypeExpr span) class value h
value_sound scope (AppExpr span function arguments) class value h = built_sound scope (AppExpr span function arguments) class value h
value_sound scope (PiExpr span binder domain body) class value h = built_sound scope (PiExpr span binder domain body) class value h
value_sound scope (LamExpr span binder body) class value h = built_sound scope (LamExpr span binder body) class value h
value_sound scope (TypedLamExpr span binder domain body) class value h = built_sound scope (TypedLamExpr span binder domain body) class value h
value_sound scope (ArrowExpr span domain body) class value h = built_sound scope (ArrowExpr span domain body) class value h
value_sound scope (BackExpr span body domain) class value h = built_sound scope (BackExpr span body domain) class value h

pub value_complete : (scope : Scope) (expression : Expr) (class : Class) (value : Value) → StandsValue scope expression class value → expand_value scope expression class ≡ Ok value
unfolding expand_value
value_complete scope (NameExpr span path) class value s = named_complete scope span path class value s
value_complete scope (TypeExpr span) class value s = built_complete scope (TypeExpr span) class value s
value_complete scope (AppExpr span function arguments) class value s = built_complete scope (AppExpr span function arguments) class value s
value_complete scope (PiExpr span binder domain body) class value s = built_complete scope (PiExpr span binder domain body) class value s
value_complete scope (LamExpr span binder body) class value s = built_complete scope (LamExpr span binder body) class value s
value_complete scope (TypedLamExpr span binder domain body) class value s = built_complete scope (TypedLamExpr span binder domain body) class value s
value_complete scope (ArrowExpr span domain body) class value s = built_complete scope (ArrowExpr span domain body) class value s
value_complete scope (BackExpr span body domain) class value s = built_complete scope (BackExpr span body domain) class value s
