-- What stands holds only constants of the scope.
use Rattle.std.proofs.Common.{◌≡◌, ℕ, zero, suc, ◌+◌, ◌<◌, [], ◌∷◌, length, slice_get, Option, Some, None, option_map, refl, sym, ap, subst, arith}
use Rattle.name_meaning.specs.Names.{Path}
use Rattle.lf_meaning.specs.Terms.{Object, Family, Pi, Kind, Ty, PiKind, domain_count}
use Rattle.lf_meaning.specs.Raising.{raise_family}
use Rattle.lf_meaning.specs.Signatures.{Class, FamilyClass, KindClass, Value, SameAs, TermValue, FamilyValue, Declaration, Signature, undefined_class, class_of}
use Rattle.list_laws.proofs.Members.{Member, append_left, append_right, flat_map_in, find_found, place_member, member_place}
use Rattle.name_laws.proofs.Order.{among_member}
use Rattle.translation_meaning.specs.Heads.{Head, ObjectHead, FamilyHead}
use Rattle.library_meaning.specs.Faces.{own_part, own_parts}
use Rattle.library_meaning.specs.Resolution.{Scope, Variables, has_path, Resolved, Variable, Declared, Unknown, Ambiguous}
use Rattle.library_meaning.specs.StandsFor.{ByOwn, ByQualified, ByIncluded, StandsFor}
use Rattle.library_meaning.specs.Holding.{ObjectHolds, FamilyHolds, KindHolds, ClassHolds, ValueHolds, OptionalValueHolds}
use Rattle.library_meaning.specs.Words.{own_value}
use Rattle.text_meaning.specs.Trees.{Expr, TypeExpr, NameExpr, AppExpr, PiExpr, LamExpr, TypedLamExpr, ArrowExpr, BackExpr, Exprs, NoArgs, ThenArg}
use Rattle.elaborate_meaning.specs.Locals.{Local, Locals, with_local, variables_of}
use Rattle.elaborate_meaning.specs.NameHeads.{class_head}
use Rattle.elaborate_meaning.specs.Values.{expanded_family}
use Rattle.elaborate_meaning.specs.Stands.{BeginsAs, NameStands, StandsObject, StandsHead, StandsArguments, StandsFamily, StandsKind, StandsClass, StandsFamilyValue, NameGives, BuildsValue, StandsValue}
use Rattle.constant_laws.specs.ExpansionHolds.{scope_signature, ScopeHolds, LocalsHold, StandingObjectHolds, StandingHeadHolds, TakenArgumentsHold, StandingFamilyValueHolds, StandingFamilyHolds, StandingKindHolds, StandingClassHolds, StandingValueHolds}
use Rattle.constant_laws.proofs.Declared.{class_in, class_at, value_at}
use Rattle.constant_laws.proofs.Replaced.{raise_family_holds}
use Rattle.constant_laws.specs.HeadsHold.{HeadHolds}
use Rattle.constant_laws.proofs.Heads.{head_taken, domain_holds, whole_holds, object_anywhere, family_anywhere, kind_anywhere, family_value_partly, constant_partly}
use Rattle.constant_laws.proofs.Translating.{object_value_holds, family_value_holds}
use Rattle.constant_laws.proofs.OutcomesHold.{BodyHolds, outcome_holds, family_outcome_holds}
use Rattle.std.proofs.lemmas.Option.{same_Some}

-- ---- variables

record LocalAt (signature : Signature) (variables index : ℕ) (family : Family) : Type 0 where
  within : index < variables
  holds : FamilyHolds signature variables family

local_at : (signature : Signature) (locals : Locals) (shift index : ℕ) (own : Local) → LocalsHold signature locals → slice_get locals index ≡ Some own → shift ≡ suc index → LocalAt signature (length locals) index (raise_family shift 0 own.family)
local_at signature [] shift index own h e g = absurd (cc)
local_at signature (l ∷ locals) shift zero own h e g =
    let q : l ≡ own = same_Some _ _ e in
    record { within = omega arith; holds = subst (λ z. FamilyHolds signature (suc (length locals)) (raise_family shift 0 z.family)) q (raise_family_holds signature shift l.family 0 (length locals) (suc (length locals)) (omega (arith, g)) h.0) }
local_at signature (l ∷ locals) shift (suc index) own h e g = further
  where
    place : (xs : Locals) (i : ℕ) → LocalsHold signature xs → slice_get xs i ≡ Some own → (n : ℕ) × FamilyHolds signature n own.family × (length xs ≡ n + suc i)
    place [] i h e = absurd (cc)
    place (x ∷ xs) zero h e = (length xs, subst (λ z. FamilyHolds signature (length xs) z.family) (same_Some _ _ e) h.0, omega arith)
    place (x ∷ xs) (suc i) h e = let p = place xs i h.1 e in let c = p.2 in (p.0, p.1, omega (arith, c))

    further : LocalAt signature (suc (length locals)) (suc index) (raise_family shift 0 own.family)
    further =
        let p = place locals index h.1 e in
        let c = p.2 in
        record { within = omega (arith, c); holds = raise_family_holds signature shift own.family 0 p.0 (suc (length locals)) (omega (arith, c, g)) p.1 }

own_local : (locals : Locals) (index : ℕ) (o : Option Local) (family : Family) → slice_get locals index ≡ o → option_map (λ (own : Local). raise_family (suc index) 0 own.family) o ≡ Some family
    → (own : Local) × (slice_get locals index ≡ Some own) × (raise_family (suc index) 0 own.family ≡ family)
own_local locals index None family e h = absurd (cc)
own_local locals index (Some own) family e h = (own, e, same_Some _ _ h)

-- a declaration that a path stands for is one of the scope
pub scope_member : (scope : Scope) (variables : Variables) (path : Path) (d : Declaration) → StandsFor scope variables path (Declared d) → Member d (scope_signature scope)
scope_member scope variables path d (ByOwn f o) = append_right (own_parts scope.environment scope.includes) scope.own d (find_found (has_path path) scope.own d o).0
scope_member scope variables path d (ByQualified f n q) =
    append_left (own_parts scope.environment scope.includes) scope.own d
    (flat_map_in (own_part scope.environment) scope.includes q.theory d (among_member scope.includes q.theory q.seen) (find_found (has_path q.rest) (own_part scope.environment q.theory) d q.has).0)
scope_member scope variables path d (ByIncluded e o) =
    let h = o.here in
    append_left (own_parts scope.environment scope.includes) scope.own d
    (flat_map_in (own_part scope.environment) scope.includes h.theory d (place_member scope.includes o.place h.theory h.found) (find_found (has_path path) (own_part scope.environment h.theory) d h.has).0)

-- what a signature knows of a declaration
pub record DeclaredHolds (signature : Signature) (d : Declaration) : Type 0 where
  pub class : class_of signature d.name ≡ undefined_class d.value d.class
  pub class_holds : ClassHolds signature d.class
  pub value_holds : OptionalValueHolds signature d.class d.value

-- over a signature that knows all declarations of the scope
module _ (scope : Scope) (signature : Signature) (declared_holds : (d : Declaration) → Member d (scope_signature scope) → DeclaredHolds signature d) where
  -- ---- names

  head_of_class : (v : ℕ) (d : Declaration) (class : Class) (value : Option Value) → class_of signature d.name ≡ undefined_class value class → ClassHolds signature class → OptionalValueHolds signature class value → HeadHolds signature v (class_head d.name class value)
  head_of_class v d (FamilyClass a) None e h g = ((a, e), family_anywhere signature a v h)
  head_of_class v d (FamilyClass a) (Some (SameAs c)) e h g = (g, family_anywhere signature a v h)
  head_of_class v d (FamilyClass a) (Some (TermValue m)) e h g = (object_anywhere signature m v g.0, family_anywhere signature a v h)
  head_of_class v d (FamilyClass a) (Some (FamilyValue n body)) e h g = absurd g
  head_of_class v d (KindClass k) None e h g = (constant_partly signature v d.name k (k, e, refl), kind_anywhere signature k v h)
  head_of_class v d (KindClass k) (Some (SameAs c)) e h g = (constant_partly signature v c k g, kind_anywhere signature k v h)
  head_of_class v d (KindClass k) (Some (TermValue m)) e h g = absurd g
  head_of_class v d (KindClass k) (Some (FamilyValue n body)) e h g = (family_value_partly signature v n body k g, kind_anywhere signature k v h)

  begins_holds : (locals : Locals) (path : Path) (resolved : Resolved) (head : Head) → LocalsHold signature locals → StandsFor scope (variables_of locals) path resolved → BeginsAs locals resolved head → HeadHolds signature (length locals) head
  begins_holds locals path (Variable index) head l s b =
      let o = own_local locals index (slice_get locals index) b.0 refl b.1 in
      let p = local_at signature locals (suc index) index o.0 l o.1 refl in
      subst (HeadHolds signature (length locals)) (sym b.2) (p.within, subst (FamilyHolds signature (length locals)) o.2 p.holds)
  begins_holds locals path (Declared d) head l s b =
      let h = declared_holds d (scope_member scope (variables_of locals) path d s) in
      subst (HeadHolds signature (length locals)) (sym b) (head_of_class (length locals) d d.class d.value h.class h.class_holds h.value_holds)
  begins_holds locals path Unknown head l s b = absurd b
  begins_holds locals path Ambiguous head l s b = absurd b

  pub name_holds : (locals : Locals) (path : Path) (head : Head) → LocalsHold signature locals → NameStands scope locals path head → HeadHolds signature (length locals) head
  name_holds locals path head l n = begins_holds locals path n.resolved head l n.stands n.begins

  -- ---- expressions

  mutual
    pub object_holds : (e : Expr) (locals : Locals) (family : Family) (object : Object) → LocalsHold signature locals → FamilyHolds signature (length locals) family → StandsObject scope locals e family object → ObjectHolds signature (length locals) object
    object_holds (TypeExpr span) locals family object l f s = absurd s
    object_holds (PiExpr span binder domain body) locals family object l f s = absurd s
    object_holds (ArrowExpr span domain body) locals family object l f s = absurd s
    object_holds (BackExpr span body domain) locals family object l f s = absurd s
    object_holds (LamExpr span binder body) locals family object l f s =
        let g : FamilyHolds signature (length locals) (Pi s.domain s.codomain) = subst (FamilyHolds signature (length locals)) s.family_is f in
        subst (ObjectHolds signature (length locals)) (sym s.object_is) (object_holds body (with_local binder s.domain locals) s.codomain s.body (g.0, l) g.1 s.stands)
    object_holds (TypedLamExpr span binder domain body) locals family object l f s =
        let g : FamilyHolds signature (length locals) (Pi s.domain s.codomain) = subst (FamilyHolds signature (length locals)) s.family_is f in
        subst (ObjectHolds signature (length locals)) (sym s.object_is) (object_holds body (with_local binder s.domain locals) s.codomain s.body (g.0, l) g.1 s.stands)
    object_holds (NameExpr span path) locals family object l f s =
        let h : HeadHolds signature (length locals) (ObjectHead s.outcome family) = name_holds locals path (ObjectHead s.outcome family) l s.stands in
        subst (ObjectHolds signature (length locals)) (sym s.is) (outcome_holds signature family (length locals) s.outcome h.0)
    object_holds (AppExpr span function arguments) locals family object l f s =
        let b = s.stands in
        let h : HeadHolds signature (length locals) (ObjectHead s.outcome family) = arguments_hold arguments locals b.first (ObjectHead s.outcome family) l (head_holds function locals b.first l b.begins) b.takes in
        subst (ObjectHolds signature (length locals)) (sym s.is) (outcome_holds signature family (length locals) s.outcome h.0)

    pub head_holds : (e : Expr) (locals : Locals) (head : Head) → LocalsHold signature locals → StandsHead scope locals e head → HeadHolds signature (length locals) head
    head_holds (NameExpr span path) locals head l s = name_holds locals path head l s
    head_holds (AppExpr span function arguments) locals head l s = arguments_hold arguments locals s.first head l (head_holds function locals s.first l s.begins) s.takes
    head_holds (LamExpr span binder body) locals head l s = absurd s
    head_holds (TypedLamExpr span binder domain body) locals head l s = absurd s
    head_holds (TypeExpr span) locals head l s = absurd s
    head_holds (PiExpr span binder domain body) locals head l s = absurd s
    head_holds (ArrowExpr span domain body) locals head l s = absurd s
    head_holds (BackExpr span body domain) locals head l s = absurd s

    pub arguments_hold : (xs : Exprs) (locals : Locals) (first head : Head) → LocalsHold signature locals → HeadHolds signature (length locals) first → StandsArguments scope locals xs first head → HeadHolds signature (length locals) head
    arguments_hold NoArgs locals first head l h s = subst (HeadHolds signature (length locals)) (sym s) h
    arguments_hold (ThenArg xs e) locals first head l h s =
        let g = arguments_hold xs locals first s.head l h s.is_before in
        let d = domain_holds signature (length locals) s.head s.domain s.takes g in
        subst (HeadHolds signature (length locals)) (sym s.is) (head_taken signature (length locals) s.head s.object s.domain s.takes g (object_holds e locals s.domain s.object l d s.stands))

    pub family_holds : (e : Expr) (locals : Locals) (family : Family) → LocalsHold signature locals → StandsFamily scope locals e family → FamilyHolds signature (length locals) family
    family_holds (PiExpr span binder domain body) locals family l s =
        let a = family_holds domain locals s.domain l s.first in
        subst (FamilyHolds signature (length locals)) (sym s.is) (a, family_holds body (with_local binder s.domain locals) s.codomain (a, l) s.second)
    family_holds (ArrowExpr span domain body) locals family l s =
        let a = family_holds domain locals s.domain l s.first in
        subst (FamilyHolds signature (length locals)) (sym s.is) (a, family_holds body (with_local None s.domain locals) s.codomain (a, l) s.second)
    family_holds (BackExpr span body domain) locals family l s =
        let a = family_holds domain locals s.domain l s.first in
        subst (FamilyHolds signature (length locals)) (sym s.is) (a, family_holds body (with_local None s.domain locals) s.codomain (a, l) s.second)
    family_holds (TypeExpr span) locals family l s = absurd s
    family_holds (LamExpr span binder body) locals family l s = absurd s
    family_holds (TypedLamExpr span binder domain body) locals family l s = absurd s
    family_holds (NameExpr span path) locals family l s = whole_holds signature (length locals) s.0 family (name_holds locals path (FamilyHead s.0 family Ty) l s.1).0
    family_holds (AppExpr span function arguments) locals family l s =
        let b = s.1 in whole_holds signature (length locals) s.0 family (arguments_hold arguments locals b.first (FamilyHead s.0 family Ty) l (head_holds function locals b.first l b.begins) b.takes).0

  pub kind_holds : (e : Expr) (locals : Locals) (kind : Kind) → LocalsHold signature locals → StandsKind scope locals e kind → KindHolds signature (length locals) kind
  kind_holds (TypeExpr span) locals kind l s = subst (KindHolds signature (length locals)) (sym s) tt
  kind_holds (PiExpr span binder domain body) locals kind l s =
      let a = family_holds domain locals s.domain l s.first in
      subst (KindHolds signature (length locals)) (sym s.is) (a, kind_holds body (with_local binder s.domain locals) s.rest (a, l) s.second)
  kind_holds (ArrowExpr span domain body) locals kind l s =
      let a = family_holds domain locals s.domain l s.first in
      subst (KindHolds signature (length locals)) (sym s.is) (a, kind_holds body (with_local None s.domain locals) s.rest (a, l) s.second)
  kind_holds (BackExpr span body domain) locals kind l s =
      let a = family_holds domain locals s.domain l s.first in
      subst (KindHolds signature (length locals)) (sym s.is) (a, kind_holds body (with_local None s.domain locals) s.rest (a, l) s.second)
  kind_holds (NameExpr span path) locals kind l s = absurd s
  kind_holds (AppExpr span function arguments) locals kind l s = absurd s
  kind_holds (LamExpr span binder body) locals kind l s = absurd s
  kind_holds (TypedLamExpr span binder domain body) locals kind l s = absurd s

  pub class_holds : (e : Expr) (class : Class) → StandsClass scope e class → ClassHolds signature class
  class_holds e (FamilyClass family) s = family_holds e [] family tt s.1
  class_holds e (KindClass kind) s = kind_holds e [] kind tt s.1

  -- ---- values

  family_outcome : (locals : Locals) (kind : Kind) (binders : ℕ) (outcome family : Family) → family ≡ expanded_family kind binders outcome → HeadHolds signature (length locals) (FamilyHead binders outcome kind) → BodyHolds signature (length locals + domain_count kind) family
  family_outcome locals kind binders outcome family e h = subst (BodyHolds signature (length locals + domain_count kind)) (sym e) (family_outcome_holds signature (length locals) binders outcome kind h.0)

  under_binder : (locals : Locals) (own : Local) (kind rest : Kind) (domain family : Family) → kind ≡ PiKind domain rest → BodyHolds signature (length (own ∷ locals) + domain_count rest) family → BodyHolds signature (length locals + domain_count kind) family
  under_binder locals own kind rest domain family e b =
      let c : domain_count kind ≡ suc (domain_count rest) = ap domain_count e in
      subst (λ n. BodyHolds signature n family) (omega (arith, c)) b

  pub family_value_body : (e : Expr) (locals : Locals) (kind : Kind) (family : Family) → LocalsHold signature locals → KindHolds signature (length locals) kind → StandsFamilyValue scope locals e kind family → BodyHolds signature (length locals + domain_count kind) family
  family_value_body (LamExpr span binder body) locals kind family l k s =
      let g : KindHolds signature (length locals) (PiKind s.domain s.rest) = subst (KindHolds signature (length locals)) s.kind_is k in
      under_binder locals (record { name = binder; family = s.domain }) kind s.rest s.domain family s.kind_is (family_value_body body (with_local binder s.domain locals) s.rest family (g.0, l) g.1 s.stands)
  family_value_body (TypedLamExpr span binder domain body) locals kind family l k s =
      let g : KindHolds signature (length locals) (PiKind s.domain s.rest) = subst (KindHolds signature (length locals)) s.kind_is k in
      under_binder locals (record { name = binder; family = s.domain }) kind s.rest s.domain family s.kind_is (family_value_body body (with_local binder s.domain locals) s.rest family (g.0, l) g.1 s.stands)
  family_value_body (NameExpr span path) locals kind family l k s = family_outcome locals kind s.binders s.outcome family s.is (name_holds locals path (FamilyHead s.binders s.outcome kind) l s.stands)
  family_value_body (AppExpr span function arguments) locals kind family l k s =
      let b = s.stands in
      family_outcome locals kind s.binders s.outcome family s.is (arguments_hold arguments locals b.first (FamilyHead s.binders s.outcome kind) l (head_holds function locals b.first l b.begins) b.takes)
  family_value_body (TypeExpr span) locals kind family l k s = absurd s
  family_value_body (PiExpr span binder domain body) locals kind family l k s = absurd s
  family_value_body (ArrowExpr span domain body) locals kind family l k s = absurd s
  family_value_body (BackExpr span body domain) locals kind family l k s = absurd s

  undefined_holds : (d : Declaration) (class : Class) (value : Option Value) → class_of signature d.name ≡ undefined_class value class → OptionalValueHolds signature class value → ValueHolds signature class (own_value d value)
  undefined_holds d (FamilyClass a) None e h = (a, e)
  undefined_holds d (KindClass k) None e h = (k, e, refl)
  undefined_holds d class (Some value) e h = h

  named_holds : (path : Path) (class : Class) (value : Value) → NameGives scope path class value → ValueHolds signature class value
  named_holds path class value n =
      let h = declared_holds n.declaration (scope_member scope [] path n.declaration n.stands) in
      subst (λ c. ValueHolds signature c value) n.class_is (subst (ValueHolds signature n.declaration.class) (sym n.is) (undefined_holds n.declaration n.declaration.class n.declaration.value h.class h.value_holds))

  built_holds : (e : Expr) (class : Class) (value : Value) → ClassHolds signature class → BuildsValue scope e class value → ValueHolds signature class value
  built_holds e (FamilyClass family) value h b = subst (ValueHolds signature (FamilyClass family)) (sym b.2) (object_value_holds signature family b.0 (object_holds e [] family b.0 tt h b.1))
  built_holds e (KindClass kind) value h b =
      let g = family_value_body e [] kind b.0 tt h b.1 in
      subst (ValueHolds signature (KindClass kind)) (sym b.2) (family_value_holds signature kind (domain_count kind) b.0 refl g.atomic (subst (λ n. FamilyHolds signature n b.0) (omega arith) g.holds))

  pub value_holds : (e : Expr) (class : Class) (value : Value) → ClassHolds signature class → StandsValue scope e class value → ValueHolds signature class value
  value_holds (NameExpr span path) class value h s = named_holds path class value s
  value_holds (TypeExpr span) class value h s = built_holds (TypeExpr span) class value h s
  value_holds (AppExpr span function arguments) class value h s = built_holds (AppExpr span function arguments) class value h s
  value_holds (PiExpr span binder domain body) class value h s = built_holds (PiExpr span binder domain body) class value h s
  value_holds (LamExpr span binder body) class value h s = built_holds (LamExpr span binder body) class value h s
  value_holds (TypedLamExpr span binder domain body) class value h s = built_holds (TypedLamExpr span binder domain body) class value h s
  value_holds (ArrowExpr span domain body) class value h s = built_holds (ArrowExpr span domain body) class value h s
  value_holds (BackExpr span body domain) class value h s = built_holds (BackExpr span body domain) class value h s

pub scope_declared : (scope : Scope) → ScopeHolds scope → (d : Declaration) → Member d (scope_signature scope) → DeclaredHolds (scope_signature scope) d
scope_declared scope ok d m =
    let p = member_place (scope_signature scope) d m in
    record { class = class_in (scope_signature scope) ok.once p.0 d p.1; class_holds = class_at (scope_signature scope) ok.declarations p.0 d p.1; value_holds = value_at (scope_signature scope) ok.declarations p.0 d p.1 }

pub standing_object_holds : StandingObjectHolds
standing_object_holds scope locals e family object ok l f s = object_holds scope (scope_signature scope) (scope_declared scope ok) e locals family object l f s

pub standing_head_holds : StandingHeadHolds
standing_head_holds scope locals e head ok l s = head_holds scope (scope_signature scope) (scope_declared scope ok) e locals head l s

pub taken_arguments_hold : TakenArgumentsHold
taken_arguments_hold scope locals xs first head ok l h s = arguments_hold scope (scope_signature scope) (scope_declared scope ok) xs locals first head l h s

pub standing_family_holds : StandingFamilyHolds
standing_family_holds scope locals e family ok l s = family_holds scope (scope_signature scope) (scope_declared scope ok) e locals family l s

pub standing_kind_holds : StandingKindHolds
standing_kind_holds scope locals e kind ok l s = kind_holds scope (scope_signature scope) (scope_declared scope ok) e locals kind l s

pub standing_class_holds : StandingClassHolds
standing_class_holds scope e class ok s = class_holds scope (scope_signature scope) (scope_declared scope ok) e class s

pub standing_family_value_holds : StandingFamilyValueHolds
standing_family_value_holds scope locals e kind body ok l k s =
    let b = family_value_body scope (scope_signature scope) (scope_declared scope ok) e locals kind body l k s in
    (b.holds, b.atomic)

pub standing_value_holds : StandingValueHolds
standing_value_holds scope e class value ok h s = value_holds scope (scope_signature scope) (scope_declared scope ok) e class value h s
