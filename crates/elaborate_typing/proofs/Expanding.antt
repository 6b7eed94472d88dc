-- What stands is well typed over a well-typed signature that knows the scope's declarations, as the scope's own does.
use Rattle.std.proofs.Common.{◌≡◌, ℕ, zero, suc, [], ◌∷◌, ◌++◌, take, drop, slice_get, Option, Some, None, option_map, inl, inr, refl, sym, ap, subst, subst₂}
use Rattle.name_meaning.specs.Names.{Path}
use Rattle.lf_meaning.specs.Terms.{Object, Lam, At, Var, Con, App, Family, Pi, AtFamily, FamilyCon, FamilyApp, Kind, Ty, PiKind, Context, domain_count, with_domains}
use Rattle.lf_meaning.specs.Raising.{raise_family}
use Rattle.lf_meaning.specs.Signatures.{Class, FamilyClass, KindClass, Value, SameAs, TermValue, FamilyValue, Declaration, Signature, undefined_class, class_of}
use Rattle.lf_meaning.specs.Judgements.{Checks, Synthesises, IsFamily, IsKind, IsContext, IsClass, Fits, ValueFits, IsDeclaration, IsSignature}
use Rattle.lf_typing.proofs.Declared.{class_more}
use Rattle.lf_typing.proofs.Typed.{more_checks, more_family, more_kind}
use Rattle.lf_typing.proofs.HeadTyping.{synthesised_is_family}
use Rattle.list_laws.proofs.Members.{Member, member_place}
use Rattle.list_laws.proofs.Places.{split_at}
use Rattle.translation_meaning.specs.Heads.{Head, ObjectHead, FamilyHead}
use Rattle.translation_meaning.specs.Translation.{object_value, family_value}
use Rattle.library_meaning.specs.Resolution.{Scope, Resolved, Variable, Declared, Unknown, Ambiguous}
use Rattle.library_meaning.specs.StandsFor.{StandsFor}
use Rattle.library_meaning.specs.Words.{own_value}
use Rattle.text_meaning.specs.Trees.{Expr, TypeExpr, NameExpr, AppExpr, PiExpr, LamExpr, TypedLamExpr, ArrowExpr, BackExpr, Exprs, NoArgs, ThenArg}
use Rattle.elaborate_meaning.specs.Locals.{Local, Locals, with_local, variables_of, context_of, family_at}
use Rattle.elaborate_meaning.specs.NameHeads.{class_head}
use Rattle.elaborate_meaning.specs.Values.{expanded_family}
use Rattle.elaborate_meaning.specs.Stands.{BeginsAs, NameStands, StandsObject, StandsHead, StandsArguments, StandsFamily, StandsKind, StandsClass, StandsFamilyValue, NameGives, BuildsValue, StandsValue}
use Rattle.constant_laws.specs.HoldingLaws.{Grows}
use Rattle.constant_laws.specs.ExpansionHolds.{scope_signature}
use Rattle.constant_laws.proofs.Declared.{class_in}
use Rattle.constant_laws.proofs.Expanding.{scope_member}
use Rattle.elaborate_typing.specs.TypingOfExpansion.{IsTypedScope, StandingObjectChecks, StandingHeadIsTyped, TakenArgumentsAreTyped, StandingFamilyIsFamily, StandingKindIsKind, StandingClassIsClass, StandingFamilyValueIsFamily, StandingValueFits}
use Rattle.translation_typing.proofs.KindDomains.{domains_append}
use Rattle.translation_typing.specs.FamilyHeads.{FamilyTyped, OnSpine, UnderBinders}
use Rattle.translation_typing.proofs.TypedHeads.{family_whole}
use Rattle.translation_typing.proofs.Grown.{declaration_more}
use Rattle.eta_meaning.specs.LongTerms.{expanded}
use Rattle.eta_laws.proofs.IdentityTyping.{eta_family_is_family, expanded_atomic_checks, expanded_checked}
use Rattle.elaborate_typing.specs.TypingOfHeads.{ObjectTyped, HeadTyped}
use Rattle.elaborate_typing.proofs.HeadsTyped.{head_taken, domain_typed}
use Rattle.std.proofs.lemmas.Option.{same_Some}

local_there : (locals : Locals) (index : ℕ) (family : Family) → family_at locals index ≡ Some family → (own : Family) × (slice_get (context_of locals) index ≡ Some own) × (family ≡ raise_family (suc index) 0 own)
local_there locals index family h = by locals index (slice_get locals index) refl h
  where
    at : (xs : Locals) (i : ℕ) (own : Local) → slice_get xs i ≡ Some own → slice_get (context_of xs) i ≡ Some own.family
    at [] i own e = absurd (cc)
    at (x ∷ xs) zero own e = ap (λ (z : Local). Some z.family) (same_Some _ _ e)
    at (x ∷ xs) (suc i) own e = at xs i own e

    by : (xs : Locals) (i : ℕ) (o : Option Local) → slice_get xs i ≡ o → option_map (λ (own : Local). raise_family (suc index) 0 own.family) o ≡ Some family → (own : Family) × (slice_get (context_of xs) i ≡ Some own) × (family ≡ raise_family (suc index) 0 own)
    by xs i None e g = absurd (cc)
    by xs i (Some own) e g = (own.family, at xs i own e, same_Some _ _ (sym g))

-- what a signature knows of a declaration
pub record DeclaredTyped (sig : Signature) (d : Declaration) : Type 0 where
  pub class : class_of sig d.name ≡ undefined_class d.value d.class
  pub is : IsDeclaration sig d

-- over a well-typed signature that knows all declarations of the scope
module _ (scope : Scope) (sig : Signature) (typed : IsSignature sig) (knows : (d : Declaration) → Member d (scope_signature scope) → DeclaredTyped sig d) where
  -- ---- names

  same : Grows sig sig
  same c class h = h

  class_head_typed : (context : Context) (c : IsContext sig context) (d : Declaration) (class : Class) (value : Option Value) → class_of sig d.name ≡ undefined_class value class → IsClass sig class → ValueFits sig value class
      → HeadTyped sig context (class_head d.name class value)
  class_head_typed context c d (FamilyClass a) None e h g = (inr (Con d.name, refl, e), more_family sig sig same [] context a h)
  class_head_typed context c d (FamilyClass a) (Some (SameAs o)) e h g = (inr (Con o, refl, g), more_family sig sig same [] context a h)
  class_head_typed context c d (FamilyClass a) (Some (TermValue m)) e h g = (inl (more_checks sig sig same [] context m a g), more_family sig sig same [] context a h)
  class_head_typed context c d (FamilyClass a) (Some (FamilyValue n body)) e h g = absurd g
  class_head_typed context c d (KindClass k) None e h g = (OnSpine (FamilyCon d.name) refl refl e, more_kind sig sig same [] context k h)
  class_head_typed context c d (KindClass k) (Some (SameAs o)) e h g = (OnSpine (FamilyCon o) refl refl g, more_kind sig sig same [] context k h)
  class_head_typed context c d (KindClass k) (Some (TermValue m)) e h g = absurd g
  class_head_typed context c d (KindClass k) (Some (FamilyValue n body)) e h g =
      (UnderBinders g.0 (subst (λ z. IsFamily sig z body) (sym (domains_append k [] context)) (more_family sig sig same (with_domains k []) context body g.1)), more_kind sig sig same [] context k h)

  own_value_fits : (d : Declaration) (class : Class) (value : Option Value) → class_of sig d.name ≡ undefined_class value class → ValueFits sig value class → Fits sig (own_value d value) class
  own_value_fits d class None e g = e
  own_value_fits d class (Some value) e g = g

  begins_typed : (locals : Locals) (path : Path) (resolved : Resolved) (head : Head) (c : IsContext sig (context_of locals)) → StandsFor scope (variables_of locals) path resolved → BeginsAs locals resolved head → HeadTyped sig (context_of locals) head
  begins_typed locals path (Variable index) head c s b =
      let l = local_there locals index b.0 b.1 in
      let synthesises : Synthesises sig (context_of locals) (Var index) b.0 = record { family = l.0; found = l.1; is = l.2 } in
      subst (HeadTyped sig (context_of locals)) (sym b.2) (inr (Var index, refl, synthesises), synthesised_is_family sig typed (context_of locals) (Var index) b.0 c synthesises)
  begins_typed locals path (Declared d) head c s b =
      let t = knows d (scope_member scope (variables_of locals) path d s) in
      let i = t.is in
      subst (HeadTyped sig (context_of locals)) (sym b) (class_head_typed (context_of locals) c d d.class d.value t.class i.class_is i.value_fits)
  begins_typed locals path Unknown head c s b = absurd b
  begins_typed locals path Ambiguous head c s b = absurd b

  name_typed : (locals : Locals) (path : Path) (head : Head) (c : IsContext sig (context_of locals)) → NameStands scope locals path head → HeadTyped sig (context_of locals) head
  name_typed locals path head c n = begins_typed locals path n.resolved head c n.stands n.begins

  -- ---- expressions

  outcome_checks : (locals : Locals) (family : Family) (outcome object : Object) (c : IsContext sig (context_of locals)) → object ≡ expanded family outcome → HeadTyped sig (context_of locals) (ObjectHead outcome family) → Checks sig (context_of locals) object family
  outcome_checks locals family outcome object c e h = subst (λ z. Checks sig (context_of locals) z family) (sym e) (by h.0)
    where
      by : ObjectTyped sig (context_of locals) outcome family → Checks sig (context_of locals) (expanded family outcome) family
      by (inl g) = subst (λ z. Checks sig (context_of locals) z family) (sym (expanded_checked sig (context_of locals) outcome family g)) g
      by (inr g) = subst (λ z. Checks sig (context_of locals) (expanded family z) family) (sym g.1) (expanded_atomic_checks sig typed (context_of locals) c g.0 family g.2)

  mutual
    pub object_typed : (e : Expr) (locals : Locals) (family : Family) (object : Object) → IsContext sig (context_of locals) → IsFamily sig (context_of locals) family → StandsObject scope locals e family object → Checks sig (context_of locals) object family
    object_typed (TypeExpr span) locals family object c f s = absurd s
    object_typed (PiExpr span binder domain body) locals family object c f s = absurd s
    object_typed (ArrowExpr span domain body) locals family object c f s = absurd s
    object_typed (BackExpr span body domain) locals family object c f s = absurd s
    object_typed (LamExpr span binder body) locals family object c f s =
        let g : IsFamily sig (context_of locals) (Pi s.domain s.codomain) = subst (IsFamily sig (context_of locals)) s.family_is f in
        let h : Checks sig (context_of locals) (Lam s.body) (Pi s.domain s.codomain) = object_typed body (with_local binder s.domain locals) s.codomain s.body (c, g.0) g.1 s.stands in
        subst (Checks sig (context_of locals) object) (sym s.family_is) (subst (λ z. Checks sig (context_of locals) z (Pi s.domain s.codomain)) (sym s.object_is) h)
    object_typed (TypedLamExpr span binder domain body) locals family object c f s =
        let g : IsFamily sig (context_of locals) (Pi s.domain s.codomain) = subst (IsFamily sig (context_of locals)) s.family_is f in
        let h : Checks sig (context_of locals) (Lam s.body) (Pi s.domain s.codomain) = object_typed body (with_local binder s.domain locals) s.codomain s.body (c, g.0) g.1 s.stands in
        subst (Checks sig (context_of locals) object) (sym s.family_is) (subst (λ z. Checks sig (context_of locals) z (Pi s.domain s.codomain)) (sym s.object_is) h)
    object_typed (NameExpr span path) locals family object c f s = outcome_checks locals family s.outcome object c s.is (name_typed locals path (ObjectHead s.outcome family) c s.stands)
    object_typed (AppExpr span function arguments) locals family object c f s =
        let b = s.stands in outcome_checks locals family s.outcome object c s.is (arguments_typed arguments locals b.first (ObjectHead s.outcome family) c (head_typed function locals b.first c b.begins) b.takes)

    pub head_typed : (e : Expr) (locals : Locals) (head : Head) (c : IsContext sig (context_of locals)) → StandsHead scope locals e head → HeadTyped sig (context_of locals) head
    head_typed (NameExpr span path) locals head c s = name_typed locals path head c s
    head_typed (AppExpr span function arguments) locals head c s = arguments_typed arguments locals s.first head c (head_typed function locals s.first c s.begins) s.takes
    head_typed (LamExpr span binder body) locals head c s = absurd s
    head_typed (TypedLamExpr span binder domain body) locals head c s = absurd s
    head_typed (TypeExpr span) locals head c s = absurd s
    head_typed (PiExpr span binder domain body) locals head c s = absurd s
    head_typed (ArrowExpr span domain body) locals head c s = absurd s
    head_typed (BackExpr span body domain) locals head c s = absurd s

    pub arguments_typed : (xs : Exprs) (locals : Locals) (first head : Head) (c : IsContext sig (context_of locals)) → HeadTyped sig (context_of locals) first → StandsArguments scope locals xs first head → HeadTyped sig (context_of locals) head
    arguments_typed NoArgs locals first head c h s = subst (HeadTyped sig (context_of locals)) (sym s) h
    arguments_typed (ThenArg xs e) locals first head c h s =
        let g = arguments_typed xs locals first s.head c h s.is_before in
        let d = domain_typed sig typed (context_of locals) c s.head s.domain s.takes g in
        subst (HeadTyped sig (context_of locals)) (sym s.is) (head_taken sig typed (context_of locals) c s.head s.object s.domain s.takes g (object_typed e locals s.domain s.object c d s.stands))

    pub family_typed : (e : Expr) (locals : Locals) (family : Family) → IsContext sig (context_of locals) → StandsFamily scope locals e family → IsFamily sig (context_of locals) family
    family_typed (PiExpr span binder domain body) locals family c s =
        let a = family_typed domain locals s.domain c s.first in
        subst (IsFamily sig (context_of locals)) (sym s.is) (a, family_typed body (with_local binder s.domain locals) s.codomain (c, a) s.second)
    family_typed (ArrowExpr span domain body) locals family c s =
        let a = family_typed domain locals s.domain c s.first in
        subst (IsFamily sig (context_of locals)) (sym s.is) (a, family_typed body (with_local None s.domain locals) s.codomain (c, a) s.second)
    family_typed (BackExpr span body domain) locals family c s =
        let a = family_typed domain locals s.domain c s.first in
        subst (IsFamily sig (context_of locals)) (sym s.is) (a, family_typed body (with_local None s.domain locals) s.codomain (c, a) s.second)
    family_typed (TypeExpr span) locals family c s = absurd s
    family_typed (LamExpr span binder body) locals family c s = absurd s
    family_typed (TypedLamExpr span binder domain body) locals family c s = absurd s
    family_typed (NameExpr span path) locals family c s = family_whole sig (context_of locals) s.0 family (name_typed locals path (FamilyHead s.0 family Ty) c s.1).0
    family_typed (AppExpr span function arguments) locals family c s =
        let b = s.1 in family_whole sig (context_of locals) s.0 family (arguments_typed arguments locals b.first (FamilyHead s.0 family Ty) c (head_typed function locals b.first c b.begins) b.takes).0

  pub kind_typed : (e : Expr) (locals : Locals) (kind : Kind) → IsContext sig (context_of locals) → StandsKind scope locals e kind → IsKind sig (context_of locals) kind
  kind_typed (TypeExpr span) locals kind c s = subst (IsKind sig (context_of locals)) (sym s) tt
  kind_typed (PiExpr span binder domain body) locals kind c s =
      let a = family_typed domain locals s.domain c s.first in
      subst (IsKind sig (context_of locals)) (sym s.is) (a, kind_typed body (with_local binder s.domain locals) s.rest (c, a) s.second)
  kind_typed (ArrowExpr span domain body) locals kind c s =
      let a = family_typed domain locals s.domain c s.first in
      subst (IsKind sig (context_of locals)) (sym s.is) (a, kind_typed body (with_local None s.domain locals) s.rest (c, a) s.second)
  kind_typed (BackExpr span body domain) locals kind c s =
      let a = family_typed domain locals s.domain c s.first in
      subst (IsKind sig (context_of locals)) (sym s.is) (a, kind_typed body (with_local None s.domain locals) s.rest (c, a) s.second)
  kind_typed (NameExpr span path) locals kind c s = absurd s
  kind_typed (AppExpr span function arguments) locals kind c s = absurd s
  kind_typed (LamExpr span binder body) locals kind c s = absurd s
  kind_typed (TypedLamExpr span binder domain body) locals kind c s = absurd s

  pub class_typed : (e : Expr) (class : Class) → StandsClass scope e class → IsClass sig class
  class_typed e (FamilyClass family) s = family_typed e [] family tt s.1
  class_typed e (KindClass kind) s = kind_typed e [] kind tt s.1

  -- ---- values

  -- with as many binders as the kind has domains an outcome is left
  under_binders : (context : Context) (k : Kind) (n : ℕ) (outcome : Family) → n ≡ domain_count k → IsFamily sig (with_domains k context) outcome → IsFamily sig (with_domains k context) (expanded_family k n outcome)
  under_binders context k (suc n) outcome e h = h
  under_binders context k zero (Pi a b) e h = h
  under_binders context Ty zero (AtFamily p) e h = h
  under_binders context (PiKind a k) zero (AtFamily p) e h = absurd (cc)

  outcome_is_family : (locals : Locals) (kind : Kind) (binders : ℕ) (outcome family : Family) (c : IsContext sig (context_of locals)) → family ≡ expanded_family kind binders outcome → HeadTyped sig (context_of locals) (FamilyHead binders outcome kind)
      → IsFamily sig (with_domains kind (context_of locals)) family
  outcome_is_family locals kind binders outcome family c e h = subst (IsFamily sig (with_domains kind (context_of locals))) (sym e) (by h.0)
    where
      by : FamilyTyped sig (context_of locals) binders outcome kind → IsFamily sig (with_domains kind (context_of locals)) (expanded_family kind binders outcome)
      by (OnSpine p none q g) =
          subst₂ (λ n a. IsFamily sig (with_domains kind (context_of locals)) (expanded_family kind n a)) (sym none) (sym q) (eta_family_is_family sig typed (context_of locals) c p kind g)
      by (UnderBinders n g) = under_binders (context_of locals) kind binders outcome n g

  pub family_value_typed : (e : Expr) (locals : Locals) (kind : Kind) (family : Family) → IsContext sig (context_of locals) → IsKind sig (context_of locals) kind → StandsFamilyValue scope locals e kind family → IsFamily sig (with_domains kind (context_of locals)) family
  family_value_typed (LamExpr span binder body) locals kind family c k s =
      let g : IsKind sig (context_of locals) (PiKind s.domain s.rest) = subst (IsKind sig (context_of locals)) s.kind_is k in
      subst (λ z. IsFamily sig (with_domains z (context_of locals)) family) (sym s.kind_is) (family_value_typed body (with_local binder s.domain locals) s.rest family (c, g.0) g.1 s.stands)
  family_value_typed (TypedLamExpr span binder domain body) locals kind family c k s =
      let g : IsKind sig (context_of locals) (PiKind s.domain s.rest) = subst (IsKind sig (context_of locals)) s.kind_is k in
      subst (λ z. IsFamily sig (with_domains z (context_of locals)) family) (sym s.kind_is) (family_value_typed body (with_local binder s.domain locals) s.rest family (c, g.0) g.1 s.stands)
  family_value_typed (NameExpr span path) locals kind family c k s =
      outcome_is_family locals kind s.binders s.outcome family c s.is (name_typed locals path (FamilyHead s.binders s.outcome kind) c s.stands)
  family_value_typed (AppExpr span function arguments) locals kind family c k s =
      let b = s.stands in
      outcome_is_family locals kind s.binders s.outcome family c s.is (arguments_typed arguments locals b.first (FamilyHead s.binders s.outcome kind) c (head_typed function locals b.first c b.begins) b.takes)
  family_value_typed (TypeExpr span) locals kind family c k s = absurd s
  family_value_typed (PiExpr span binder domain body) locals kind family c k s = absurd s
  family_value_typed (ArrowExpr span domain body) locals kind family c k s = absurd s
  family_value_typed (BackExpr span body domain) locals kind family c k s = absurd s

  named_fits : (path : Path) (class : Class) (value : Value) → NameGives scope path class value → Fits sig value class
  named_fits path class value n =
      let t = knows n.declaration (scope_member scope [] path n.declaration n.stands) in
      let i = t.is in
      subst (Fits sig value) n.class_is (subst (λ v. Fits sig v n.declaration.class) (sym n.is) (own_value_fits n.declaration n.declaration.class n.declaration.value t.class i.value_fits))

  object_fits : (m : Object) (a : Family) → Checks sig [] m a → Fits sig (object_value m) (FamilyClass a)
  object_fits (Lam body) a h = h
  object_fits (At (Var i)) a h = h
  object_fits (At (Con c)) (Pi a b) h = absurd h
  object_fits (At (Con c)) (AtFamily p) h = h
  object_fits (At (App r m)) a h = h

  family_fits : (k : Kind) (n : ℕ) (body : Family) → n ≡ domain_count k → IsFamily sig (with_domains k []) body → Fits sig (family_value n body) (KindClass k)
  family_fits Ty zero (Pi a b) e h = (e, h)
  family_fits Ty zero (AtFamily (FamilyCon c)) e h = h
  family_fits Ty zero (AtFamily (FamilyApp p m)) e h = (e, h)
  family_fits (PiKind a k) zero body e h = absurd (cc)
  family_fits k (suc n) body e h = (e, h)

  built_fits : (e : Expr) (class : Class) (value : Value) → IsClass sig class → BuildsValue scope e class value → Fits sig value class
  built_fits e (FamilyClass family) value h b = subst (λ v. Fits sig v (FamilyClass family)) (sym b.2) (object_fits b.0 family (object_typed e [] family b.0 tt h b.1))
  built_fits e (KindClass kind) value h b = subst (λ v. Fits sig v (KindClass kind)) (sym b.2) (family_fits kind (domain_count kind) b.0 refl (family_value_typed e [] kind b.0 tt h b.1))

  pub value_fits : (e : Expr) (class : Class) (value : Value) → IsClass sig class → StandsValue scope e class value → Fits sig value class
  value_fits (NameExpr span path) class value h s = named_fits path class value s
  value_fits (TypeExpr span) class value h s = built_fits (TypeExpr span) class value h s
  value_fits (AppExpr span function arguments) class value h s = built_fits (AppExpr span function arguments) class value h s
  value_fits (PiExpr span binder domain body) class value h s = built_fits (PiExpr span binder domain body) class value h s
  value_fits (LamExpr span binder body) class value h s = built_fits (LamExpr span binder body) class value h s
  value_fits (TypedLamExpr span binder domain body) class value h s = built_fits (TypedLamExpr span binder domain body) class value h s
  value_fits (ArrowExpr span domain body) class value h s = built_fits (ArrowExpr span domain body) class value h s
  value_fits (BackExpr span body domain) class value h s = built_fits (BackExpr span body domain) class value h s

-- ---- the scope's own signature

pub scope_knows : (scope : Scope) → IsTypedScope scope → (d : Declaration) → Member d (scope_signature scope) → DeclaredTyped (scope_signature scope) d
scope_knows scope ok d m =
    let p = member_place (scope_signature scope) d m in
    let before : Signature = take p.0 (scope_signature scope) in
    let after : Signature = drop (suc p.0) (scope_signature scope) in
    let parts : scope_signature scope ≡ before ++ (d ∷ after) = split_at (scope_signature scope) p.0 d p.1 in
    let grown : Grows before (scope_signature scope) = (λ c class h. subst (λ z. class_of z c ≡ Some class) (sym parts) (class_more before (d ∷ after) c class h)) in
    record { class = class_in (scope_signature scope) ok.once p.0 d p.1; is = declaration_more before (scope_signature scope) grown d (ok.typed before d after parts) }

pub standing_object_checks : StandingObjectChecks
standing_object_checks scope locals e family object ok c f s = object_typed scope (scope_signature scope) ok.typed (scope_knows scope ok) e locals family object c f s

pub standing_head_is_typed : StandingHeadIsTyped
standing_head_is_typed scope locals e head ok c s = head_typed scope (scope_signature scope) ok.typed (scope_knows scope ok) e locals head c s

pub taken_arguments_are_typed : TakenArgumentsAreTyped
taken_arguments_are_typed scope locals xs first head ok c h s = arguments_typed scope (scope_signature scope) ok.typed (scope_knows scope ok) xs locals first head c h s

pub standing_family_is_family : StandingFamilyIsFamily
standing_family_is_family scope locals e family ok c s = family_typed scope (scope_signature scope) ok.typed (scope_knows scope ok) e locals family c s

pub standing_kind_is_kind : StandingKindIsKind
standing_kind_is_kind scope locals e kind ok c s = kind_typed scope (scope_signature scope) ok.typed (scope_knows scope ok) e locals kind c s

pub standing_class_is_class : StandingClassIsClass
standing_class_is_class scope e class ok s = class_typed scope (scope_signature scope) ok.typed (scope_knows scope ok) e class s

pub standing_family_value_is_family : StandingFamilyValueIsFamily
standing_family_value_is_family scope locals e kind body ok c k s = family_value_typed scope (scope_signature scope) ok.typed (scope_knows scope ok) e locals kind body c k s

pub standing_value_fits : StandingValueFits
standing_value_fits scope e class value ok h s = value_fits scope (scope_signature scope) ok.typed (scope_knows scope ok) e class value h s
