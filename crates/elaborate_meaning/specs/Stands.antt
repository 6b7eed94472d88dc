-- What a written expression stands for, as relations: one case for each form of expression, and one argument for each case
-- (this profile; heads take arguments, and atomic objects have long forms, as in Harper and Licata 2007, section 2).
use Rattle.std.specs.Prelude.{◌≡◌, ℕ, Some, None, true, false, [], ⊤}
use Rattle.name_meaning.specs.Names.{Path}
use Rattle.library_meaning.specs.Below.Terms.{Object, Lam, At, Var, Family, Pi, Kind, Ty, PiKind, domain_count}
use Rattle.library_meaning.specs.Below.Signatures.{Class, FamilyClass, KindClass, Value, Declaration}
use Rattle.library_meaning.specs.Below.LongTerms.{expanded}
use Rattle.library_meaning.specs.Below.Heads.{Head, ObjectHead, FamilyHead, head_takes}
use Rattle.library_meaning.specs.Below.Translation.{object_value, family_value}
use Rattle.library_meaning.specs.Resolution.{Scope, Resolved, Variable, Declared, Unknown, Ambiguous}
use Rattle.library_meaning.specs.StandsFor.{StandsFor}
use Rattle.library_meaning.specs.Words.{own_value}
use Rattle.text_meaning.specs.Trees.{Expr, TypeExpr, NameExpr, AppExpr, PiExpr, LamExpr, TypedLamExpr, ArrowExpr, BackExpr, Exprs, NoArgs, ThenArg}
use Rattle.elaborate_meaning.specs.Locals.{Locals, with_local, variables_of, family_at}
use Rattle.elaborate_meaning.specs.NameHeads.{declared_head}
use Rattle.elaborate_meaning.specs.Expansion.{domain_of}
use Rattle.elaborate_meaning.specs.Values.{ends_in_type, expanded_family}

-- A variable begins as itself at its family; a declared constant as its value or as itself.
abbrev pub BeginsAs : Locals → Resolved → Head → Type 0
BeginsAs locals (Variable index) head = (family : Family) × (family_at locals index ≡ Some family) × (head ≡ ObjectHead (At (Var index)) family)
BeginsAs locals (Declared declaration) head = head ≡ declared_head declaration
BeginsAs locals Unknown head = ⊥
BeginsAs locals Ambiguous head = ⊥

-- The name stands for something that begins as this head.
pub record NameStands (scope : Scope) (locals : Locals) (path : Path) (head : Head) : Type 0 where
  pub resolved : Resolved
  pub stands : StandsFor scope (variables_of locals) path resolved
  pub begins : BeginsAs locals resolved head

-- A λ stands at a Π for a λ; its written domain, if there is one, for the domain of the Π.
pub record LambdaStands (written : Family → Type 0) (body_stands : Family → Family → Object → Type 0) (family : Family) (object : Object) : Type 0 where
  pub domain : Family
  pub codomain : Family
  pub body : Object
  pub family_is : family ≡ Pi domain codomain
  pub object_is : object ≡ Lam body
  pub domain_stands : written domain
  pub stands : body_stands domain codomain body

-- A function, which begins as some head, takes arguments and becomes this head.
pub record ApplicationStands (function : Head → Type 0) (arguments : Head → Head → Type 0) (head : Head) : Type 0 where
  pub first : Head
  pub begins : function first
  pub takes : arguments first head

-- A head takes one more argument, which stands for an object at the domain of the classifier so far.
pub record ArgumentTaken (before : Head → Type 0) (argument : Family → Object → Type 0) (after : Head) : Type 0 where
  pub head : Head
  pub domain : Family
  pub object : Object
  pub is_before : before head
  pub takes : domain_of head ≡ Some domain
  pub stands : argument domain object
  pub is : after ≡ head_takes head object

-- A product stands for the Π of what its domain stands for, and its body behind that.
pub record ProductStands (domain_stands : Family → Type 0) (body_stands : Family → Family → Type 0) (family : Family) : Type 0 where
  pub domain : Family
  pub codomain : Family
  pub is : family ≡ Pi domain codomain
  pub first : domain_stands domain
  pub second : body_stands domain codomain

-- A name or an application comes out as some object with this family for its classifier, which stands for this object there.
pub record OutcomeStands (stands_as : Head → Type 0) (family : Family) (object : Object) : Type 0 where
  pub outcome : Object
  pub stands : stands_as (ObjectHead outcome family)
  pub is : object ≡ expanded family outcome

-- Some family head is this family at `type`.
abbrev pub IsFamilyHead : (Head → Type 0) → Family → Type 0
IsFamilyHead stands family = (binders : ℕ) × stands (FamilyHead binders family Ty)

abbrev mutual
  -- The expression stands for the object at the family, in a scope and behind some variables.
  pub StandsObject : Scope → Locals → Expr → Family → Object → Type 0
  StandsObject scope locals (TypeExpr span) family object = ⊥
  StandsObject scope locals (PiExpr span binder domain body) family object = ⊥
  StandsObject scope locals (ArrowExpr span domain body) family object = ⊥
  StandsObject scope locals (BackExpr span body domain) family object = ⊥
  StandsObject scope locals (LamExpr span binder body) family object =
      LambdaStands (λ written. ⊤) (λ first codomain inner. StandsObject scope (with_local binder first locals) body codomain inner) family object
  StandsObject scope locals (TypedLamExpr span binder domain body) family object =
      LambdaStands (StandsFamily scope locals domain) (λ first codomain inner. StandsObject scope (with_local binder first locals) body codomain inner) family object
  StandsObject scope locals (NameExpr span path) family object = OutcomeStands (NameStands scope locals path) family object
  StandsObject scope locals (AppExpr span function arguments) family object =
      OutcomeStands (ApplicationStands (StandsHead scope locals function) (StandsArguments scope locals arguments)) family object

  -- A name, or a name with arguments, stands for what has become this head.
  pub StandsHead : Scope → Locals → Expr → Head → Type 0
  StandsHead scope locals (NameExpr span path) head = NameStands scope locals path head
  StandsHead scope locals (AppExpr span function arguments) head =
      ApplicationStands (StandsHead scope locals function) (StandsArguments scope locals arguments) head
  StandsHead scope locals (LamExpr span binder body) head = ⊥
  StandsHead scope locals (TypedLamExpr span binder domain body) head = ⊥
  StandsHead scope locals (TypeExpr span) head = ⊥
  StandsHead scope locals (PiExpr span binder domain body) head = ⊥
  StandsHead scope locals (ArrowExpr span domain body) head = ⊥
  StandsHead scope locals (BackExpr span body domain) head = ⊥

  -- The first head takes the arguments, from left to right, and becomes the second.
  pub StandsArguments : Scope → Locals → Exprs → Head → Head → Type 0
  StandsArguments scope locals NoArgs first head = head ≡ first
  StandsArguments scope locals (ThenArg arguments argument) first head =
      ArgumentTaken (StandsArguments scope locals arguments first) (StandsObject scope locals argument) head

  -- The expression stands for the family.
  pub StandsFamily : Scope → Locals → Expr → Family → Type 0
  StandsFamily scope locals (PiExpr span binder domain body) family =
      ProductStands (StandsFamily scope locals domain) (λ first second. StandsFamily scope (with_local binder first locals) body second) family
  StandsFamily scope locals (ArrowExpr span domain body) family =
      ProductStands (StandsFamily scope locals domain) (λ first second. StandsFamily scope (with_local None first locals) body second) family
  StandsFamily scope locals (BackExpr span body domain) family =
      ProductStands (StandsFamily scope locals domain) (λ first second. StandsFamily scope (with_local None first locals) body second) family
  StandsFamily scope locals (TypeExpr span) family = ⊥
  StandsFamily scope locals (LamExpr span binder body) family = ⊥
  StandsFamily scope locals (TypedLamExpr span binder domain body) family = ⊥
  StandsFamily scope locals (NameExpr span path) family = IsFamilyHead (NameStands scope locals path) family
  StandsFamily scope locals (AppExpr span function arguments) family =
      IsFamilyHead (ApplicationStands (StandsHead scope locals function) (StandsArguments scope locals arguments)) family

-- A product stands for the Π kind of what its domain stands for, and its body behind that.
pub record KindProductStands (domain_stands : Family → Type 0) (body_stands : Family → Kind → Type 0) (kind : Kind) : Type 0 where
  pub domain : Family
  pub rest : Kind
  pub is : kind ≡ PiKind domain rest
  pub first : domain_stands domain
  pub second : body_stands domain rest

-- The expression stands for the kind.
abbrev pub StandsKind : Scope → Locals → Expr → Kind → Type 0
StandsKind scope locals (TypeExpr span) kind = kind ≡ Ty
StandsKind scope locals (PiExpr span binder domain body) kind =
    KindProductStands (StandsFamily scope locals domain) (λ first rest. StandsKind scope (with_local binder first locals) body rest) kind
StandsKind scope locals (ArrowExpr span domain body) kind =
    KindProductStands (StandsFamily scope locals domain) (λ first rest. StandsKind scope (with_local None first locals) body rest) kind
StandsKind scope locals (BackExpr span body domain) kind =
    KindProductStands (StandsFamily scope locals domain) (λ first rest. StandsKind scope (with_local None first locals) body rest) kind
StandsKind scope locals (NameExpr span path) kind = ⊥
StandsKind scope locals (AppExpr span function arguments) kind = ⊥
StandsKind scope locals (LamExpr span binder body) kind = ⊥
StandsKind scope locals (TypedLamExpr span binder domain body) kind = ⊥

-- The expression stands for the class: a kind where it ends in `type`, else a family.
abbrev pub StandsClass : Scope → Expr → Class → Type 0
StandsClass scope expression (KindClass kind) = (ends_in_type expression ≡ true) × StandsKind scope [] expression kind
StandsClass scope expression (FamilyClass family) = (ends_in_type expression ≡ false) × StandsFamily scope [] expression family

-- A λ stands at a Π kind for what its body stands for at the kind behind it.
pub record FamilyLambdaStands (written : Family → Type 0) (body_stands : Family → Kind → Family → Type 0) (kind : Kind) (family : Family) : Type 0 where
  pub domain : Family
  pub rest : Kind
  pub kind_is : kind ≡ PiKind domain rest
  pub domain_stands : written domain
  pub stands : body_stands domain rest family

-- A name or an application comes out as some family that has this kind left, which stands for this body there.
pub record FamilyOutcomeStands (stands_as : Head → Type 0) (kind : Kind) (family : Family) : Type 0 where
  pub binders : ℕ
  pub outcome : Family
  pub stands : stands_as (FamilyHead binders outcome kind)
  pub is : family ≡ expanded_family kind binders outcome

-- The expression stands for a family value of the kind, with this body.
abbrev pub StandsFamilyValue : Scope → Locals → Expr → Kind → Family → Type 0
StandsFamilyValue scope locals (LamExpr span binder body) kind family =
    FamilyLambdaStands (λ written. ⊤) (λ first rest inner. StandsFamilyValue scope (with_local binder first locals) body rest inner) kind family
StandsFamilyValue scope locals (TypedLamExpr span binder domain body) kind family =
    FamilyLambdaStands (StandsFamily scope locals domain) (λ first rest inner. StandsFamilyValue scope (with_local binder first locals) body rest inner) kind family
StandsFamilyValue scope locals (NameExpr span path) kind family = FamilyOutcomeStands (NameStands scope locals path) kind family
StandsFamilyValue scope locals (AppExpr span function arguments) kind family =
    FamilyOutcomeStands (ApplicationStands (StandsHead scope locals function) (StandsArguments scope locals arguments)) kind family
StandsFamilyValue scope locals (TypeExpr span) kind family = ⊥
StandsFamilyValue scope locals (PiExpr span binder domain body) kind family = ⊥
StandsFamilyValue scope locals (ArrowExpr span domain body) kind family = ⊥
StandsFamilyValue scope locals (BackExpr span body domain) kind family = ⊥

-- One name gives the value of the declaration that it stands for, whose class is just this one: an undefined constant
-- itself, a defined one its value.
pub record NameGives (scope : Scope) (path : Path) (class : Class) (value : Value) : Type 0 where
  pub declaration : Declaration
  pub stands : StandsFor scope [] path (Declared declaration)
  pub class_is : declaration.class ≡ class
  pub is : value ≡ own_value declaration declaration.value

-- Another expression gives the object that it stands for at a family, or the family with so many binders as the kind
-- has domains; where that is a bare constant, the same as that.
abbrev pub BuildsValue : Scope → Expr → Class → Value → Type 0
BuildsValue scope expression (FamilyClass family) value = (object : Object) × StandsObject scope [] expression family object × (value ≡ object_value object)
BuildsValue scope expression (KindClass kind) value =
    (body : Family) × StandsFamilyValue scope [] expression kind body × (value ≡ family_value (domain_count kind) body)

-- The expression stands for the value at the class.
abbrev pub StandsValue : Scope → Expr → Class → Value → Type 0
StandsValue scope (NameExpr span path) class value = NameGives scope path class value
StandsValue scope (TypeExpr span) class value = BuildsValue scope (TypeExpr span) class value
StandsValue scope (AppExpr span function arguments) class value = BuildsValue scope (AppExpr span function arguments) class value
StandsValue scope (PiExpr span binder domain body) class value = BuildsValue scope (PiExpr span binder domain body) class value
StandsValue scope (LamExpr span binder body) class value = BuildsValue scope (LamExpr span binder body) class value
StandsValue scope (TypedLamExpr span binder domain body) class value = BuildsValue scope (TypedLamExpr span binder domain body) class value
StandsValue scope (ArrowExpr span domain body) class value = BuildsValue scope (ArrowExpr span domain body) class value
StandsValue scope (BackExpr span body domain) class value = BuildsValue scope (BackExpr span body domain) class value
