-- Which constants and variables a term holds, and whether each stands at its level (this profile). Nothing is asked of types:
-- it is what the operations on terms need so that no step of them is a misfit of levels.
use Rattle.std.specs.Prelude.{◌≡◌, ℕ, suc, ◌<◌, Some, None, Option, ⊤}
use Rattle.translation_meaning.specs.Below.Terms.{Constant, Object, Lam, At, Atomic, Var, Con, App, Family, Pi, AtFamily, AtomicFamily, FamilyCon, FamilyApp, Kind, Ty, PiKind, family_argument_count, domain_count}
use Rattle.translation_meaning.specs.Below.Erasure.{head_constant}
use Rattle.translation_meaning.specs.Below.Signatures.{Class, FamilyClass, KindClass, Value, SameAs, TermValue, FamilyValue, Signature, class_of}
use Rattle.translation_meaning.specs.ProperValues.{IsNoConstant, IsValueBody}

-- The constant is one of objects.
abbrev pub IsObjectConstant : Signature → Constant → Type 0
IsObjectConstant signature constant = (family : Family) × (class_of signature constant ≡ Some (FamilyClass family))

-- The constant is one of families, with so many domains.
abbrev pub IsFamilyConstant : Signature → Constant → ℕ → Type 0
IsFamilyConstant signature constant domains = (kind : Kind) × (class_of signature constant ≡ Some (KindClass kind)) × (domain_count kind ≡ domains)

-- With so many variables around it, the object holds only these, and constants of objects of the signature.
abbrev mutual
  pub ObjectHolds : Signature → ℕ → Object → Type 0
  ObjectHolds signature variables (Lam body) = ObjectHolds signature (suc variables) body
  ObjectHolds signature variables (At r) = AtomicHolds signature variables r

  pub AtomicHolds : Signature → ℕ → Atomic → Type 0
  AtomicHolds signature variables (Var index) = index < variables
  AtomicHolds signature variables (Con constant) = IsObjectConstant signature constant
  AtomicHolds signature variables (App r argument) = AtomicHolds signature variables r × ObjectHolds signature variables argument

-- The arguments of an atomic family hold only these.
abbrev pub ArgumentsHold : Signature → ℕ → AtomicFamily → Type 0
ArgumentsHold signature variables (FamilyCon constant) = ⊤
ArgumentsHold signature variables (FamilyApp p argument) = ArgumentsHold signature variables p × ObjectHolds signature variables argument

-- So does a family, at the head of which a constant of families has as many arguments as its kind has domains.
abbrev pub FamilyHolds : Signature → ℕ → Family → Type 0
FamilyHolds signature variables (Pi domain body) = FamilyHolds signature variables domain × FamilyHolds signature (suc variables) body
FamilyHolds signature variables (AtFamily p) = IsFamilyConstant signature (head_constant p) (family_argument_count p) × ArgumentsHold signature variables p

abbrev pub KindHolds : Signature → ℕ → Kind → Type 0
KindHolds signature variables Ty = ⊤
KindHolds signature variables (PiKind domain kind) = FamilyHolds signature variables domain × KindHolds signature (suc variables) kind

-- A closed class.
abbrev pub ClassHolds : Signature → Class → Type 0
ClassHolds signature (FamilyClass family) = FamilyHolds signature 0 family
ClassHolds signature (KindClass kind) = KindHolds signature 0 kind

-- The constant has the level of the class and, where that is a kind, as many domains.
abbrev pub SameLevel : Signature → Constant → Class → Type 0
SameLevel signature constant (FamilyClass family) = IsObjectConstant signature constant
SameLevel signature constant (KindClass kind) = IsFamilyConstant signature constant (domain_count kind)

-- A closed value of the level of its class. A family value has as many binders as the kind has domains.
abbrev pub ValueHolds : Signature → Class → Value → Type 0
ValueHolds signature class (SameAs constant) = SameLevel signature constant class
ValueHolds signature (FamilyClass family) (TermValue object) = ObjectHolds signature 0 object × IsNoConstant object
ValueHolds signature (KindClass kind) (TermValue object) = ⊥
ValueHolds signature (FamilyClass family) (FamilyValue binders body) = ⊥
ValueHolds signature (KindClass kind) (FamilyValue binders body) = (binders ≡ domain_count kind) × FamilyHolds signature binders body × IsValueBody binders body

abbrev pub OptionalValueHolds : Signature → Class → Option Value → Type 0
OptionalValueHolds signature class None = ⊤
OptionalValueHolds signature class (Some value) = ValueHolds signature class value

-- Two classes are of one level and, where they are kinds, have as many domains.
abbrev pub AlikeClasses : Class → Class → Type 0
AlikeClasses (FamilyClass family) (FamilyClass other) = ⊤
AlikeClasses (FamilyClass family) (KindClass other) = ⊥
AlikeClasses (KindClass kind) (FamilyClass other) = ⊥
AlikeClasses (KindClass kind) (KindClass other) = domain_count kind ≡ domain_count other
