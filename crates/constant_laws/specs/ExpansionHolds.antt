-- What stands holds only constants of the scope (this profile).
use Rattle.std.specs.Prelude.{◌≡◌, ℕ, ◌+◌, [], ◌∷◌, ◌++◌, length, slice_get, Some, ⊤}
use Rattle.lf_meaning.specs.Terms.{Object, Family, Kind, domain_count}
use Rattle.lf_meaning.specs.Signatures.{Class, Value, Declaration, Signature}
use Rattle.translation_meaning.specs.Heads.{Head}
use Rattle.library_meaning.specs.Faces.{own_parts}
use Rattle.library_meaning.specs.Resolution.{Scope}
use Rattle.library_meaning.specs.Holding.{ObjectHolds, FamilyHolds, KindHolds, ClassHolds, ValueHolds}
use Rattle.library_meaning.specs.Coherence.{DeclarationsHold}
use Rattle.text_meaning.specs.Trees.{Expr, Exprs}
use Rattle.elaborate_meaning.specs.Locals.{Locals}
use Rattle.translation_meaning.specs.AtomicFamilies.{IsAtomicFamily}
use Rattle.elaborate_meaning.specs.Stands.{StandsObject, StandsHead, StandsArguments, StandsFamily, StandsKind, StandsClass, StandsFamilyValue, StandsValue}
use Rattle.constant_laws.specs.HeadsHold.{HeadHolds}

-- The constants of a scope: those of the theories that are included, in order, and then the own ones.
abbrev pub scope_signature : Scope → Signature
scope_signature scope = own_parts scope.environment scope.includes ++ scope.own

-- Each name is declared once.
abbrev pub NamesOnce : Signature → Type 0
NamesOnce signature =
    (i j : ℕ) (declaration other : Declaration) → slice_get signature i ≡ Some declaration → slice_get signature j ≡ Some other → declaration.name ≡ other.name → i ≡ j

-- The scope's declarations hold only constants that stand before them, and have different names.
pub record ScopeHolds (scope : Scope) : Type 0 where
  pub declarations : DeclarationsHold (scope_signature scope)
  pub once : NamesOnce (scope_signature scope)

-- The family of each variable holds only those further out, and constants of the signature.
abbrev pub LocalsHold : Signature → Locals → Type 0
LocalsHold signature [] = ⊤
LocalsHold signature (own ∷ locals) = FamilyHolds signature (length locals) own.family × LocalsHold signature locals

-- An object that stands at a family which holds, holds.
abbrev pub StandingObjectHolds : Type 0
StandingObjectHolds =
    (scope : Scope) (locals : Locals) (expression : Expr) (family : Family) (object : Object) → ScopeHolds scope → LocalsHold (scope_signature scope) locals
    → FamilyHolds (scope_signature scope) (length locals) family → StandsObject scope locals expression family object
    → ObjectHolds (scope_signature scope) (length locals) object

-- A head that stands, holds.
abbrev pub StandingHeadHolds : Type 0
StandingHeadHolds =
    (scope : Scope) (locals : Locals) (expression : Expr) (head : Head) → ScopeHolds scope → LocalsHold (scope_signature scope) locals
    → StandsHead scope locals expression head → HeadHolds (scope_signature scope) (length locals) head

-- So does one that has taken arguments, where the first head does.
abbrev pub TakenArgumentsHold : Type 0
TakenArgumentsHold =
    (scope : Scope) (locals : Locals) (arguments : Exprs) (first head : Head) → ScopeHolds scope → LocalsHold (scope_signature scope) locals
    → HeadHolds (scope_signature scope) (length locals) first → StandsArguments scope locals arguments first head
    → HeadHolds (scope_signature scope) (length locals) head

-- A family that stands, holds.
abbrev pub StandingFamilyHolds : Type 0
StandingFamilyHolds =
    (scope : Scope) (locals : Locals) (expression : Expr) (family : Family) → ScopeHolds scope → LocalsHold (scope_signature scope) locals
    → StandsFamily scope locals expression family → FamilyHolds (scope_signature scope) (length locals) family

-- A kind that stands, holds.
abbrev pub StandingKindHolds : Type 0
StandingKindHolds =
    (scope : Scope) (locals : Locals) (expression : Expr) (kind : Kind) → ScopeHolds scope → LocalsHold (scope_signature scope) locals
    → StandsKind scope locals expression kind → KindHolds (scope_signature scope) (length locals) kind

-- A class that stands, holds.
abbrev pub StandingClassHolds : Type 0
StandingClassHolds =
    (scope : Scope) (expression : Expr) (class : Class) → ScopeHolds scope → StandsClass scope expression class → ClassHolds (scope_signature scope) class

-- The body of a family value that stands at a kind which holds, holds only the binders and the variables around them,
-- and is atomic.
abbrev pub StandingFamilyValueHolds : Type 0
StandingFamilyValueHolds =
    (scope : Scope) (locals : Locals) (expression : Expr) (kind : Kind) (body : Family) → ScopeHolds scope → LocalsHold (scope_signature scope) locals
    → KindHolds (scope_signature scope) (length locals) kind → StandsFamilyValue scope locals expression kind body
    → FamilyHolds (scope_signature scope) (length locals + domain_count kind) body × IsAtomicFamily body

-- A value that stands at a class which holds, holds.
abbrev pub StandingValueHolds : Type 0
StandingValueHolds =
    (scope : Scope) (expression : Expr) (class : Class) (value : Value) → ScopeHolds scope → ClassHolds (scope_signature scope) class
    → StandsValue scope expression class value → ValueHolds (scope_signature scope) class value
