-- What stands is well typed where the constants of the scope are (Harper and Licata 2007, section 2).
use Rattle.lf_meaning.specs.Terms.{Object, Family, Kind, with_domains}
use Rattle.lf_meaning.specs.Signatures.{Class, Value}
use Rattle.lf_meaning.specs.Judgements.{Checks, IsFamily, IsKind, IsContext, IsClass, Fits, IsSignature}
use Rattle.translation_meaning.specs.Heads.{Head}
use Rattle.library_meaning.specs.Resolution.{Scope}
use Rattle.text_meaning.specs.Trees.{Expr, Exprs}
use Rattle.elaborate_meaning.specs.Locals.{Locals, context_of}
use Rattle.elaborate_meaning.specs.Stands.{StandsObject, StandsHead, StandsArguments, StandsFamily, StandsKind, StandsClass, StandsFamilyValue, StandsValue}
use Rattle.constant_laws.specs.ExpansionHolds.{scope_signature, NamesOnce}
use Rattle.elaborate_typing.specs.TypingOfHeads.{HeadTyped}

-- The signature of the scope is well typed, and declares each name once.
pub record IsTypedScope (scope : Scope) : Type 0 where
  pub typed : IsSignature (scope_signature scope)
  pub once : NamesOnce (scope_signature scope)

-- An object that stands at a family checks against it.
abbrev pub StandingObjectChecks : Type 0
StandingObjectChecks =
    (scope : Scope) (locals : Locals) (expression : Expr) (family : Family) (object : Object) → IsTypedScope scope
    → IsContext (scope_signature scope) (context_of locals) → IsFamily (scope_signature scope) (context_of locals) family
    → StandsObject scope locals expression family object → Checks (scope_signature scope) (context_of locals) object family

-- A head that stands is well typed.
abbrev pub StandingHeadIsTyped : Type 0
StandingHeadIsTyped =
    (scope : Scope) (locals : Locals) (expression : Expr) (head : Head) → IsTypedScope scope
    → IsContext (scope_signature scope) (context_of locals) → StandsHead scope locals expression head
    → HeadTyped (scope_signature scope) (context_of locals) head

-- So is one that has taken arguments, where the first head is.
abbrev pub TakenArgumentsAreTyped : Type 0
TakenArgumentsAreTyped =
    (scope : Scope) (locals : Locals) (arguments : Exprs) (first head : Head) → IsTypedScope scope
    → IsContext (scope_signature scope) (context_of locals) → HeadTyped (scope_signature scope) (context_of locals) first
    → StandsArguments scope locals arguments first head → HeadTyped (scope_signature scope) (context_of locals) head

-- A family that stands is one.
abbrev pub StandingFamilyIsFamily : Type 0
StandingFamilyIsFamily =
    (scope : Scope) (locals : Locals) (expression : Expr) (family : Family) → IsTypedScope scope
    → IsContext (scope_signature scope) (context_of locals) → StandsFamily scope locals expression family
    → IsFamily (scope_signature scope) (context_of locals) family

-- A kind that stands is one.
abbrev pub StandingKindIsKind : Type 0
StandingKindIsKind =
    (scope : Scope) (locals : Locals) (expression : Expr) (kind : Kind) → IsTypedScope scope
    → IsContext (scope_signature scope) (context_of locals) → StandsKind scope locals expression kind
    → IsKind (scope_signature scope) (context_of locals) kind

-- A class that stands is one.
abbrev pub StandingClassIsClass : Type 0
StandingClassIsClass = (scope : Scope) (expression : Expr) (class : Class) → IsTypedScope scope → StandsClass scope expression class → IsClass (scope_signature scope) class

-- The body of a family value that stands at a kind is a family behind the domains of the kind.
abbrev pub StandingFamilyValueIsFamily : Type 0
StandingFamilyValueIsFamily =
    (scope : Scope) (locals : Locals) (expression : Expr) (kind : Kind) (body : Family) → IsTypedScope scope
    → IsContext (scope_signature scope) (context_of locals) → IsKind (scope_signature scope) (context_of locals) kind
    → StandsFamilyValue scope locals expression kind body → IsFamily (scope_signature scope) (with_domains kind (context_of locals)) body

-- A value that stands at a class fits it.
abbrev pub StandingValueFits : Type 0
StandingValueFits =
    (scope : Scope) (expression : Expr) (class : Class) (value : Value) → IsTypedScope scope → IsClass (scope_signature scope) class
    → StandsValue scope expression class value → Fits (scope_signature scope) value class
