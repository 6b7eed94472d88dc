-- Laws of expansion: what the functions answer is what the relations say, and there is at most one (this profile).
use Rattle.std.specs.Prelude.{◌≡◌, ◌↔◌, Ok}
use Rattle.lf_meaning.specs.Terms.{Object, Family, Kind}
use Rattle.lf_meaning.specs.Signatures.{Class, Value}
use Rattle.translation_meaning.specs.Heads.{Head}
use Rattle.library_meaning.specs.Resolution.{Scope}
use Rattle.text_meaning.specs.Trees.{Expr, Exprs}
use Rattle.elaborate_meaning.specs.Locals.{Locals}
use Rattle.elaborate_meaning.specs.NameHeads.{Level, level_of}
use Rattle.elaborate_meaning.specs.Expansion.{expand_object, expand_head, expand_arguments, expand_family, expand_kind}
use Rattle.elaborate_meaning.specs.Values.{expand_class, expand_family_value, expand_value}
use Rattle.elaborate_meaning.specs.Stands.{StandsObject, StandsHead, StandsArguments, StandsFamily, StandsKind, StandsClass, StandsFamilyValue, StandsValue}

-- An object is answered exactly where it stands.
abbrev pub ObjectsStand : Type 0
ObjectsStand =
    (scope : Scope) (locals : Locals) (expression : Expr) (family : Family) (object : Object)
    → (expand_object scope locals expression family ≡ Ok object) ↔ StandsObject scope locals expression family object

-- A head of the wanted level is answered exactly where it stands.
abbrev pub HeadsStand : Type 0
HeadsStand =
    (level : Level) (scope : Scope) (locals : Locals) (expression : Expr) (head : Head)
    → (expand_head level scope locals expression ≡ Ok head) ↔ (StandsHead scope locals expression head × (level_of head ≡ level))

-- A head is answered for arguments exactly where it has taken them.
abbrev pub ArgumentsStand : Type 0
ArgumentsStand =
    (scope : Scope) (locals : Locals) (arguments : Exprs) (first head : Head)
    → (expand_arguments scope locals arguments first ≡ Ok head) ↔ StandsArguments scope locals arguments first head

-- A family is answered exactly where it stands.
abbrev pub FamiliesStand : Type 0
FamiliesStand =
    (scope : Scope) (locals : Locals) (expression : Expr) (family : Family)
    → (expand_family scope locals expression ≡ Ok family) ↔ StandsFamily scope locals expression family

-- A kind is answered exactly where it stands.
abbrev pub KindsStand : Type 0
KindsStand =
    (scope : Scope) (locals : Locals) (expression : Expr) (kind : Kind)
    → (expand_kind scope locals expression ≡ Ok kind) ↔ StandsKind scope locals expression kind

-- A class is answered exactly where it stands.
abbrev pub ClassesStand : Type 0
ClassesStand =
    (scope : Scope) (expression : Expr) (class : Class) → (expand_class scope expression ≡ Ok class) ↔ StandsClass scope expression class

-- The body of a family value is answered exactly where it stands.
abbrev pub FamilyValuesStand : Type 0
FamilyValuesStand =
    (scope : Scope) (locals : Locals) (expression : Expr) (kind : Kind) (body : Family)
    → (expand_family_value scope locals expression kind ≡ Ok body) ↔ StandsFamilyValue scope locals expression kind body

-- A value is answered exactly where it stands.
abbrev pub ValuesStand : Type 0
ValuesStand =
    (scope : Scope) (expression : Expr) (class : Class) (value : Value)
    → (expand_value scope expression class ≡ Ok value) ↔ StandsValue scope expression class value

-- At most one term stands.
abbrev pub OneObject : Type 0
OneObject =
    (scope : Scope) (locals : Locals) (expression : Expr) (family : Family) (object other : Object)
    → StandsObject scope locals expression family object → StandsObject scope locals expression family other → object ≡ other

-- At most one head stands, an object or a family.
abbrev pub OneHead : Type 0
OneHead =
    (scope : Scope) (locals : Locals) (expression : Expr) (head other : Head)
    → StandsHead scope locals expression head → StandsHead scope locals expression other → head ≡ other

-- A head becomes at most one head by the arguments.
abbrev pub OneHeadTaken : Type 0
OneHeadTaken =
    (scope : Scope) (locals : Locals) (arguments : Exprs) (first head other : Head)
    → StandsArguments scope locals arguments first head → StandsArguments scope locals arguments first other → head ≡ other

-- At most one family stands.
abbrev pub OneFamily : Type 0
OneFamily =
    (scope : Scope) (locals : Locals) (expression : Expr) (family other : Family)
    → StandsFamily scope locals expression family → StandsFamily scope locals expression other → family ≡ other

-- At most one kind stands.
abbrev pub OneKind : Type 0
OneKind =
    (scope : Scope) (locals : Locals) (expression : Expr) (kind other : Kind)
    → StandsKind scope locals expression kind → StandsKind scope locals expression other → kind ≡ other

-- At most one class stands.
abbrev pub OneClass : Type 0
OneClass =
    (scope : Scope) (expression : Expr) (class other : Class) → StandsClass scope expression class → StandsClass scope expression other → class ≡ other

-- At most one body of a family value stands.
abbrev pub OneFamilyValue : Type 0
OneFamilyValue =
    (scope : Scope) (locals : Locals) (expression : Expr) (kind : Kind) (body other : Family)
    → StandsFamilyValue scope locals expression kind body → StandsFamilyValue scope locals expression kind other → body ≡ other

-- At most one value stands.
abbrev pub OneValue : Type 0
OneValue =
    (scope : Scope) (expression : Expr) (class : Class) (value other : Value)
    → StandsValue scope expression class value → StandsValue scope expression class other → value ≡ other
