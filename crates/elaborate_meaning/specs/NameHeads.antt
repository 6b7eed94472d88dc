-- What a written name begins as: a constant with a value begins as that value, any other head as itself (this profile).
use Rattle.std.specs.Prelude.{ℕ, zero, Bool, true, false, Option, Some, None, Ok}
use Rattle.library_meaning.specs.Below.Terms.{Constant, At, Var, Con, Family, AtFamily, FamilyCon, Kind}
use Rattle.name_meaning.specs.Names.{Path}
use Rattle.library_meaning.specs.Below.Signatures.{Class, FamilyClass, KindClass, Value, SameAs, TermValue, FamilyValue, Declaration}
use Rattle.library_meaning.specs.Below.Heads.{Head, ObjectHead, FamilyHead}
use Rattle.library_meaning.specs.Resolution.{Scope, Resolved, Variable, Declared, Unknown, Ambiguous, resolve}
use Rattle.text_meaning.specs.Tokens.{Span}
use Rattle.elaborate_meaning.specs.Rules.{Rule}
use Rattle.elaborate_meaning.specs.Answers.{Answer, broken, must}
use Rattle.answer_meaning.specs.Answers.{◌>>=◌}
use Rattle.elaborate_meaning.specs.Locals.{Locals, variables_of, family_at}

-- An object constant of this family. A value of another level leaves the constant: no coherent scope has one.
abbrev pub object_head : Constant → Family → Option Value → Head
object_head constant family None = ObjectHead (At (Con constant)) family
object_head constant family (Some (SameAs other)) = ObjectHead (At (Con other)) family
object_head constant family (Some (TermValue object)) = ObjectHead object family
object_head constant family (Some (FamilyValue binders body)) = ObjectHead (At (Con constant)) family

-- A family constant of this kind.
abbrev pub family_head : Constant → Kind → Option Value → Head
family_head constant kind None = FamilyHead zero (AtFamily (FamilyCon constant)) kind
family_head constant kind (Some (SameAs other)) = FamilyHead zero (AtFamily (FamilyCon other)) kind
family_head constant kind (Some (TermValue object)) = FamilyHead zero (AtFamily (FamilyCon constant)) kind
family_head constant kind (Some (FamilyValue binders body)) = FamilyHead binders body kind

-- A constant of this class.
abbrev pub class_head : Constant → Class → Option Value → Head
class_head constant (FamilyClass family) value = object_head constant family value
class_head constant (KindClass kind) value = family_head constant kind value

-- What a declared constant begins as.
abbrev pub declared_head : Declaration → Head
declared_head declaration = class_head declaration.name declaration.class declaration.value

-- Objects and families are the two levels of heads.
pub data Level : Type 0 where
  Objects : Level
  Families : Level

-- The level of a head.
abbrev pub level_of : Head → Level
level_of (ObjectHead object classifier) = Objects
level_of (FamilyHead binders family kind) = Families

-- The two levels are one.
abbrev pub same_level : Level → Level → Bool
same_level Objects Objects = true
same_level Objects Families = false
same_level Families Objects = false
same_level Families Families = true

-- A variable with its family. One past the context is unknown: no name is resolved to it.
abbrev pub variable_head : ℕ → Option Family → Span → Answer Head
variable_head index None span = broken span Rule.UnknownName
variable_head index (Some family) span = Ok (ObjectHead (At (Var index)) family)

-- What a name that is resolved begins as, or that it is unknown or ambiguous.
abbrev pub resolved_head : Locals → Span → Resolved → Answer Head
resolved_head locals span (Variable index) = variable_head index (family_at locals index) span
resolved_head locals span (Declared declaration) = Ok (declared_head declaration)
resolved_head locals span Unknown = broken span Rule.UnknownName
resolved_head locals span Ambiguous = broken span Rule.AmbiguousName

-- What a name begins as where something of this level is wanted.
unfoldable pub name_head : Level → Scope → Locals → Span → Path → Answer Head
name_head level scope locals span path = do
  head ← resolved_head locals span (resolve scope (variables_of locals) path)
  _ ← must (same_level (level_of head) level) span Rule.Level
  Ok head
