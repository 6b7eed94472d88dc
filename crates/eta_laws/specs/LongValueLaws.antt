-- Laws of long forms and of agreement (this profile).
use Rattle.std.specs.Prelude.{◌≡◌, ◌↔◌, ◌⊎◌}
use Rattle.lf_meaning.specs.Terms.{Pi, AtFamily, Constant, Object, Con, Family, AtomicFamily, Ty}
use Rattle.lf_meaning.specs.Erasure.{erase}
use Rattle.lf_meaning.specs.Signatures.{Class, FamilyClass, KindClass, Value, SameAs, TermValue, Signature}
use Rattle.lf_meaning.specs.Judgements.{IsSignature, Fits}
use Rattle.eta_meaning.specs.LongTerms.{eta}
use Rattle.eta_meaning.specs.LongValues.{long_value, Agree}

-- The long form of a value that fits a class fits it too.
abbrev pub LongValueFits : Type 0
LongValueFits = (sig : Signature) → IsSignature sig → (class : Class) (value : Value) → Fits sig value class → Fits sig (long_value class value) class

-- A long form is its own.
abbrev pub LongValueIsLong : Type 0
LongValueIsLong = (class : Class) (value : Value) → long_value class (long_value class value) ≡ long_value class value

-- Two values agree exactly where they are equal or one is the long form of the other.
abbrev pub AgreeIsEqualOrLong : Type 0
AgreeIsEqualOrLong = (class : Class) (first second : Value) → Agree class first second ↔ ((first ≡ second) ⊎ (second ≡ long_value class first) ⊎ (first ≡ long_value class second))

-- At an atomic family and at `type` two values agree exactly where they are equal.
abbrev pub AgreeAtAtoms : Type 0
AgreeAtAtoms = (p : AtomicFamily) (first second : Value) → Agree (FamilyClass (AtFamily p)) first second ↔ (first ≡ second)

abbrev pub AgreeAtType : Type 0
AgreeAtType = (first second : Value) → Agree (KindClass Ty) first second ↔ (first ≡ second)

-- At a Π a constant agrees with exactly one object, its long form.
abbrev pub ConstantAgrees : Type 0
ConstantAgrees = (a b : Family) (d : Constant) (object : Object) → Agree (FamilyClass (Pi a b)) (SameAs d) (TermValue object) ↔ (object ≡ eta (erase (Pi a b)) (Con d))

-- Two constants agree only where they are the same.
abbrev pub ConstantsAgree : Type 0
ConstantsAgree = (class : Class) (c d : Constant) → Agree class (SameAs c) (SameAs d) → c ≡ d
