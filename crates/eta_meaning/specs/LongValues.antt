-- Long forms of values, and values that agree (this profile: values in links are compared by their long forms, which are those
-- of Harper and Licata 2007, section 2).
use Rattle.std.specs.Prelude.{◌≡◌}
use Rattle.lf_meaning.specs.Terms.{Constant, Con, Pi, AtFamily, FamilyCon, Ty, PiKind, domain_count}
use Rattle.lf_meaning.specs.Erasure.{erase}
use Rattle.lf_meaning.specs.Signatures.{Class, FamilyClass, KindClass, Value, SameAs, TermValue, FamilyValue}
use Rattle.eta_meaning.specs.LongTerms.{eta, eta_family}

-- The long form of "the same as d" at a class. At a Π it is an object, the long form of d at the erasure of the Π; at a kind
-- with domains it is a family with as many binders, d applied to the long forms of the variables of these domains. A class that
-- begins with no Π leaves it.
abbrev pub long_constant : Class → Constant → Value
long_constant (FamilyClass (Pi a b)) d = TermValue (eta (erase (Pi a b)) (Con d))
long_constant (FamilyClass (AtFamily p)) d = SameAs d
long_constant (KindClass (PiKind a k)) d = FamilyValue (domain_count (PiKind a k)) (AtFamily (eta_family (PiKind a k) (FamilyCon d)))
long_constant (KindClass Ty) d = SameAs d

-- The long form of a value at a class. An object and a family with binders are left: where they fit the class they are in long
-- form already.
abbrev pub long_value : Class → Value → Value
long_value class (SameAs d) = long_constant class d
long_value class (TermValue object) = TermValue object
long_value class (FamilyValue binders body) = FamilyValue binders body

-- Two values of one class agree where their long forms are equal.
abbrev pub Agree : Class → Value → Value → Type 0
Agree class first second = long_value class first ≡ long_value class second
