-- The tests of equality decide it.
use Rattle.std.specs.Prelude.{◌≡◌, Decides}
use Rattle.lf_meaning.specs.Terms.{Constant, Object, Atomic, Family, Kind}
use Rattle.lf_meaning.specs.Signatures.{same_constant, Class, Value}
use Rattle.lf_meaning.specs.Equality.{same_object, same_atomic, same_family, same_kind, same_class, same_value}

abbrev pub SameConstantDecides : Type 0
SameConstantDecides = (c d : Constant) → Decides (same_constant c d) (c ≡ d)

abbrev pub SameObjectDecides : Type 0
SameObjectDecides = (m n : Object) → Decides (same_object m n) (m ≡ n)

abbrev pub SameAtomicDecides : Type 0
SameAtomicDecides = (r s : Atomic) → Decides (same_atomic r s) (r ≡ s)

abbrev pub SameFamilyDecides : Type 0
SameFamilyDecides = (a b : Family) → Decides (same_family a b) (a ≡ b)

abbrev pub SameKindDecides : Type 0
SameKindDecides = (k l : Kind) → Decides (same_kind k l) (k ≡ l)

abbrev pub SameClassDecides : Type 0
SameClassDecides = (k l : Class) → Decides (same_class k l) (k ≡ l)

abbrev pub SameValueDecides : Type 0
SameValueDecides = (v w : Value) → Decides (same_value v w) (v ≡ w)
