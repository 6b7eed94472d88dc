-- Erasure of families to simple types (Harper and Licata 2007, section 2).
use Rattle.std.specs.Prelude.{map}
use Rattle.lf_meaning.specs.Terms.{Constant, Family, Pi, AtFamily, AtomicFamily, FamilyCon, FamilyApp, Simple, Base, Arrow, Context, SimpleContext}

-- The constant at the head of an atomic family.
abbrev pub head_constant : AtomicFamily → Constant
head_constant (FamilyCon c) = c
head_constant (FamilyApp p m) = head_constant p

-- The erasure of `a M1 .. Mn` is the base `a`; that of a Π is the arrow over the erasures.
abbrev pub erase : Family → Simple
erase (Pi a b) = Arrow (erase a) (erase b)
erase (AtFamily p) = Base (head_constant p)

-- The erasures of the families of a context.
abbrev pub erase_context : Context → SimpleContext
erase_context context = map erase context
