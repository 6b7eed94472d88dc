-- Families that are no Π (Harper and Licata 2007, section 2: atomic families).
use Rattle.std.specs.Prelude.{⊤}
use Rattle.eta_meaning.specs.Below.Terms.{Family, Pi, AtFamily}

-- The family is no Π.
abbrev pub IsAtomicFamily : Family → Type 0
IsAtomicFamily (Pi domain codomain) = ⊥
IsAtomicFamily (AtFamily p) = ⊤
