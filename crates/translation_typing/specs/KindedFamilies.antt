-- Families and kinds that are well sorted over a signature: every argument has the sort of the domain at which it stands (Harper
-- and Licata 2007, section 2: the erased judgements, here with the domains of the constants' kinds, which `IsSortedFamily` of
-- `lf_meaning` leaves out).
use Rattle.std.specs.Prelude.{◌≡◌, List, [], ◌∷◌, Option, Some, None}
use Rattle.lf_meaning.specs.Terms.{AtomicFamily, FamilyCon, FamilyApp, Family, Pi, AtFamily, Kind, Ty, PiKind, Simple, SimpleContext}
use Rattle.lf_meaning.specs.Erasure.{erase}
use Rattle.lf_meaning.specs.Signatures.{Class, FamilyClass, KindClass, Signature, class_of}
use Rattle.lf_meaning.specs.Sorts.{HasSort, sorts_of}

-- The erasures of a kind's domains, that of the outermost first.
abbrev pub domains_of : Kind → List Simple
domains_of Ty = []
domains_of (PiKind a k) = erase a ∷ domains_of k

-- Those of a constant's kind. There are none where the constant is no family.
abbrev pub class_domains : Option Class → Option (List Simple)
class_domains None = None
class_domains (Some (FamilyClass a)) = None
class_domains (Some (KindClass k)) = Some (domains_of k)

-- A head takes an argument with the sort of its next domain, and has the rest of its domains left.
pub record TakesArgument (head : List Simple → Type 0) (argument : Simple → Type 0) (rest : List Simple) : Type 0 where
  pub domain : Simple
  pub head_has : head (domain ∷ rest)
  pub argument_has : argument domain

-- `HasDomains F D P S`: over the signature F and in the simple context D the atomic family P is well sorted and has the domains S
-- left. A family is well sorted where none is left.
abbrev pub HasDomains : Signature → SimpleContext → AtomicFamily → List Simple → Type 0
HasDomains sig context (FamilyCon c) rest = class_domains (class_of sig c) ≡ Some rest
HasDomains sig context (FamilyApp p m) rest = TakesArgument (HasDomains sig context p) (HasSort (sorts_of sig) context m) rest

abbrev pub IsKinded : Signature → SimpleContext → Family → Type 0
IsKinded sig context (Pi a b) = IsKinded sig context a × IsKinded sig (erase a ∷ context) b
IsKinded sig context (AtFamily p) = HasDomains sig context p []

abbrev pub IsKindedKind : Signature → SimpleContext → Kind → Type 0
IsKindedKind sig context Ty = Unit {0}
IsKindedKind sig context (PiKind a k) = IsKinded sig context a × IsKindedKind sig (erase a ∷ context) k
