-- Laws of what terms hold: constants of a signature alone, each at its level, and variables around them (this profile).
use Rattle.std.specs.Prelude.{◌≡◌, ℕ, suc, ◌+◌, ◌≤◌, Some}
use Rattle.lf_meaning.specs.Terms.{Constant, Object, Family, Kind, Simple}
use Rattle.lf_meaning.specs.Raising.{raise}
use Rattle.lf_meaning.specs.Substitution.{substitute, substitute_family, substitute_kind}
use Rattle.lf_meaning.specs.Signatures.{Class, Signature, class_of}
use Rattle.library_meaning.specs.Holding.{ObjectHolds, FamilyHolds, KindHolds}

-- Each constant of the first signature is one of the second, with its class.
abbrev pub Grows : Signature → Signature → Type 0
Grows from to = (c : Constant) (class : Class) → class_of from c ≡ Some class → class_of to c ≡ Some class

-- An object holds what it held over a signature that has more, and with more variables around it.
abbrev pub HoldingGrows : Type 0
HoldingGrows = (from to : Signature) (object : Object) (variables more : ℕ) → Grows from to → variables ≤ more → ObjectHolds from variables object → ObjectHolds to more object

-- Raising brings nothing but the variables that are put in.
abbrev pub RaisingHolds : Type 0
RaisingHolds = (signature : Signature) (by at variables : ℕ) (object : Object) → ObjectHolds signature variables object → ObjectHolds signature (variables + by) (raise by at object)

-- Substitution brings no other constants and variables than those of the value, which stands outside, and of the term.
abbrev pub SubstitutionHolds : Type 0
SubstitutionHolds =
    (signature : Signature) (value : Object) (t : Simple) (outside at : ℕ) (object : Object) → ObjectHolds signature outside value
    → ObjectHolds signature (suc (outside + at)) object → ObjectHolds signature (outside + at) (substitute value t at object)

-- So in families.
abbrev pub FamilySubstitutionHolds : Type 0
FamilySubstitutionHolds =
    (signature : Signature) (value : Object) (t : Simple) (outside at : ℕ) (family : Family) → ObjectHolds signature outside value
    → FamilyHolds signature (suc (outside + at)) family → FamilyHolds signature (outside + at) (substitute_family value t at family)

-- So in kinds.
abbrev pub KindSubstitutionHolds : Type 0
KindSubstitutionHolds =
    (signature : Signature) (value : Object) (t : Simple) (outside at : ℕ) (kind : Kind) → ObjectHolds signature outside value
    → KindHolds signature (suc (outside + at)) kind → KindHolds signature (outside + at) (substitute_kind value t at kind)
