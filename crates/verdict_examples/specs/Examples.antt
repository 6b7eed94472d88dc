-- Worked cases: what is told of a text that is put behind others.
use Rattle.std.specs.Prelude.{◌≡◌, List, [], ◌∷◌, ◌++◌, drop, Some, None, codes}
use Rattle.name_meaning.specs.Names.{Name, Path}
use Rattle.lf_meaning.specs.Terms.{Constant, Family, Pi, AtFamily, FamilyCon, Ty}
use Rattle.lf_meaning.specs.Signatures.{Class, FamilyClass, KindClass, SameAs}
use Rattle.edit_log_meaning.specs.Log.{Module}
use Rattle.elaborate_meaning.specs.Rules.{Rule}
use Rattle.verdict_examples.specs.Telling.{TheoryOf, ViewOf, RefusedAt, Absent, under, told_of, told_by_check, told_after_drop, library_with, own_of_verdict}
use Rattle.verdict_meaning.specs.Rounds.{verdict_of}
use Rattle.verdict_examples.specs.ExampleTexts.{text_Nat, text_Nat_misspelled, text_E, text_E_long, text_FOL, text_Magma, text_Monoid, text_Car, text_Two_mixed, text_Two, text_Nat_plus, text_Set, text_Mag, text_Ring, text_Bare, text_A, text_B, text_C, text_D, text_B_two, text_C_two, text_D_two, text_D_one, text_Def, text_T, text_V, text_W, text_X, text_X_ill, text_R, text_P, text_Q, text_S, text_T_four, text_VR1, text_VR2, text_VP, text_VQ, text_V_both, text_Empty, text_Mode, text_Open, text_A_ring, text_B_ring, text_C_ring}

-- Natural numbers.
abbrev pub NaturalNumbers : Type 0
NaturalNumbers = told_of [] (codes "Nat") text_Nat ≡ TheoryOf 3

-- A name that is nowhere.
abbrev pub MisspelledName : Type 0
MisspelledName = told_of [] (codes "Nat") text_Nat_misspelled ≡ RefusedAt 4 12 Rule.UnknownName (codes "s" ∷ [])

-- An argument that is no λ.
abbrev pub EtaShortArgument : Type 0
EtaShortArgument = told_of [] (codes "E") text_E ≡ TheoryOf 4

-- The same, long, put in its place.
abbrev pub EtaLongArgument : Type 0
EtaLongArgument = told_of (under (codes "E") text_E ∷ []) (codes "E") text_E_long ≡ TheoryOf 4

-- Monoid over first-order logic: the structure shares the logic.
abbrev pub MonoidOverLogic : Type 0
MonoidOverLogic = told_of (under (codes "FOL") text_FOL ∷ under (codes "Magma") text_Magma ∷ []) (codes "Monoid") text_Monoid ≡ TheoryOf 9

-- What a check tells of the three.
abbrev pub MonoidIsChecked : Type 0
MonoidIsChecked =
    told_by_check (library_with (under (codes "FOL") text_FOL ∷ under (codes "Magma") text_Magma ∷ under (codes "Monoid") text_Monoid ∷ []))
    ≡ (codes "FOL", TheoryOf 5)
    ∷ (codes "Magma", TheoryOf 6)
    ∷ (codes "Monoid", TheoryOf 9)
    ∷ []

-- Two copies of one theory are not mixed.
abbrev pub MixedCopies : Type 0
MixedCopies = told_of (under (codes "Car") text_Car ∷ []) (codes "Two") text_Two_mixed ≡ RefusedAt 7 16 Rule.Mismatch (codes "w" ∷ [])

-- Without the mixed line.
abbrev pub TwoCopies : Type 0
TwoCopies = told_of (under (codes "Car") text_Car ∷ []) (codes "Two") text_Two ≡ TheoryOf 7

-- A structure the constants of which are assigned.
abbrev pub AssignedStructure : Type 0
AssignedStructure = told_of (under (codes "Car") text_Car ∷ []) (codes "Nat") text_Nat_plus ≡ TheoryOf 6

-- A ring of two magmas over one set.
abbrev pub Ring : Type 0
Ring = told_of (under (codes "Set") text_Set ∷ under (codes "Mag") text_Mag ∷ []) (codes "Ring") text_Ring ≡ TheoryOf 4

-- A structure in a theory that lacks what its domain includes.
abbrev pub BareStructure : Type 0
BareStructure = told_of (under (codes "FOL") text_FOL ∷ under (codes "Magma") text_Magma ∷ under (codes "Monoid") text_Monoid ∷ []) (codes "Bare") text_Bare ≡ RefusedAt 2 9 Rule.IncludeNotCovered (codes "FOL" ∷ [])

-- A diamond of inclusions.
abbrev pub SharedInclusion : Type 0
SharedInclusion = told_of (under (codes "A") text_A ∷ under (codes "B") text_B ∷ under (codes "C") text_C ∷ []) (codes "D") text_D ≡ TheoryOf 4

-- B and C both have `k`.
abbrev pub AmbiguousName : Type 0
AmbiguousName = told_of (under (codes "A") text_A ∷ under (codes "B") text_B_two ∷ under (codes "C") text_C_two ∷ []) (codes "D") text_D_two ≡ RefusedAt 4 5 Rule.AmbiguousName (codes "d" ∷ [])

-- `B.k` is one of them.
abbrev pub QualifiedName : Type 0
QualifiedName = told_of (under (codes "A") text_A ∷ under (codes "B") text_B_two ∷ under (codes "C") text_C_two ∷ []) (codes "D") text_D_one ≡ TheoryOf 6

-- A view that keeps a definition.
abbrev pub ViewOfDefinition : Type 0
ViewOfDefinition = told_of (under (codes "Def") text_Def ∷ under (codes "T") text_T ∷ []) (codes "V") text_V ≡ ViewOf 3

-- A view that does not.
abbrev pub ClashWithDefinition : Type 0
ClashWithDefinition = told_of (under (codes "Def") text_Def ∷ under (codes "T") text_T ∷ under (codes "V") text_V ∷ []) (codes "W") text_W ≡ RefusedAt 4 6 Rule.DefinitionClash (codes "d" ∷ [])

-- A constant without an image.
abbrev pub MissingAssignment : Type 0
MissingAssignment = told_of (under (codes "Def") text_Def ∷ under (codes "T") text_T ∷ under (codes "V") text_V ∷ under (codes "W") text_W ∷ []) (codes "X") text_X ≡ RefusedAt 1 7 Rule.MissingAssignment (codes "c" ∷ [])

-- A value of another class, in a view put in the place of the last one.
abbrev pub IllTypedAssignment : Type 0
IllTypedAssignment = told_of (under (codes "Def") text_Def ∷ under (codes "T") text_T ∷ under (codes "V") text_V ∷ under (codes "W") text_W ∷ under (codes "X") text_X ∷ []) (codes "X") text_X_ill ≡ RefusedAt 3 6 Rule.Mismatch (codes "c" ∷ [])

-- A view that covers what its domain includes.
abbrev pub FirstCovering : Type 0
FirstCovering = told_of (under (codes "R") text_R ∷ under (codes "P") text_P ∷ under (codes "Q") text_Q ∷ under (codes "S") text_S ∷ under (codes "T") text_T_four ∷ under (codes "VR1") text_VR1 ∷ under (codes "VR2") text_VR2 ∷ []) (codes "VP") text_VP ≡ ViewOf 2

-- Nine modules, among them two theories that include R, a theory that includes both, and views of the two that
-- cover R by different views.
abbrev pub two_coverings : List Module
two_coverings = under (codes "R") text_R ∷ under (codes "P") text_P ∷ under (codes "Q") text_Q ∷ under (codes "S") text_S ∷ under (codes "T") text_T_four ∷ under (codes "VR1") text_VR1 ∷ under (codes "VR2") text_VR2 ∷ under (codes "VP") text_VP ∷ under (codes "VQ") text_VQ ∷ []

-- Two coverings of R that differ.
abbrev pub DisagreeingInclusions : Type 0
DisagreeingInclusions = told_of two_coverings (codes "V") text_V_both ≡ RefusedAt 3 10 Rule.MorphismsDisagree (codes "V" ∷ [])

-- What a check tells of all ten: the first nine are accepted.
abbrev pub NineAreAccepted : Type 0
NineAreAccepted =
    told_by_check (library_with (two_coverings ++ under (codes "V") text_V_both ∷ []))
    ≡ (codes "P", TheoryOf 2)
    ∷ (codes "Q", TheoryOf 2)
    ∷ (codes "R", TheoryOf 1)
    ∷ (codes "S", TheoryOf 3)
    ∷ (codes "T", TheoryOf 4)
    ∷ (codes "V", RefusedAt 3 10 Rule.MorphismsDisagree (codes "V" ∷ []))
    ∷ (codes "VP", ViewOf 2)
    ∷ (codes "VQ", ViewOf 2)
    ∷ (codes "VR1", ViewOf 1)
    ∷ (codes "VR2", ViewOf 1)
    ∷ []

-- The empty text.
abbrev pub EmptyText : Type 0
EmptyText = told_of [] (codes "Z") text_Empty ≡ RefusedAt 1 1 Rule.Syntax (codes "Z" ∷ [])

-- A word that is left out.
abbrev pub PercentWord : Type 0
PercentWord = told_of [] (codes "Z") text_Mode ≡ RefusedAt 2 1 Rule.Unsupported (codes "Z" ∷ [])

-- A comment without an end.
abbrev pub OpenComment : Type 0
OpenComment = told_of [] (codes "Z") text_Open ≡ RefusedAt 1 1 Rule.Syntax (codes "Z" ∷ [])

-- A text that is written with another name.
abbrev pub WrongName : Type 0
WrongName = told_of [] (codes "Z") text_Nat ≡ RefusedAt 1 6 Rule.WrongName (codes "Nat" ∷ [])

-- A and B include each other, and C includes A.

-- The verdict on A.
abbrev pub CycleOfA : Type 0
CycleOfA = told_of (under (codes "A") text_A_ring ∷ under (codes "B") text_B_ring ∷ under (codes "C") text_C_ring ∷ []) (codes "A") text_A_ring ≡ RefusedAt 2 10 Rule.Cycle (codes "B" ∷ [])

-- The verdict on B.
abbrev pub CycleOfB : Type 0
CycleOfB = told_of (under (codes "A") text_A_ring ∷ under (codes "B") text_B_ring ∷ under (codes "C") text_C_ring ∷ []) (codes "B") text_B_ring ≡ RefusedAt 2 10 Rule.Cycle (codes "A" ∷ [])

-- The verdict on C.
abbrev pub CycleOfC : Type 0
CycleOfC = told_of (under (codes "A") text_A_ring ∷ under (codes "B") text_B_ring ∷ under (codes "C") text_C_ring ∷ []) (codes "C") text_C_ring ≡ RefusedAt 2 10 Rule.Cycle (codes "A" ∷ [])

-- The same after B is dropped.
abbrev pub AWithoutB : Type 0
AWithoutB = told_after_drop (under (codes "A") text_A_ring ∷ under (codes "B") text_B_ring ∷ under (codes "C") text_C_ring ∷ []) (codes "B") (codes "A") text_A_ring ≡ RefusedAt 2 10 Rule.UnknownModule (codes "B" ∷ [])

-- B is absent.
abbrev pub BWithoutB : Type 0
BWithoutB = told_after_drop (under (codes "A") text_A_ring ∷ under (codes "B") text_B_ring ∷ under (codes "C") text_C_ring ∷ []) (codes "B") (codes "B") text_B_ring ≡ Absent

-- C rests on a refused module.
abbrev pub CWithoutB : Type 0
CWithoutB = told_after_drop (under (codes "A") text_A_ring ∷ under (codes "B") text_B_ring ∷ under (codes "C") text_C_ring ∷ []) (codes "B") (codes "C") text_C_ring ≡ RefusedAt 2 10 Rule.DependencyRefused (codes "A" ∷ [])

-- A constant by its theory and path.
abbrev pub constant_of : Name → Path → Constant
constant_of theory path = record { theory = theory; path = path }

-- A family constant as a family.
abbrev pub atomic_of : Constant → Family
atomic_of constant = AtFamily (FamilyCon constant)

-- A constant of Nat.
abbrev pub nat_of : Path → Constant
nat_of path = constant_of (codes "Nat") path

-- A constant of Ring.
abbrev pub ring_of : Path → Constant
ring_of path = constant_of (codes "Ring") path

-- What a binary operation on the family is classified by.
abbrev pub binary_on : Family → Class
binary_on family = FamilyClass (Pi family (Pi family family))

-- The own constants of Nat with the structure m: `m.a` is defined as nat, `m.op` as plus.
abbrev pub AssignedConstantsAreDefined : Type 0
AssignedConstantsAreDefined =
    drop 4 (own_of_verdict (verdict_of (library_with (under (codes "Car") text_Car ∷ under (codes "Nat") text_Nat_plus ∷ [])) (codes "Nat")))
    ≡ record { name = nat_of (codes "m" ∷ codes "a" ∷ []); class = KindClass Ty; value = Some (SameAs (nat_of (codes "nat" ∷ []))) }
    ∷ record { name = nat_of (codes "m" ∷ codes "op" ∷ []); class = binary_on (atomic_of (nat_of (codes "nat" ∷ []))); value = Some (SameAs (nat_of (codes "plus" ∷ []))) }
    ∷ []

-- The own constants of Ring: the second set is the first.
abbrev pub RingHasOneSet : Type 0
RingHasOneSet =
    own_of_verdict (verdict_of (library_with (under (codes "Set") text_Set ∷ under (codes "Mag") text_Mag ∷ under (codes "Ring") text_Ring ∷ [])) (codes "Ring"))
    ≡ record { name = ring_of (codes "add" ∷ codes "u" ∷ codes "a" ∷ []); class = KindClass Ty; value = None }
    ∷ record { name = ring_of (codes "add" ∷ codes "op" ∷ []); class = binary_on (atomic_of (ring_of (codes "add" ∷ codes "u" ∷ codes "a" ∷ []))); value = None }
    ∷ record { name = ring_of (codes "mul" ∷ codes "u" ∷ codes "a" ∷ []); class = KindClass Ty; value = Some (SameAs (ring_of (codes "add" ∷ codes "u" ∷ codes "a" ∷ []))) }
    ∷ record { name = ring_of (codes "mul" ∷ codes "op" ∷ []); class = binary_on (atomic_of (ring_of (codes "add" ∷ codes "u" ∷ codes "a" ∷ []))); value = None }
    ∷ []
