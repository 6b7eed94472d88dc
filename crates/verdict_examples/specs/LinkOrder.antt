-- Worked cases: which test of a structure or a view comes first, and where it is refused.
use Rattle.std.specs.Prelude.{◌≡◌, [], ◌∷◌, codes}
use Rattle.elaborate_meaning.specs.Rules.{Rule}
use Rattle.verdict_examples.specs.Telling.{RefusedAt, ViewOf, under, told_of}
use Rattle.verdict_examples.specs.OrderTexts.{text_A, text_B, text_Big, text_C, text_Car, text_Df, text_E, text_H, text_HD, text_HE, text_I1, text_I1_2, text_I2, text_I2_2, text_J1, text_J1_2, text_J2, text_J2_2, text_K1, text_O, text_P, text_P2, text_P9, text_PP, text_PR, text_Q, text_Q2, text_Q3, text_R, text_RR, text_S, text_S2, text_T, text_T2, text_TD, text_TQ, text_TT, text_V, text_VB, text_VC, text_VD, text_VO, text_VP, text_VPQ, text_VR, text_VR1, text_VR2, text_VR3, text_VRQ, text_VX, text_W1, text_W2, text_X}

-- Unknown target before overlap.
abbrev pub UnknownTargetBeforeOverlap : Type 0
UnknownTargetBeforeOverlap =
    told_of (under (codes "A") text_A ∷ []) (codes "Z")
    (codes "%sig Z = { %include A. %struct s : A = { a := b. a.x := b. }. }.")
    ≡ RefusedAt 1 50 Rule.UnknownTarget (codes "s" ∷ codes "a" ∷ codes "x" ∷ [])

-- Target behind a shared structure.
abbrev pub TargetBehindASharedStructure : Type 0
TargetBehindASharedStructure =
    told_of (under (codes "T") text_T ∷ under (codes "Car") text_Car ∷ under (codes "H") text_H ∷ under (codes "VC") text_VC ∷ []) (codes "Z")
    (codes "%view Z : H -> T = { %struct m := VC. m.a := v. h := y. }.")
    ≡ RefusedAt 1 39 Rule.DoubleAssignment (codes "m" ∷ codes "a" ∷ [])

-- Structure of an assigned constant.
abbrev pub StructureOfAnAssignedConstant : Type 0
StructureOfAnAssignedConstant =
    told_of (under (codes "T") text_T ∷ under (codes "Car") text_Car ∷ under (codes "H") text_H ∷ under (codes "VC") text_VC ∷ []) (codes "Z")
    (codes "%view Z : H -> T = { m.a := v. %struct m := VC. h := y. }.")
    ≡ RefusedAt 1 40 Rule.DoubleAssignment (codes "m" ∷ [])

-- Overlap before words.
abbrev pub OverlapBeforeWords : Type 0
OverlapBeforeWords =
    told_of (under (codes "T") text_T ∷ under (codes "Car") text_Car ∷ under (codes "H") text_H ∷ under (codes "VC") text_VC ∷ []) (codes "Z")
    (codes "%view Z : H -> T = { %struct m := VC. %struct m := Nope. }.")
    ≡ RefusedAt 1 47 Rule.DoubleAssignment (codes "m" ∷ [])

-- Shared by a link from a theory that includes the domain.
abbrev pub SharedByALinkFromATheoryThatIncludesTheDomain : Type 0
SharedByALinkFromATheoryThatIncludesTheDomain =
    told_of (under (codes "T") text_T ∷ under (codes "Big") text_Big ∷ under (codes "Car") text_Car ∷ under (codes "H") text_H ∷ under (codes "VB") text_VB ∷ under (codes "VC") text_VC ∷ []) (codes "Z")
    (codes "%view Z : H -> T = { %struct m := VB. h := x. }.")
    ≡ ViewOf 3

-- Shared by a link from a theory that the domain includes.
abbrev pub SharedByALinkFromATheoryThatTheDomainIncludes : Type 0
SharedByALinkFromATheoryThatTheDomainIncludes =
    told_of (under (codes "R") text_R ∷ under (codes "T") text_T ∷ under (codes "E") text_E ∷ under (codes "HE") text_HE ∷ under (codes "VR1") text_VR1 ∷ []) (codes "Z")
    (codes "%view Z : HE -> T = { %include VR1. %struct m := VR1. }.")
    ≡ RefusedAt 1 50 Rule.MorphismEnds (codes "m" ∷ [])

-- Covering link from a theory that is not included.
abbrev pub CoveringLinkFromATheoryThatIsNotIncluded : Type 0
CoveringLinkFromATheoryThatIsNotIncluded =
    told_of (under (codes "R") text_R ∷ under (codes "T") text_T ∷ under (codes "X") text_X ∷ under (codes "VX") text_VX ∷ under (codes "VR1") text_VR1 ∷ under (codes "P") text_P ∷ []) (codes "Z")
    (codes "%view Z : P -> T = { %include VX. p := x. }.")
    ≡ RefusedAt 1 31 Rule.MorphismEnds (codes "Z" ∷ [])

-- Covering link into an included theory.
abbrev pub CoveringLinkIntoAnIncludedTheory : Type 0
CoveringLinkIntoAnIncludedTheory =
    told_of (under (codes "R") text_R ∷ under (codes "T") text_T ∷ under (codes "TT") text_TT ∷ under (codes "VR1") text_VR1 ∷ under (codes "P") text_P ∷ []) (codes "Z")
    (codes "%view Z : P -> TT = { %include VR1. p := x. }.")
    ≡ ViewOf 2

-- Row through an inclusion.
abbrev pub RowThroughAnInclusion : Type 0
RowThroughAnInclusion =
    told_of (under (codes "R") text_R ∷ under (codes "T") text_T ∷ under (codes "T2") text_T2 ∷ under (codes "O") text_O ∷ under (codes "VR1") text_VR1 ∷ under (codes "VO") text_VO ∷ under (codes "W2") text_W2 ∷ under (codes "P") text_P ∷ []) (codes "Z")
    (codes "%view Z : P -> O = { %include VR1 W2. p := o1. }.")
    ≡ ViewOf 2

-- Second word bad.
abbrev pub SecondWordBad : Type 0
SecondWordBad =
    told_of (under (codes "R") text_R ∷ under (codes "T") text_T ∷ under (codes "VR1") text_VR1 ∷ under (codes "P") text_P ∷ []) (codes "Z")
    (codes "%view Z : P -> T = { %include VR1 Nope. p := x. }.")
    ≡ RefusedAt 1 35 Rule.UnknownModule (codes "Z" ∷ [])

-- Ends of a row of two.
abbrev pub EndsOfARowOfTwo : Type 0
EndsOfARowOfTwo =
    told_of (under (codes "R") text_R ∷ under (codes "T") text_T ∷ under (codes "O") text_O ∷ under (codes "VR1") text_VR1 ∷ under (codes "VO") text_VO ∷ under (codes "P") text_P ∷ []) (codes "Z")
    (codes "%view Z : P -> T = { %include VR1 VO. p := x. }.")
    ≡ RefusedAt 1 31 Rule.MorphismEnds (codes "Z" ∷ [])

-- Word without structure.
abbrev pub WordWithoutStructure : Type 0
WordWithoutStructure =
    told_of (under (codes "A") text_A ∷ []) (codes "Z")
    (codes "%sig Z = { %include A. %struct s : A = { %include A.x. }. }.")
    ≡ RefusedAt 1 51 Rule.UnknownName (codes "s" ∷ [])

-- Definition clash in a structure.
abbrev pub DefinitionClashInAStructure : Type 0
DefinitionClashInAStructure =
    told_of (under (codes "Df") text_Df ∷ under (codes "TD") text_TD ∷ []) (codes "Z")
    (codes "%sig Z = { %include TD. %struct s : Df = { a := b. c := k. d := l. }. }.")
    ≡ RefusedAt 1 65 Rule.DefinitionClash (codes "s" ∷ codes "d" ∷ [])

-- Shared structure with another definition.
abbrev pub SharedStructureWithAnotherDefinition : Type 0
SharedStructureWithAnotherDefinition =
    told_of (under (codes "Df") text_Df ∷ under (codes "HD") text_HD ∷ under (codes "TD") text_TD ∷ under (codes "VD") text_VD ∷ []) (codes "Z")
    (codes "%view Z : HD -> TD = { e := b. k := k. %struct m := VD. }.")
    ≡ RefusedAt 1 53 Rule.MorphismsDisagree (codes "m" ∷ [])

-- Duplicate before the module test.
abbrev pub DuplicateBeforeTheModuleTest : Type 0
DuplicateBeforeTheModuleTest =
    told_of (under (codes "A") text_A ∷ []) (codes "Z")
    (codes "%sig Z = { s : type. %struct s : Nope. }.")
    ≡ RefusedAt 1 30 Rule.DuplicateName (codes "s" ∷ [])

-- Structure named as a constant.
abbrev pub StructureNamedAsAConstant : Type 0
StructureNamedAsAConstant =
    told_of (under (codes "A") text_A ∷ []) (codes "Z")
    (codes "%sig Z = { s : type. %struct s : A. }.")
    ≡ RefusedAt 1 30 Rule.DuplicateName (codes "s" ∷ [])

-- Constant named as a structure.
abbrev pub ConstantNamedAsAStructure : Type 0
ConstantNamedAsAStructure =
    told_of (under (codes "A") text_A ∷ []) (codes "Z")
    (codes "%sig Z = { %struct s : A. s : type. }.")
    ≡ RefusedAt 1 27 Rule.DuplicateName (codes "s" ∷ [])

-- Unknown domain of a structure.
abbrev pub UnknownDomainOfAStructure : Type 0
UnknownDomainOfAStructure =
    told_of (under (codes "A") text_A ∷ []) (codes "Z")
    (codes "%sig Z = { %struct s : Nope. }.")
    ≡ RefusedAt 1 24 Rule.UnknownModule (codes "s" ∷ [])

-- Both ends unknown.
abbrev pub BothEndsUnknown : Type 0
BothEndsUnknown =
    told_of (under (codes "A") text_A ∷ []) (codes "Z")
    (codes "%view Z : Mo -> No = { }.")
    ≡ RefusedAt 1 11 Rule.UnknownModule (codes "Z" ∷ [])

-- Codomain unknown.
abbrev pub CodomainUnknown : Type 0
CodomainUnknown =
    told_of (under (codes "A") text_A ∷ []) (codes "Z")
    (codes "%view Z : A -> No = { }.")
    ≡ RefusedAt 1 16 Rule.UnknownModule (codes "Z" ∷ [])

-- Cycle at an end of a view.
abbrev pub CycleAtAnEndOfAView : Type 0
CycleAtAnEndOfAView =
    told_of (under (codes "B") text_B ∷ []) (codes "Z")
    (codes "%view Z : A -> B = { }.")
    ≡ RefusedAt 1 16 Rule.Cycle (codes "Z" ∷ [])

-- Cycle at the first of both ends.
abbrev pub CycleAtTheFirstOfBothEnds : Type 0
CycleAtTheFirstOfBothEnds =
    told_of (under (codes "B") text_B ∷ under (codes "C") text_C ∷ []) (codes "Z")
    (codes "%view Z : B -> C = { }.")
    ≡ RefusedAt 1 11 Rule.Cycle (codes "Z" ∷ [])

-- Cycle at a word of a shared structure.
abbrev pub CycleAtAWordOfASharedStructure : Type 0
CycleAtAWordOfASharedStructure =
    told_of (under (codes "A") text_A ∷ under (codes "V") text_V ∷ []) (codes "Z")
    (codes "%sig Z = { %struct s : A = { %struct m := V. }. }.")
    ≡ RefusedAt 1 43 Rule.Cycle (codes "s" ∷ codes "m" ∷ [])

-- Cycle at a covering word.
abbrev pub CycleAtACoveringWord : Type 0
CycleAtACoveringWord =
    told_of (under (codes "A") text_A ∷ under (codes "V") text_V ∷ []) (codes "Z")
    (codes "%sig Z = { %struct s : A = { %include V. }. }.")
    ≡ RefusedAt 1 39 Rule.Cycle (codes "s" ∷ [])

-- Own name alone is a dependency.
abbrev pub OwnNameAloneIsADependency : Type 0
OwnNameAloneIsADependency =
    told_of (under (codes "A") text_A ∷ []) (codes "Z")
    (codes "%sig Z = { %struct t : A = { %include Z. }. }.")
    ≡ RefusedAt 1 39 Rule.Cycle (codes "t" ∷ [])

-- Own word is none.
abbrev pub OwnWordIsNone : Type 0
OwnWordIsNone =
    told_of (under (codes "A") text_A ∷ []) (codes "Z")
    (codes "%sig Z = { %include A. %struct t : A = { %include Z.t. }. }.")
    ≡ RefusedAt 1 51 Rule.UnknownName (codes "t" ∷ [])

-- Coverings before values.
abbrev pub CoveringsBeforeValues : Type 0
CoveringsBeforeValues =
    told_of (under (codes "R") text_R ∷ under (codes "P") text_P ∷ under (codes "T") text_T ∷ []) (codes "Z")
    (codes "%view Z : P -> T = { p := nope. }.")
    ≡ RefusedAt 1 7 Rule.IncludeNotCovered (codes "R" ∷ [])

-- First pass before coverings.
abbrev pub FirstPassBeforeCoverings : Type 0
FirstPassBeforeCoverings =
    told_of (under (codes "R") text_R ∷ under (codes "P") text_P ∷ under (codes "T") text_T ∷ []) (codes "Z")
    (codes "%view Z : P -> T = { p := x. p := x. }.")
    ≡ RefusedAt 1 30 Rule.DoubleAssignment (codes "p" ∷ [])

-- Values in the order of constants.
abbrev pub ValuesInTheOrderOfConstants : Type 0
ValuesInTheOrderOfConstants =
    told_of (under (codes "A") text_A ∷ []) (codes "Z")
    (codes "%sig Z = { %include A. %struct s : A = { b := n1. a := n2. }. }.")
    ≡ RefusedAt 1 56 Rule.UnknownName (codes "s" ∷ codes "a" ∷ [])

-- Value does not see its structure.
abbrev pub ValueDoesNotSeeItsStructure : Type 0
ValueDoesNotSeeItsStructure =
    told_of (under (codes "A") text_A ∷ []) (codes "Z")
    (codes "%sig Z = { %include A. %struct s : A = { b := s.a. }. }.")
    ≡ RefusedAt 1 47 Rule.UnknownName (codes "s" ∷ codes "b" ∷ [])

-- Missing assignment before a later value.
abbrev pub MissingAssignmentBeforeALaterValue : Type 0
MissingAssignmentBeforeALaterValue =
    told_of (under (codes "A") text_A ∷ []) (codes "Z")
    (codes "%view Z : A -> A = { a := a. f := nope. }.")
    ≡ RefusedAt 1 7 Rule.MissingAssignment (codes "b" ∷ [])

-- Identity of one theory and a link of another.
abbrev pub IdentityOfOneTheoryAndALinkOfAnother : Type 0
IdentityOfOneTheoryAndALinkOfAnother =
    told_of (under (codes "R") text_R ∷ under (codes "P") text_P ∷ under (codes "Q") text_Q ∷ under (codes "S") text_S ∷ under (codes "TQ") text_TQ ∷ under (codes "VPQ") text_VPQ ∷ under (codes "VRQ") text_VRQ ∷ []) (codes "Z")
    (codes "%view Z : S -> TQ = { %include VPQ. }.")
    ≡ RefusedAt 1 32 Rule.MorphismsDisagree (codes "Z" ∷ [])

-- Identity, the second of two links differs.
abbrev pub IdentityTheSecondOfTwoLinksDiffers : Type 0
IdentityTheSecondOfTwoLinksDiffers =
    told_of (under (codes "R") text_R ∷ under (codes "I1") text_I1 ∷ under (codes "P") text_P ∷ under (codes "P2") text_P2 ∷ under (codes "I2") text_I2 ∷ under (codes "Q2") text_Q2 ∷ under (codes "S2") text_S2 ∷ []) (codes "Z")
    (codes "%view Z : S2 -> P2 = { %include I1. %include I2. s := r. }.")
    ≡ RefusedAt 1 46 Rule.MorphismsDisagree (codes "Z" ∷ [])

-- Identity on one, then two links of which one differs.
abbrev pub IdentityOnOneThenTwoLinksOfWhichOneDiffers : Type 0
IdentityOnOneThenTwoLinksOfWhichOneDiffers =
    told_of (under (codes "R") text_R ∷ under (codes "P") text_P ∷ under (codes "Q") text_Q ∷ under (codes "S") text_S ∷ under (codes "TQ") text_TQ ∷ under (codes "I1") text_I1_2 ∷ under (codes "J1") text_J1 ∷ under (codes "I2") text_I2_2 ∷ under (codes "J2") text_J2 ∷ []) (codes "Z")
    (codes "%view Z : S -> TQ = { %include I1. %include I2. }.")
    ≡ RefusedAt 1 45 Rule.MorphismsDisagree (codes "Z" ∷ [])

-- Late theory is not covered, early coverings disagree.
abbrev pub LateTheoryIsNotCoveredEarlyCoveringsDisagree : Type 0
LateTheoryIsNotCoveredEarlyCoveringsDisagree =
    told_of (under (codes "R") text_R ∷ under (codes "P") text_P ∷ under (codes "Q") text_Q ∷ under (codes "S") text_S ∷ under (codes "T") text_T ∷ under (codes "VR1") text_VR1 ∷ under (codes "VR2") text_VR2 ∷ under (codes "VP") text_VP ∷ []) (codes "Z")
    (codes "%view Z : S -> T = { %include VR2. %include VP. }.")
    ≡ RefusedAt 1 45 Rule.MorphismsDisagree (codes "Z" ∷ [])

-- Assigned value under the translated class.
abbrev pub AssignedValueUnderTheTranslatedClass : Type 0
AssignedValueUnderTheTranslatedClass =
    told_of (under (codes "A") text_A ∷ []) (codes "Z")
    (codes "%sig Z = { %include A. %struct s : A = { a := b. c := A.c. }. }.")
    ≡ RefusedAt 1 55 Rule.Mismatch (codes "s" ∷ codes "c" ∷ [])

-- Identity is given up where a link covers.
abbrev pub IdentityIsGivenUpWhereALinkCovers : Type 0
IdentityIsGivenUpWhereALinkCovers =
    told_of (under (codes "R") text_R ∷ under (codes "RR") text_RR ∷ under (codes "VR") text_VR ∷ under (codes "PP") text_PP ∷ under (codes "PR") text_PR ∷ under (codes "VR3") text_VR3 ∷ []) (codes "Z")
    (codes "%view Z : PP -> PR = { %include VR3. p := x. }.")
    ≡ ViewOf 2

-- Cycle at the domain of a structure before its words.
abbrev pub CycleAtTheDomainOfAStructureBeforeItsWords : Type 0
CycleAtTheDomainOfAStructureBeforeItsWords =
    told_of (under (codes "B") text_B ∷ []) (codes "Z")
    (codes "%sig Z = { %struct s : B = { %include B. }. }.")
    ≡ RefusedAt 1 24 Rule.Cycle (codes "s" ∷ [])

-- Two links differ from the identity.
abbrev pub TwoLinksDifferFromTheIdentity : Type 0
TwoLinksDifferFromTheIdentity =
    told_of (under (codes "R") text_R ∷ under (codes "P") text_P ∷ under (codes "W1") text_W1 ∷ under (codes "J1") text_J1_2 ∷ under (codes "J2") text_J2_2 ∷ under (codes "P9") text_P9 ∷ under (codes "K1") text_K1 ∷ under (codes "Q3") text_Q3 ∷ []) (codes "Z")
    (codes "%view Z : Q3 -> W1 = { %include K1. %include J1. %include J2. w := r. }.")
    ≡ RefusedAt 1 46 Rule.MorphismsDisagree (codes "Z" ∷ [])
