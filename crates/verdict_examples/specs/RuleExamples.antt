-- Worked cases of single rules: what is told of a text that is put behind others.
use Rattle.std.specs.Prelude.{◌≡◌, [], ◌∷◌, codes}
use Rattle.elaborate_meaning.specs.Rules.{Rule}
use Rattle.verdict_examples.specs.Telling.{TheoryOf, ViewOf, RefusedAt, under, told_of}
use Rattle.verdict_examples.specs.ExampleTexts.{text_A, text_Applied_atom, text_Family_applied, text_Family_of_another_kind, text_Family_under_lambda, text_H, text_I_view, text_Mm, text_No_target, text_O, text_Object_as_family, text_Other_codomain, text_Other_domain, text_P, text_Product_value, text_R, text_T_four, text_T_map, text_Twice, text_Two_targets, text_VM, text_VO, text_VR1, text_VR2, text_V_identity, text_W_agreeing, text_W_shared}

-- A view is included.
abbrev pub ViewIsNoTheory : Type 0
ViewIsNoTheory = told_of (under (codes "A") text_A ∷ under (codes "V") text_V_identity ∷ []) (codes "I") text_I_view ≡ RefusedAt 2 10 Rule.WrongModuleKind (codes "V" ∷ [])

-- A second declaration of a name.
abbrev pub NameUsedTwice : Type 0
NameUsedTwice = told_of [] (codes "D") text_Twice ≡ RefusedAt 3 1 Rule.DuplicateName (codes "a" ∷ [])

-- An object constant as a family.
abbrev pub ObjectIsNoFamily : Type 0
ObjectIsNoFamily = told_of [] (codes "L") text_Object_as_family ≡ RefusedAt 4 5 Rule.Level (codes "d" ∷ [])

-- An object of an atomic family with an argument.
abbrev pub AtomIsNoFunction : Type 0
AtomIsNoFunction = told_of [] (codes "N") text_Applied_atom ≡ RefusedAt 4 11 Rule.NotAFunction (codes "d" ∷ [])

-- A written domain that is another one.
abbrev pub OtherDomain : Type 0
OtherDomain = told_of [] (codes "M") text_Other_domain ≡ RefusedAt 4 17 Rule.Annotation (codes "f" ∷ [])

-- An assignment to nothing.
abbrev pub TargetIsUnknown : Type 0
TargetIsUnknown = told_of (under (codes "A") text_A ∷ []) (codes "U") text_No_target ≡ RefusedAt 3 1 Rule.UnknownTarget (codes "z" ∷ [])

-- A second assignment to a target.
abbrev pub TargetIsAssignedTwice : Type 0
TargetIsAssignedTwice = told_of (under (codes "A") text_A ∷ []) (codes "U") text_Two_targets ≡ RefusedAt 3 1 Rule.DoubleAssignment (codes "a" ∷ [])

-- A covering link into another theory.
abbrev pub EndsDoNotMeet : Type 0
EndsDoNotMeet = told_of (under (codes "R") text_R ∷ under (codes "P") text_P ∷ under (codes "T") text_T_four ∷ under (codes "O") text_O ∷ under (codes "VO") text_VO ∷ []) (codes "V") text_Other_codomain ≡ RefusedAt 2 10 Rule.MorphismEnds (codes "V" ∷ [])

-- A product as the value of a family constant.
abbrev pub ProductIsNoValue : Type 0
ProductIsNoValue = told_of [] (codes "F") text_Product_value ≡ RefusedAt 3 12 Rule.FamilyNotAtomic (codes "b" ∷ [])

-- A bare family constant of another kind.
abbrev pub FamilyOfAnotherKind : Type 0
FamilyOfAnotherKind = told_of [] (codes "K") text_Family_of_another_kind ≡ RefusedAt 6 17 Rule.Mismatch (codes "t" ∷ [])

-- A family constant under a λ that misses its argument.
abbrev pub FamilyUnderLambda : Type 0
FamilyUnderLambda = told_of [] (codes "K") text_Family_under_lambda ≡ RefusedAt 6 21 Rule.NotCanonical (codes "t" ∷ [])

-- The same with its argument.
abbrev pub FamilyApplied : Type 0
FamilyApplied = told_of [] (codes "K") text_Family_applied ≡ TheoryOf 5

-- A shared structure whose domain includes R by another map.
abbrev pub SharedStructureDisagrees : Type 0
SharedStructureDisagrees = told_of (under (codes "R") text_R ∷ under (codes "Mm") text_Mm ∷ under (codes "H") text_H ∷ under (codes "T") text_T_map ∷ under (codes "VR1") text_VR1 ∷ under (codes "VR2") text_VR2 ∷ under (codes "VM") text_VM ∷ []) (codes "W") text_W_shared ≡ RefusedAt 3 14 Rule.MorphismsDisagree (codes "m" ∷ [])

-- A shared structure whose domain includes R by the same map: the inclusion is compared as it is translated.
abbrev pub SharedStructureAgrees : Type 0
SharedStructureAgrees = told_of (under (codes "R") text_R ∷ under (codes "Mm") text_Mm ∷ under (codes "H") text_H ∷ under (codes "T") text_T_map ∷ under (codes "VR2") text_VR2 ∷ under (codes "VM") text_VM ∷ []) (codes "W") text_W_agreeing ≡ ViewOf 2
