-- Worked cases: which test of a declaration, a name or an expression comes first, and where it is refused.
use Rattle.std.specs.Prelude.{◌≡◌, [], ◌∷◌, codes}
use Rattle.elaborate_meaning.specs.Rules.{Rule}
use Rattle.verdict_examples.specs.Telling.{RefusedAt, TheoryOf, under, told_of}
use Rattle.verdict_examples.specs.OrderTexts.{text_A}

-- Cycle before wrong name.
abbrev pub CycleBeforeWrongName : Type 0
CycleBeforeWrongName =
    told_of [] (codes "Z")
    (codes "%sig Y = { %include Z. }.")
    ≡ RefusedAt 1 21 Rule.Cycle (codes "Z" ∷ [])

-- Arguments before the classifier.
abbrev pub ArgumentsBeforeTheClassifier : Type 0
ArgumentsBeforeTheClassifier =
    told_of (under (codes "A") text_A ∷ []) (codes "Z")
    (codes "%sig Z = { %include A. d : a -> a = f nope. }.")
    ≡ RefusedAt 1 39 Rule.UnknownName (codes "d" ∷ [])

-- Unknown name at a product.
abbrev pub UnknownNameAtAProduct : Type 0
UnknownNameAtAProduct =
    told_of (under (codes "A") text_A ∷ []) (codes "Z")
    (codes "%sig Z = { %include A. d : a = g nope. }.")
    ≡ RefusedAt 1 34 Rule.UnknownName (codes "d" ∷ [])

-- Value of another level.
abbrev pub ValueOfAnotherLevel : Type 0
ValueOfAnotherLevel =
    told_of (under (codes "A") text_A ∷ []) (codes "Z")
    (codes "%sig Z = { %include A. d : a = a. }.")
    ≡ RefusedAt 1 32 Rule.Level (codes "d" ∷ [])

-- Lambda as a head.
abbrev pub LambdaAsAHead : Type 0
LambdaAsAHead =
    told_of (under (codes "A") text_A ∷ []) (codes "Z")
    (codes "%sig Z = { %include A. d : a = ([x] x) c. }.")
    ≡ RefusedAt 1 33 Rule.NotCanonical (codes "d" ∷ [])

-- Lambda at an atomic family before its domain.
abbrev pub LambdaAtAnAtomicFamilyBeforeItsDomain : Type 0
LambdaAtAnAtomicFamilyBeforeItsDomain =
    told_of (under (codes "A") text_A ∷ []) (codes "Z")
    (codes "%sig Z = { %include A. d : a = [x:nope] x. }.")
    ≡ RefusedAt 1 32 Rule.Mismatch (codes "d" ∷ [])

-- Order in a row of back arrows.
abbrev pub OrderInARowOfBackArrows : Type 0
OrderInARowOfBackArrows =
    told_of (under (codes "A") text_A ∷ []) (codes "Z")
    (codes "%sig Z = { %include A. d : n1 <- n2 <- n3. }.")
    ≡ RefusedAt 1 40 Rule.UnknownName (codes "d" ∷ [])

-- Application at a kind with a domain.
abbrev pub ApplicationAtAKindWithADomain : Type 0
ApplicationAtAKindWithADomain =
    told_of (under (codes "A") text_A ∷ []) (codes "Z")
    (codes "%sig Z = { %include A. q : a -> a -> type. d : a -> type = q c. }.")
    ≡ TheoryOf 8

-- Lambda at type.
abbrev pub LambdaAtType : Type 0
LambdaAtType =
    told_of (under (codes "A") text_A ∷ []) (codes "Z")
    (codes "%sig Z = { %include A. d : type = [x] a. }.")
    ≡ RefusedAt 1 35 Rule.Mismatch (codes "d" ∷ [])

-- Level before arguments.
abbrev pub LevelBeforeArguments : Type 0
LevelBeforeArguments =
    told_of (under (codes "A") text_A ∷ []) (codes "Z")
    (codes "%sig Z = { %include A. d : a = a nope. }.")
    ≡ RefusedAt 1 32 Rule.Level (codes "d" ∷ [])

-- Wrong name before declarations.
abbrev pub WrongNameBeforeDeclarations : Type 0
WrongNameBeforeDeclarations =
    told_of [] (codes "Z")
    (codes "%sig Y = { a : nope. }.")
    ≡ RefusedAt 1 6 Rule.WrongName (codes "Y" ∷ [])

-- Second inclusion.
abbrev pub SecondInclusion : Type 0
SecondInclusion =
    told_of (under (codes "A") text_A ∷ []) (codes "Z")
    (codes "%sig Z = { %include A. %include A. }.")
    ≡ TheoryOf 6

-- Annotation before the body.
abbrev pub AnnotationBeforeTheBody : Type 0
AnnotationBeforeTheBody =
    told_of (under (codes "A") text_A ∷ []) (codes "Z")
    (codes "%sig Z = { %include A. d : a -> a = [x:b] nope. }.")
    ≡ RefusedAt 1 40 Rule.Annotation (codes "d" ∷ [])
