-- The rules that a text can break, with their numbers and words (this profile).
use Rattle.std.specs.Prelude.{ℕ, List, codes}

-- The rules, in the order of their numbers.
pub data Rule : Type 0 where
  Syntax TooDeep Unsupported WrongName Cycle UnknownModule : Rule
  WrongModuleKind DependencyRefused DuplicateName UnknownName AmbiguousName Level : Rule
  NotAFunction NotCanonical Mismatch Annotation UnknownTarget DoubleAssignment : Rule
  MissingAssignment DefinitionClash IncludeNotCovered MorphismsDisagree MorphismEnds FamilyNotAtomic : Rule

-- The number of a rule. The numbers name the rules and say nothing of the order of tests.
abbrev pub number_of : Rule → ℕ
number_of Syntax = 1
number_of TooDeep = 2
number_of Unsupported = 3
number_of WrongName = 4
number_of Cycle = 5
number_of UnknownModule = 6
number_of WrongModuleKind = 7
number_of DependencyRefused = 8
number_of DuplicateName = 9
number_of UnknownName = 10
number_of AmbiguousName = 11
number_of Level = 12
number_of NotAFunction = 13
number_of NotCanonical = 14
number_of Mismatch = 15
number_of Annotation = 16
number_of UnknownTarget = 17
number_of DoubleAssignment = 18
number_of MissingAssignment = 19
number_of DefinitionClash = 20
number_of IncludeNotCovered = 21
number_of MorphismsDisagree = 22
number_of MorphismEnds = 23
number_of FamilyNotAtomic = 24

-- The word that is printed for a rule.
abbrev pub word_of : Rule → List ℕ
word_of Syntax = codes "syntax"
word_of TooDeep = codes "too-deep"
word_of Unsupported = codes "unsupported"
word_of WrongName = codes "wrong-name"
word_of Cycle = codes "cycle"
word_of UnknownModule = codes "unknown-module"
word_of WrongModuleKind = codes "wrong-module-kind"
word_of DependencyRefused = codes "dependency-refused"
word_of DuplicateName = codes "duplicate-name"
word_of UnknownName = codes "unknown-name"
word_of AmbiguousName = codes "ambiguous-name"
word_of Level = codes "level"
word_of NotAFunction = codes "not-a-function"
word_of NotCanonical = codes "not-canonical"
word_of Mismatch = codes "mismatch"
word_of Annotation = codes "annotation"
word_of UnknownTarget = codes "unknown-target"
word_of DoubleAssignment = codes "double-assignment"
word_of MissingAssignment = codes "missing-assignment"
word_of DefinitionClash = codes "definition-clash"
word_of IncludeNotCovered = codes "include-not-covered"
word_of MorphismsDisagree = codes "morphisms-disagree"
word_of MorphismEnds = codes "morphism-ends"
word_of FamilyNotAtomic = codes "family-not-atomic"
