-- Worked examples: a diamond of inclusions. A has `a : type`; B includes A and has `b : a` and `k : type`; C includes A and
-- has `c : a` and `k : type`; D includes B and C, and has `d : a` so far.
use Rattle.std.specs.Prelude.{◌≡◌, ℕ, List, [], ◌∷◌, length, None, Some, if◌then◌else◌}
use Rattle.name_meaning.specs.Names.{Name, same_name}
use Rattle.lf_meaning.specs.Terms.{Constant, AtFamily, FamilyCon, Ty}
use Rattle.lf_meaning.specs.Signatures.{FamilyClass, KindClass, Declaration, Signature}
use Rattle.library_meaning.specs.Faces.{TheoryFace, IsAbsent, IsTheory, Environment, flat_signature}
use Rattle.library_meaning.specs.Closure.{closure_of}
use Rattle.library_meaning.specs.Resolution.{Scope, Variable, Declared, Unknown, Ambiguous, resolve}

-- The name of one letter, given by its byte.
abbrev pub letter : ℕ → Name
letter byte = byte ∷ []

abbrev pub constant : ℕ → ℕ → Constant
constant theory byte = record { theory = letter theory; path = letter byte ∷ [] }

abbrev pub of_kind : ℕ → ℕ → Declaration
of_kind theory byte = record { name = constant theory byte; class = KindClass Ty; value = None }

-- A constant of the family `A.a`.
abbrev pub of_a : ℕ → ℕ → Declaration
of_a theory byte = record { name = constant theory byte; class = FamilyClass (AtFamily (FamilyCon (constant 65 97))); value = None }

abbrev pub theory : ℕ → Signature → List Name → TheoryFace
theory byte own includes = record { name = letter byte; own = own; includes = includes; structures = [] }

abbrev pub face_A : TheoryFace
face_A = theory 65 (of_kind 65 97 ∷ []) []

abbrev pub face_B : TheoryFace
face_B = theory 66 (of_a 66 98 ∷ of_kind 66 107 ∷ []) (letter 65 ∷ [])

abbrev pub face_C : TheoryFace
face_C = theory 67 (of_a 67 99 ∷ of_kind 67 107 ∷ []) (letter 65 ∷ [])

abbrev pub diamond : Environment
diamond name =
    if same_name name (letter 65) then IsTheory face_A
    else (if same_name name (letter 66) then IsTheory face_B
    else (if same_name name (letter 67) then IsTheory face_C else IsAbsent))

abbrev pub in_D : Scope
in_D = record { own = of_a 68 100 ∷ []; includes = closure_of diamond (letter 66 ∷ letter 67 ∷ []); environment = diamond }

-- A is brought once, and first.
abbrev pub DiamondIsShared : Type 0
DiamondIsShared = closure_of diamond (letter 66 ∷ letter 67 ∷ []) ≡ letter 65 ∷ letter 66 ∷ letter 67 ∷ []

abbrev pub DiamondHasSix : Type 0
DiamondHasSix = length (flat_signature diamond (theory 68 in_D.own in_D.includes)) ≡ 6

-- `a` is A's, `k` is ambiguous, `B.k` is B's.
abbrev pub SharedIsFound : Type 0
SharedIsFound = resolve in_D [] (letter 97 ∷ []) ≡ Declared (of_kind 65 97)

abbrev pub TwoAreAmbiguous : Type 0
TwoAreAmbiguous = resolve in_D [] (letter 107 ∷ []) ≡ Ambiguous

abbrev pub QualifiedIsFound : Type 0
QualifiedIsFound = resolve in_D [] (letter 66 ∷ letter 107 ∷ []) ≡ Declared (of_kind 66 107)

-- An own constant is found by its path, and the theory's own name does not qualify it.
abbrev pub OwnIsFound : Type 0
OwnIsFound = resolve in_D [] (letter 100 ∷ []) ≡ Declared (of_a 68 100)

abbrev pub OwnIsNotQualified : Type 0
OwnIsNotQualified = resolve in_D [] (letter 68 ∷ letter 100 ∷ []) ≡ Unknown

-- The innermost binder of a name hides what has that name; a binder without a name hides nothing.
abbrev pub BinderHides : Type 0
BinderHides = resolve in_D (None ∷ Some (letter 97) ∷ Some (letter 97) ∷ []) (letter 97 ∷ []) ≡ Variable 1
