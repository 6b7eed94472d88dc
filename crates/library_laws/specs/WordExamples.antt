-- Worked examples of words: S has `a : type`; R has a structure s from S, with `s.a` as the image of a; T has a structure r
-- from R, with `r.s.a` as the image of `s.a`; V is a view from T to U, with `u` as the image of `r.s.a`.
use Rattle.std.specs.Prelude.{◌≡◌, ℕ, List, [], ◌∷◌, None, Some, if◌then◌else◌}
use Rattle.name_meaning.specs.Names.{Name, Path, same_name}
use Rattle.lf_meaning.specs.Terms.{Constant, Ty}
use Rattle.lf_meaning.specs.Signatures.{KindClass, SameAs, Declaration}
use Rattle.lf_meaning.specs.HeadMaps.{HeadMap}
use Rattle.library_meaning.specs.Faces.{StructureFace, TheoryFace, IsAbsent, IsRefused, IsTheory, IsView, Environment}
use Rattle.library_laws.specs.Examples.{letter}
use Rattle.library_meaning.specs.Words.{UnknownModule, RefusedModule, WrongKind, UnknownStructure, EndsApart, RowMeaning, RowMeans, RowFaulty, row_meaning}

abbrev pub at_path : ℕ → Path → Constant
at_path theory path = record { theory = letter theory; path = path }

abbrev pub of_kind_at : Constant → Declaration
of_kind_at name = record { name = name; class = KindClass Ty; value = None }

abbrev pub renamed : Constant → Constant → HeadMap
renamed from to = record { name = from; image = record { class = KindClass Ty; value = SameAs to } } ∷ []

abbrev pub a_of_S : Constant
a_of_S = at_path 83 (letter 97 ∷ [])

abbrev pub s_a_of_R : Constant
s_a_of_R = at_path 82 (letter 115 ∷ letter 97 ∷ [])

abbrev pub r_s_a_of_T : Constant
r_s_a_of_T = at_path 84 (letter 114 ∷ letter 115 ∷ letter 97 ∷ [])

abbrev pub u_of_U : Constant
u_of_U = at_path 85 (letter 117 ∷ [])

abbrev pub with_structures : ℕ → Constant → List StructureFace → TheoryFace
with_structures name constant structures =
    record { name = letter name; own = of_kind_at constant ∷ []; includes = []; structures = structures }

abbrev pub face_of_T : TheoryFace
face_of_T = with_structures 84 r_s_a_of_T (record { name = letter 114; domain = letter 82; map = renamed s_a_of_R r_s_a_of_T } ∷ [])

-- The module X is refused.
abbrev pub modules : Environment
modules name =
    if same_name name (letter 83) then IsTheory (with_structures 83 a_of_S [])
    else (if same_name name (letter 82) then IsTheory (with_structures 82 s_a_of_R (record { name = letter 115; domain = letter 83; map = renamed a_of_S s_a_of_R } ∷ []))
    else (if same_name name (letter 84) then IsTheory face_of_T
    else (if same_name name (letter 85) then IsTheory (with_structures 85 u_of_U [])
    else (if same_name name (letter 86) then IsView (record { name = letter 86; domain = letter 84; codomain = letter 85; map = renamed r_s_a_of_T u_of_U })
    else (if same_name name (letter 88) then IsRefused else IsAbsent)))))

-- `T.r.s` leads from S to T, and `T.r.s V` from S to U.
abbrev pub StructuresCompose : Type 0
StructuresCompose =
    row_meaning modules None ((letter 84 ∷ letter 114 ∷ letter 115 ∷ []) ∷ []) ≡ RowMeans (record { domain = letter 83; codomain = letter 84; map = renamed a_of_S r_s_a_of_T })

abbrev pub WordsCompose : Type 0
WordsCompose =
    row_meaning modules None ((letter 84 ∷ letter 114 ∷ letter 115 ∷ []) ∷ (letter 86 ∷ []) ∷ []) ≡ RowMeans (record { domain = letter 83; codomain = letter 85; map = renamed a_of_S u_of_U })

-- In T itself its structures are those that it has so far.
abbrev pub OwnStructuresAreHere : Type 0
OwnStructuresAreHere =
    row_meaning (λ (name : Name). if same_name name (letter 84) then IsAbsent else modules name) (Some face_of_T) ((letter 84 ∷ letter 114 ∷ []) ∷ [])
    ≡ RowMeans (record { domain = letter 82; codomain = letter 84; map = renamed s_a_of_R r_s_a_of_T })

-- The second word is at fault: it does not follow; its module is absent, refused, a theory, or a view where structures are
-- named; its structure is not there.
abbrev pub second_word : Path → RowMeaning
second_word word = row_meaning modules None ((letter 82 ∷ letter 115 ∷ []) ∷ word ∷ [])

abbrev pub EndsAreApart : Type 0
EndsAreApart = second_word (letter 86 ∷ []) ≡ RowFaulty 1 EndsApart

abbrev pub ModuleIsUnknown : Type 0
ModuleIsUnknown = second_word (letter 90 ∷ []) ≡ RowFaulty 1 UnknownModule

abbrev pub ModuleIsRefused : Type 0
ModuleIsRefused = second_word (letter 88 ∷ letter 115 ∷ []) ≡ RowFaulty 1 RefusedModule

abbrev pub TheoryIsNoWord : Type 0
TheoryIsNoWord = second_word (letter 84 ∷ []) ≡ RowFaulty 1 WrongKind

abbrev pub ViewHasNoStructures : Type 0
ViewHasNoStructures = second_word (letter 86 ∷ letter 115 ∷ []) ≡ RowFaulty 1 WrongKind

abbrev pub StructureIsUnknown : Type 0
StructureIsUnknown = second_word (letter 84 ∷ letter 114 ∷ letter 122 ∷ []) ≡ RowFaulty 1 UnknownStructure
