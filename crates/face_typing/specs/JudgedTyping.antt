-- What a module makes is well typed, where all that is known of others is (Rabe and Kohlhase 2013, section 3; this profile).
-- Nothing is known of the module itself.
use Rattle.std.specs.Prelude.{◌≡◌, ℕ, Bool}
use Rattle.name_meaning.specs.Names.{Name, Text}
use Rattle.library_meaning.specs.Faces.{TheoryFace, ViewFace, IsAbsent, Environment}
use Rattle.library_meaning.specs.Coherence.{IsCoherent}
use Rattle.verdict_meaning.specs.Verdicts.{Theory, View, Accepted, judge}
use Rattle.face_typing.specs.Below.TypedFaces.{IsTypedTheory, IsTypedView, IsTypedEnvironment}

-- A text that is accepted as a theory has a well-typed face, whichever names are ungrounded.
abbrev pub JudgedTheoriesAreTyped : Type 0
JudgedTheoriesAreTyped =
    (environment : Environment) (name : Name) (ungrounded : Name → Bool) (text : Text) (face : TheoryFace) (size : ℕ)
    → IsCoherent environment → IsTypedEnvironment environment → environment name ≡ IsAbsent
    → judge environment ungrounded name text ≡ Accepted (Theory face size) → IsTypedTheory environment face

-- One that is accepted as a view has a typed map.
abbrev pub JudgedViewsAreTyped : Type 0
JudgedViewsAreTyped =
    (environment : Environment) (name : Name) (ungrounded : Name → Bool) (text : Text) (face : ViewFace)
    → IsCoherent environment → IsTypedEnvironment environment → environment name ≡ IsAbsent
    → judge environment ungrounded name text ≡ Accepted (View face) → IsTypedView environment face
