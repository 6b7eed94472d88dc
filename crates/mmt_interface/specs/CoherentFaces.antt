-- What every call needs of the faces that it takes, and of a theory that is being built over them (this profile).
use Rattle.std.specs.Prelude.{◌≡◌, ℕ, length, Option, Some, None, ⊤}
use Rattle.name_meaning.specs.Names.{Name}
use Rattle.name_meaning.specs.Rows.{Rows, row_of}
use Rattle.library_meaning.specs.Faces.{flat_signature}
use Rattle.library_meaning.specs.Faces as faces
use Rattle.library_meaning.specs.Coherence.{IsCoherentTheory, IsCoherent}
use Rattle.judged_meaning.specs.Below.Verdicts as verdicts
use Rattle.mmt_interface.specs.Readings.{read_theory, read_faces, environment_of}
use Rattle.mmt_interface.specs.declared.face.TheoryFace.{TheoryFace}
use Rattle.mmt_interface.specs.declared.verdict.Verdict.{Verdict}

-- What is known from the faces is coherent, and each accepted theory has the length of its flat signature as its size.
pub record AreCoherent (rows : Rows Verdict) : Type 0 where
  pub known : IsCoherent (environment_of rows)
  pub sizes : (name : Name) (face : faces.TheoryFace) (size : ℕ) → row_of (read_faces rows) name ≡ Some (verdicts.Accepted (verdicts.Theory face size))
      → size ≡ length (flat_signature (environment_of rows) face)

-- The theory that is being built is coherent over the faces, and these do not have its name.
pub record IsCoherentHere (rows : Rows Verdict) (here : TheoryFace) : Type 0 where
  pub absent : row_of rows here.name ≡ None
  pub theory : IsCoherentTheory (environment_of rows) here.name (read_theory here)

-- So it is, if there is one.
abbrev pub MayBeHere : Rows Verdict → Option TheoryFace → Type 0
MayBeHere rows None = ⊤
MayBeHere rows (Some here) = IsCoherentHere rows here
