-- Faces that tell what a library's verdicts are on a reach (this profile).
use Rattle.std.specs.Prelude.{◌≡◌, Option, Some, None}
use Rattle.name_meaning.specs.Names.{Name}
use Rattle.name_meaning.specs.Rows.{Rows, row_of}
use Rattle.edit_log_meaning.specs.Log.{Library}
use Rattle.module_graph_meaning.specs.Reach.{reach}
use Rattle.text_meaning.specs.Dependencies.{dependencies}
use Rattle.verdict_meaning.specs.Rounds.{known_of, verdicts}
use Rattle.mmt_interface.specs.CoherentFaces.{AreCoherent}
use Rattle.mmt_interface.specs.Readings.{environment_of}
use Rattle.mmt_interface.specs.declared.verdict.Interface.{Interface}
use Rattle.mmt_interface.specs.declared.verdict.Verdict.{Verdict}
use Rattle.mmt_interface.specs.declared.verdict.Verdict.TheVariants.{Accepted, Refused}

-- They are coherent, tell what the verdicts of the library on the reach of the name tell and nothing else, and have this verdict
-- under the name.
pub record AreFacesOf (library : Library) (name : Name) (verdict : Verdict) (faces : Rows Verdict) : Type 0 where
  pub coherent : AreCoherent faces
  pub told : environment_of faces ≡ known_of (reach dependencies library name) (verdicts library)
  pub own : row_of faces name ≡ Some verdict

-- What an accepted module shows.
abbrev pub accepted_in : Verdict → Option Interface
accepted_in (Accepted interface) = Some interface
accepted_in (Refused refusal) = None
