-- Faces that are of one library (this profile).
use Rattle.std.specs.Prelude.{◌≡◌, Some}
use Rattle.name_meaning.specs.Names.{Name}
use Rattle.name_meaning.specs.Rows.{Rows, row_names, row_of}
use Rattle.edit_log_meaning.specs.Log.{Library}
use Rattle.verdict_meaning.specs.Verdicts as meaning
use Rattle.verdict_meaning.specs.Rounds.{verdict_of}
use Rattle.carried_typing.specs.CarriedTyping.{HaveReachOf}
use Rattle.mmt_interface.specs.Readings.{read_faces}
use Rattle.mmt_interface.specs.declared.verdict.Verdict.{Verdict}

-- Each verdict is this library's, and with the name they have every present name of its reach.
pub record HoldReachOf (library : Library) (rows : Rows Verdict) (name : Name) : Type 0 where
  pub verdicts : (other : Name) (verdict : meaning.Verdict) → row_of (read_faces rows) other ≡ Some verdict → verdict_of library other ≡ Some verdict
  pub reach : HaveReachOf library (row_names rows) name
