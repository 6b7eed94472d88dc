-- Faces that are of one library, whole reaches (this profile).
use Rattle.name_meaning.specs.Rows.{Rows, row_names}
use Rattle.edit_log_meaning.specs.Log.{Library}
use Rattle.coherence_laws.specs.CoherenceLaws.{AreClosed}
use Rattle.mmt_interface.specs.CoherentFaces.{AreCoherent}
use Rattle.mmt_interface.specs.declared.verdict.Verdict.{Verdict}
use Rattle.module_check.specs.Known.{AreVerdicts}

-- Each verdict is this library's, and with each name they have every present name of its reach.
pub record HoldReaches (library : Library) (rows : Rows Verdict) : Type 0 where
  pub verdicts : AreVerdicts library rows
  pub reach : AreClosed library (row_names rows)

-- Such faces are coherent.
abbrev pub AreCoherentTogether : Rows Verdict → Type 0
AreCoherentTogether rows = (library : Library) → HoldReaches library rows → AreCoherent rows
