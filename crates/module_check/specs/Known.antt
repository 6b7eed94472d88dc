-- Faces of a library that is judged from its texts (this profile).
use Rattle.std.specs.Prelude.{◌≡◌, Some}
use Rattle.name_meaning.specs.Names.{Name}
use Rattle.name_meaning.specs.Rows.{Rows, row_of}
use Rattle.edit_log_meaning.specs.Log.{Library}
use Rattle.verdict_meaning.specs.Verdicts as meaning
use Rattle.verdict_meaning.specs.Rounds.{verdict_of}
use Rattle.mmt_interface.specs.Readings.{read_faces}
use Rattle.mmt_interface.specs.declared.verdict.Verdict.{Verdict}

-- Each of these verdicts is the library's.
abbrev pub AreVerdicts : Library → Rows Verdict → Type 0
AreVerdicts library faces = (name : Name) (verdict : meaning.Verdict) → row_of (read_faces faces) name ≡ Some verdict → verdict_of library name ≡ Some verdict
