-- What is told of a name by the log alone, once it is not to come (this profile).
use Rattle.std.specs.Prelude.{◌≡◌, Bool, false, not, Option, Some, None, is_some}
use Rattle.name_meaning.specs.Names.{Name}
use Rattle.edit_log_meaning.specs.Log.{Log, library_of, version_of, is_present}
use Rattle.verdict_meaning.specs.Rounds.{verdict_of}
use Rattle.mmt_interface.specs.Readings.{read_verdict}
use Rattle.mmt_interface.specs.declared.verdict.Verdict as verdict
use Rattle.mmt_interface.specs.declared.verdict.Verdict.TheVariants.{Accepted, Refused}
use Rattle.verdict_board.specs.declared.replies.Told as told
use Rattle.verdict_board.specs.declared.replies.Told.TheVariants.{Verdict, Pending, Absent}

-- The verdict of the library of the log, or that it lacks the name, with the version of the log.
abbrev pub IsToldOf : Log → Name → told.Told verdict.Verdict → Type 0
IsToldOf log name (Verdict answer version) = (verdict_of (library_of log) name ≡ Some (read_verdict answer)) × (version ≡ version_of log)
IsToldOf log name (Pending version) = ⊥
IsToldOf log name (Absent version) = (is_present (library_of log) name ≡ false) × (version ≡ version_of log)

-- The verdict of an accepted module, if it is told.
abbrev pub accepted_verdict : told.Told verdict.Verdict → Option verdict.Verdict
accepted_verdict (Verdict (Accepted interface) version) = Some (Accepted interface)
accepted_verdict (Verdict (Refused refusal) version) = None
accepted_verdict (Pending version) = None
accepted_verdict (Absent version) = None

-- No accepted module is told of.
abbrev pub unaccepted : told.Told verdict.Verdict → Bool
unaccepted told = not (is_some (accepted_verdict told))
