-- What is counted of what is told (this profile).
use Rattle.std.specs.Prelude.{ℕ, ◌+◌, length, Option, Some, None}
use Rattle.mmt_interface.specs.declared.verdict.Interface.TheVariants.{Theory, View}
use Rattle.mmt_interface.specs.declared.verdict.Verdict as verdict
use Rattle.mmt_interface.specs.declared.verdict.Verdict.TheVariants.{Accepted, Refused}
use Rattle.verdict_board.specs.declared.replies.Told as told
use Rattle.verdict_board.specs.declared.replies.Told.TheVariants.{Verdict, Pending, Absent}
use Rattle.generator_front.specs.declared.counts.Counts.{Counts}

-- The number that is told with an accepted module, if one is told.
abbrev pub size_told : told.Told verdict.Verdict → Option ℕ
size_told (Verdict (Accepted (Theory face size)) version) = Some size
size_told (Verdict (Accepted (View face)) version) = Some (length face.map)
size_told (Verdict (Refused refusal) version) = None
size_told (Pending version) = None
size_told (Absent version) = None

-- The counts with one more module: an accepted one with this number, or a refused one.
abbrev pub counted_more : Counts → Option ℕ → Counts
counted_more counts (Some size) =
    record { version = counts.version; accepted = counts.accepted + 1; refused = counts.refused; declarations = counts.declarations + size }
counted_more counts None =
    record { version = counts.version; accepted = counts.accepted; refused = counts.refused + 1; declarations = counts.declarations }
