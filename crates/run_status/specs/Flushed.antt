-- What is flushed at the end of a run (this profile).
use Rattle.std.specs.Prelude.{◌≡◌, length, IfSome, Option}
use Rattle.mmt_outside.specs.Bytes.{Taken}
use Rattle.run_status.specs.declared.status.Status.{Status}
use Rattle.run_status.specs.declared.status.Status.TheVariants.{Done, Refused, Usage, ReadFault, WriteFault, Memory, ScriptFault}

-- Where the sink tells it, all that it took is flushed.
abbrev pub IsFlushed : Option Taken → Type 0
IsFlushed now = IfSome now (λ taken. taken.flushed ≡ length taken.bytes)

-- With these statuses all is flushed.
abbrev pub FlushesAt : Status → Option Taken → Type 0
FlushesAt Done now = IsFlushed now
FlushesAt Refused now = IsFlushed now
FlushesAt Usage now = IsFlushed now
FlushesAt ReadFault now = Unit {0}
FlushesAt WriteFault now = Unit {0}
FlushesAt Memory now = Unit {0}
FlushesAt ScriptFault now = IsFlushed now
