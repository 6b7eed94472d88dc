-- What the sink has taken, from how a run ends.
use Rattle.std.proofs.Common.{◌≡◌, ℕ, Bool, true, List, sym, subst}
use Rattle.std.specs.Prelude.{Option}
use Rattle.mmt_outside.specs.Bytes.{Taken}
use Rattle.printing_meaning.specs.Printed.{bad_line, unended_line, usage_line}
use Rattle.script_reader.specs.declared.fault.ScriptFault.{ScriptFault as Fault}
use Rattle.script_reader.specs.declared.fault.ScriptFault.TheVariants.{Bad, Unended, Failed, Spent, Memory as OutOfMemory}
use Rattle.run_status.specs.Taking.{TookOn}
use Rattle.run_status.specs.declared.status.Status.{Status}
use Rattle.run_status.specs.declared.status.Status.TheVariants.{Done, Refused, Usage, ReadFault, WriteFault, Memory, ScriptFault}
use Rattle.run_status.proofs.Taking.{TookOn-flushed, TookOn-none, TookOn-part}
use Rattle.mmt_top.specs.GeneratorRuns as generator
use Rattle.mmt_top.specs.Runs.{IsUsage}
use Rattle.mmt_top.specs.Session.{EndsAs, FaultTells}

-- A script came to its end.
pub ended_on : (status : Status) (before now : Option Taken) (output : List ℕ) (fault : Bool) → EndsAs status before now output fault → TookOn before now
ended_on Done before now output fault ends = TookOn-flushed before now output ends.1
ended_on Refused before now output fault ends = absurd ends
ended_on Usage before now output fault ends = absurd ends
ended_on ReadFault before now output fault ends = TookOn-part before now output ends
ended_on WriteFault before now output fault ends = TookOn-part before now output ends
ended_on Memory before now output fault ends = TookOn-part before now output ends
ended_on ScriptFault before now output fault ends = TookOn-flushed before now output ends.1

untouched_on : (before now : Option Taken) → now ≡ before → TookOn before now
untouched_on before now same = subst (TookOn before) (sym same) (TookOn-none before)

-- It came to an error.
pub faulted_on : (fault : Fault) (status : Status) (before now : Option Taken) → FaultTells fault status before now → TookOn before now
faulted_on (Bad line) status before now tells = ended_on status before now (bad_line line) true tells
faulted_on (Unended line) status before now tells = ended_on status before now (unended_line line) true tells
faulted_on Failed status before now tells = untouched_on before now tells.1
faulted_on Spent status before now tells = absurd tells
faulted_on OutOfMemory status before now tells = untouched_on before now tells.1

-- The generator did.
pub generated_on : (status : Status) (before now : Option Taken) (output : List ℕ) → generator.EndsAs status before now output → TookOn before now
generated_on Done before now output ends = TookOn-flushed before now output ends
generated_on Refused before now output ends = absurd ends
generated_on Usage before now output ends = absurd ends
generated_on ReadFault before now output ends = absurd ends
generated_on WriteFault before now output ends = TookOn-part before now output ends
generated_on Memory before now output ends = TookOn-part before now output ends
generated_on ScriptFault before now output ends = absurd ends

-- The words asked for nothing.
pub usage_on : (status : Status) (before now : Option Taken) → IsUsage status before now → TookOn before now
usage_on Done before now ends = absurd ends
usage_on Refused before now ends = absurd ends
usage_on Usage before now ends = TookOn-flushed before now usage_line ends
usage_on ReadFault before now ends = absurd ends
usage_on WriteFault before now ends = TookOn-part before now usage_line ends
usage_on Memory before now ends = absurd ends
usage_on ScriptFault before now ends = absurd ends
