-- How a run of the generator ends (this profile).
use Rattle.std.specs.Prelude.{◌≡◌, ◌++◌, ℕ, true, List, [], Option, nat_eq, if◌then◌else◌}
use Rattle.mmt_outside.specs.Bytes.{Taken, appended, flushed, TookPrefix}
use Rattle.text_meaning.specs.Dependencies.{dependencies}
use Rattle.edit_log_meaning.specs.Log.{Log}
use Rattle.edit_log_meaning.specs.Append.{appended_all}
use Rattle.board_meaning.specs.Events.{History, log_of}
use Rattle.board_meaning.specs.Legal.{IsLegal}
use Rattle.board_meaning.specs.Ready.{is_closed}
use Rattle.printing_meaning.specs.GeneratorLines.{generator_line, installs_line}
use Rattle.run_meaning.specs.Backing.{AreBacked}
use Rattle.run_meaning.specs.Generator.{generated, generator_told}
use Rattle.judged_meaning.specs.Outputs.{generate_output}
use Rattle.generator_front.specs.declared.counts.Counts.{Counts}
use Rattle.generator_front.specs.Generated.{IsBegun, printed_counts}
use Rattle.run_status.specs.declared.status.Status.{Status}
use Rattle.run_status.specs.declared.status.Status.TheVariants.{Done, Refused, Usage, ReadFault, WriteFault, Memory, ScriptFault}

-- The lines of these counts, and without workers of so many installs.
abbrev pub generator_lines : ℕ → ℕ → ℕ → Counts → ℕ → List ℕ
generator_lines workers modules edits counts installed =
    generator_line (printed_counts modules edits counts) ++ (if nat_eq workers 0 then installs_line installed else [])

-- How a run ends by a status, where this is the output: at Done all of it was written, and flushed; where the sink failed and for want of
-- memory a first part of it was written. A run ends with no other status.
abbrev pub EndsAs : Status → Option Taken → Option Taken → List ℕ → Type 0
EndsAs Done before now output = now ≡ flushed (appended before output)
EndsAs Refused before now output = ⊥
EndsAs Usage before now output = ⊥
EndsAs ReadFault before now output = ⊥
EndsAs WriteFault before now output = TookPrefix before now output
EndsAs Memory before now output = TookPrefix before now output
EndsAs ScriptFault before now output = ⊥

-- A run answers these statuses alone.
abbrev pub IsGeneratorStatus : Status → Type 0
IsGeneratorStatus Done = Unit {0}
IsGeneratorStatus Refused = ⊥
IsGeneratorStatus Usage = ⊥
IsGeneratorStatus ReadFault = ⊥
IsGeneratorStatus WriteFault = Unit {0}
IsGeneratorStatus Memory = Unit {0}
IsGeneratorStatus ScriptFault = ⊥

-- The edits of a board after a run: at Done those of the generator, and else the first of these.
abbrev pub MakesEdits : Status → ℕ → ℕ → ℕ → Log → Type 0
MakesEdits Done start modules edits log = log ≡ appended_all [] (generated start modules edits)
MakesEdits Refused start modules edits log = ⊥
MakesEdits Usage start modules edits log = ⊥
MakesEdits ReadFault start modules edits log = ⊥
MakesEdits WriteFault start modules edits log = IsBegun start modules edits log
MakesEdits Memory start modules edits log = IsBegun start modules edits log
MakesEdits ScriptFault start modules edits log = ⊥

-- At Done the history backs what the generator tells.
abbrev pub BacksGenerated : Status → ℕ → ℕ → ℕ → History → Type 0
BacksGenerated status start modules edits history = status ≡ Done → AreBacked dependencies history (generator_told dependencies start modules edits)

-- How a run ends that has a board, and the board that it leaves.
pub record EndsGenerated (status : Status) (workers start modules edits : ℕ) (before now : Option Taken) (last : History) : Type 0 where
  pub output : EndsAs status before now (generate_output start modules edits workers)
  pub legal : IsLegal dependencies last
  pub closed : is_closed last ≡ true
  pub made : MakesEdits status start modules edits (log_of last)
  pub backs : BacksGenerated status start modules edits last
