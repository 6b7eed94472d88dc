-- What a run of the generator leaves on a board (this profile).
use Rattle.std.specs.Prelude.{◌≡◌, ◌<◌, ◌≤◌, ◌+◌, ℕ, true, [], take, Result, Ok, Err}
use Rattle.edit_log_meaning.specs.Log.{Log}
use Rattle.edit_log_meaning.specs.Append.{appended_all}
use Rattle.text_meaning.specs.Dependencies.{dependencies}
use Rattle.board_meaning.specs.Events.{History, log_of}
use Rattle.board_meaning.specs.Legal.{IsLegal}
use Rattle.board_meaning.specs.Ready.{is_closed}
use Rattle.board_meaning.specs.Standing.{installs}
use Rattle.printing_meaning.specs.GeneratorLines as printed
use Rattle.run_meaning.specs.Backing.{AreBacked}
use Rattle.run_meaning.specs.Generator.{counts_of, generated, generator_told, installs_of}
use Rattle.judged_meaning.specs.JudgingByRules.{rules}
use Rattle.install_laws.specs.InstallLaws.{AllStand}
use Rattle.script_reader.specs.Generating.{Generating}
use Rattle.generator_front.specs.declared.counts.Counts.{Counts}

-- The counts as they are printed, beside the numbers of modules and of later edits.
abbrev pub printed_counts : ℕ → ℕ → Counts → printed.Counts
printed_counts modules edits counts =
    record { modules = modules; edits = edits; version = counts.version; accepted = counts.accepted; refused = counts.refused; declarations = counts.declarations }

-- The counts are those of the library that the log leaves.
abbrev pub AreCountsOf : Log → Counts → Type 0
AreCountsOf log counts = (modules edits : ℕ) → printed_counts modules edits counts ≡ counts_of rules modules edits log

-- This is the log after the edits that the generator has given, however many later ones are asked for.
abbrev pub IsLogOfGiven : Generating → Log → Type 0
IsLogOfGiven generating log =
    (edits : ℕ) → generating.given ≤ generating.modules + edits
    → log ≡ appended_all [] (take generating.given (generated generating.start generating.modules edits))

-- This is the log after a first part of the generator's edits.
pub record IsBegun (start modules edits : ℕ) (log : Log) : Type 0 where
  pub given : ℕ
  pub logged : log ≡ appended_all [] (take given (generated start modules edits))

-- The same, while the generator gives its next edit.
abbrev pub HasBegun : Generating → Log → Type 0
HasBegun generating log =
    (edits : ℕ) → generating.given < generating.modules + edits → IsBegun generating.start generating.modules edits log

-- The edits are made and settled: the log is that after all of them; every grounded name stands; as many verdicts were installed as
-- they ask for, whoever brought them; and what the generator tells is backed.
pub record IsSettled (start modules edits : ℕ) (history : History) : Type 0 where
  pub logged : log_of history ≡ appended_all [] (generated start modules edits)
  pub stand : AllStand dependencies history
  pub installed : installs history ≡ installs_of dependencies start modules edits
  pub backed : AreBacked dependencies history (generator_told dependencies start modules edits)

-- The generator is done: the log is that after all its edits; what was counted are the counts of the last library; every grounded
-- name stands; as many verdicts were installed as the edits ask for, whoever brought them; and what the generator tells is backed.
pub record IsDone (start modules edits : ℕ) (counts : Counts) (history : History) : Type 0 where
  pub logged : log_of history ≡ appended_all [] (generated start modules edits)
  pub counted : printed_counts modules edits counts ≡ counts_of rules modules edits (log_of history)
  pub stand : AllStand dependencies history
  pub installed : installs history ≡ installs_of dependencies start modules edits
  pub backed : AreBacked dependencies history (generator_told dependencies start modules edits)

-- How the generator ends: it is done, or, where memory was wanting, it has begun.
abbrev pub Ends : {Fault : Type 0} → ℕ → ℕ → ℕ → Result Counts Fault → History → Type 0
Ends start modules edits (Ok counts) history = IsDone start modules edits counts history
Ends start modules edits (Err fault) history = IsBegun start modules edits (log_of history)

-- The generator was led to its end by its front: the history that the front has then seen.
pub record IsGenerated {Fault : Type 0} (start modules edits : ℕ) (result : Result Counts Fault) (last : History) : Type 0 where
  pub legal : IsLegal dependencies last
  pub closed : is_closed last ≡ true
  pub ends : Ends start modules edits result last
