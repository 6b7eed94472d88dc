-- What a session does, turn by turn (this profile).
use Rattle.std.specs.Prelude.{◌≡◌, ◌<◌, ◌-◌, ℕ, Bool, true, false, List, [], ◌∷◌, ◌++◌, length, map, IfSome, IsSome, Option, Some, None}
use Rattle.mmt_outside.specs.Bytes.{Taken, appended, flushed, ReadPrefix, TookPrefix}
use Rattle.printing_meaning.specs.Lines.{lines_of}
use Rattle.printing_meaning.specs.Printed.{bad_line, unended_line}
use Rattle.edit_log_meaning.specs.Log.{Log}
use Rattle.text_meaning.specs.Dependencies.{dependencies}
use Rattle.board_meaning.specs.Events.{History, log_of}
use Rattle.board_meaning.specs.Legal.{IsLegal}
use Rattle.board_meaning.specs.Ready.{is_closed}
use Rattle.run_meaning.specs.ScriptCommands.{Command}
use Rattle.run_meaning.specs.ScriptItems.{Item, Spoken, items_of, script_of}
use Rattle.run_meaning.specs.ScriptOutput.{command_text, output_from, has_fault}
use Rattle.run_meaning.specs.ScriptLogs.{commands_of, log_through}
use Rattle.run_meaning.specs.Backing.{BacksScript}
use Rattle.run_laws.specs.RunLaws.{spoken_text}
use Rattle.install_laws.specs.ScriptBacking.{StandsAt}
use Rattle.judged_meaning.specs.JudgingByRules.{rules}
use Rattle.board_front.specs.Staying.{GoesOn}
use Rattle.script_reader.specs.Reading.{Reading}
use Rattle.script_reader.specs.declared.fault.ScriptFault.{ScriptFault as Fault}
use Rattle.script_reader.specs.declared.fault.ScriptFault.TheVariants.{Bad, Unended, Failed, Spent, Memory as OutOfMemory}
use Rattle.run_status.specs.Taking.{bytes_of}
use Rattle.folder_front.specs.Checked.{Begins}
use Rattle.mmt_top.specs.Outside.{LeavesSink, LeavesSource}
use Rattle.mmt_top.specs.Plays.{Plays, PlaysAll}
use Rattle.run_status.specs.declared.status.Status.{Status}
use Rattle.run_status.specs.declared.status.Status.TheVariants.{Done, Refused, Usage, ReadFault, WriteFault, Memory, ScriptFault}

-- The items of the bytes to come.
abbrev pub items_to_come : Reading → List ℕ → List Item
items_to_come reading bytes = items_of reading.line (lines_of bytes)

-- How a session ends by a status, where this is the output and whether a line is at fault: at Done and at a script
-- fault all of the output was written, and flushed; at a fault of the outside and for want of memory a first part of it was written,
-- and not flushed. A session ends with no other status.
abbrev pub EndsAs : Status → Option Taken → Option Taken → List ℕ → Bool → Type 0
EndsAs Done before now output fault = (fault ≡ false) × (now ≡ flushed (appended before output))
EndsAs Refused before now output fault = ⊥
EndsAs Usage before now output fault = ⊥
EndsAs ReadFault before now output fault = TookPrefix before now output
EndsAs WriteFault before now output fault = TookPrefix before now output
EndsAs Memory before now output fault = TookPrefix before now output
EndsAs ScriptFault before now output fault = (fault ≡ true) × (now ≡ flushed (appended before output))

-- A session answers these statuses alone.
abbrev pub IsSessionStatus : Status → Type 0
IsSessionStatus Done = Unit {0}
IsSessionStatus Refused = ⊥
IsSessionStatus Usage = ⊥
IsSessionStatus ReadFault = Unit {0}
IsSessionStatus WriteFault = Unit {0}
IsSessionStatus Memory = Unit {0}
IsSessionStatus ScriptFault = Unit {0}

-- The edits of a board after a session, where the script makes these: at Done and at a script fault these, at a fault of the outside
-- and for want of memory the first of them.
abbrev pub EditsAre : Status → Log → Log → Type 0
EditsAre Done whole log = log ≡ whole
EditsAre Refused whole log = ⊥
EditsAre Usage whole log = ⊥
EditsAre ReadFault whole log = Begins log whole
EditsAre WriteFault whole log = Begins log whole
EditsAre Memory whole log = Begins log whole
EditsAre ScriptFault whole log = log ≡ whole

-- Where the sink tells its bytes, the history backs what the bytes written tell of the script.
abbrev pub BacksWritten : Option Taken → Option Taken → List ℕ → History → Type 0
BacksWritten before now script history =
    IfSome before (λ (old : Taken). IfSome now (λ (new : Taken). BacksScript rules history (length new.bytes - length old.bytes) script))

-- All that is told by each of these commands of which a byte may be among the first so many, stands after some beginning of the
-- history with the log over which the command is played, the first over this one.
abbrev pub StoodWithin : ℕ → List Command → Log → History → Type 0
StoodWithin count commands log history =
    (done more : List Command) (command : Command) → commands ≡ done ++ command ∷ more → length (spoken_text rules log done) < count
    → StandsAt rules history (log_through log done) command

-- The board that a session leaves which ended by a status, over these items.
pub record Leaves (status : Status) (before now : Option Taken) (items : List Item) (first last : History) : Type 0 where
  pub goes_on : GoesOn (log_of last) first last
  pub edits : EditsAre status (log_through (log_of first) (commands_of items)) (log_of last)
  pub written : List ℕ
  pub took : bytes_of now ≡ bytes_of (appended before written)
  pub stood : StoodWithin (length written) (commands_of items) (log_of first) last

-- How a session ends after an error of the script: the line of the fault is written; a failed source or want of
-- memory writes nothing.
abbrev pub FaultTells : Fault → Status → Option Taken → Option Taken → Type 0
FaultTells (Bad line) status before now = EndsAs status before now (bad_line line) true
FaultTells (Unended line) status before now = EndsAs status before now (unended_line line) true
FaultTells Failed status before now = (status ≡ ReadFault) × (now ≡ before)
FaultTells Spent status before now = ⊥
FaultTells OutOfMemory status before now = (status ≡ Memory) × (now ≡ before)

-- One command was played and its lines were written, and what is still to come is what follows it.
pub record TurnGoesOn (before now : Option Taken) (bytes : List ℕ) (first second : History) (reading later : Reading) (rest : List ℕ) : Type 0 where
  pub command : Command
  pub items : items_to_come reading bytes ≡ Spoken command ∷ items_to_come later rest
  pub took : now ≡ appended before (command_text rules (log_of first) command)
  pub plays : Plays command first second

-- Some commands were.
pub record SessionGoesOn (before now : Option Taken) (bytes : List ℕ) (first second : History) (reading later : Reading) (rest : List ℕ) : Type 0 where
  pub commands : List Command
  pub items : items_to_come reading bytes ≡ map Spoken commands ++ items_to_come later rest
  pub took : now ≡ appended before (spoken_text rules (log_of first) commands)
  pub plays : PlaysAll commands first second

-- How a session ends over these items.
pub record SessionEnds (status : Status) (before now : Option Taken) (items : List Item) (first last : History) : Type 0 where
  pub output : EndsAs status before now (output_from rules (log_of first) items) (has_fault items)
  pub board : Leaves status before now items first last

-- What a turn did: the session goes on, or ends.
abbrev pub TurnTells : Option Status → Option Taken → Option Taken → List ℕ → Option (List ℕ) → History → History → Reading → Reading → Type 0
TurnTells None before now bytes after first second reading later =
    IfSome after (λ rest. TurnGoesOn before now bytes first second reading later rest) × IsSome after
TurnTells (Some status) before now bytes after first second reading later =
    SessionEnds status before now (items_to_come reading bytes) first second × (status ≡ Done → IfSome after (λ rest. rest ≡ []) × IsSome after)

-- A session was led to its end by its front: the history that the front has then seen, what became of the source's bytes and of the
-- sink's, and of their counts of faults.
pub record IsLed (status : Status) (left rest : Option (List ℕ)) (reads reads_after : ℕ) (before now : Option Taken) (writes writes_after : ℕ) (last : History) : Type 0 where
  pub legal : IsLegal dependencies last
  pub closed : is_closed last ≡ true
  pub ends : IfSome left (λ bytes. SessionEnds status before now (script_of bytes) [] last)
  pub read_all : status ≡ Done → IfSome left (λ bytes. rest ≡ Some [])
  pub part_read : ReadPrefix left rest
  pub answers : IsSessionStatus status
  pub source : LeavesSource (Some status) reads reads_after
  pub sink : LeavesSink (Some status) before now writes writes_after
