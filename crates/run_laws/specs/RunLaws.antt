-- Laws of what a script prints (this profile).
use Rattle.std.specs.Prelude.{◌≡◌, ℕ, ◌<◌, ◌≤◌, Bool, true, false, List, [], ◌∷◌, ◌++◌, ◌-◌, ◌==◌, length, map, Option, Some, None, option_to_list}
use Rattle.std.specs.List.{list_all}
use Rattle.name_meaning.specs.Names.{Name, Text}
use Rattle.edit_log_meaning.specs.Log.{Edit, Put, Log, library_of, version_of}
use Rattle.name_meaning.specs.Limits.{text_limit}
use Rattle.edit_log_meaning.specs.Append.{append_answer, appended, appended_all}
use Rattle.printing_meaning.specs.Printed.{bad_line, unended_line}
use Rattle.run_meaning.specs.Judging.{Judging}
use Rattle.printing_meaning.specs.EditLines.{edited_line}
use Rattle.run_meaning.specs.ScriptCommands.{kept, Command, ReportCommand, CheckCommand, FlatCommand, CarryCommand}
use Rattle.run_meaning.specs.Parts.{Telling, telling_of}
use Rattle.run_meaning.specs.Generator.{grounded_names, first_puts, later_puts, generator_told}
use Rattle.run_meaning.specs.ScriptItems.{Item, Spoken, BadAt, UnendedAt, script_of}
use Rattle.run_meaning.specs.ScriptOutput.{command_text, command_told, log_after, output_of, has_fault}
use Rattle.run_meaning.specs.ScriptLogs.{edits_of, log_through, script_log, told_from, told_within, script_told, is_told_of}
use Rattle.run_meaning.specs.Files.{File, load}
use Rattle.run_meaning.specs.Folders.{folder_told}

-- A bad line, or a text without an end that begins at this line.
pub data Fault : Type 0 where
  BadLine : ℕ → Fault
  UnendedText : ℕ → Fault

abbrev pub fault_items : Option Fault → List Item
fault_items None = []
fault_items (Some (BadLine line)) = BadAt line ∷ []
fault_items (Some (UnendedText line)) = UnendedAt line ∷ []

abbrev pub fault_text : Option Fault → List ℕ
fault_text None = []
fault_text (Some (BadLine line)) = bad_line line
fault_text (Some (UnendedText line)) = unended_line line

-- The lines of these commands in order, over this log.
unfoldable pub spoken_text : Judging → Log → List Command → List ℕ
spoken_text judging log [] = []
spoken_text judging log (command ∷ commands) = command_text judging log command ++ spoken_text judging (log_after log command) commands

-- A script is some commands and at most one fault, behind them; its output is the lines of the commands in order, and
-- then the line of the fault, if there is one; the log that it leaves is that after the edits of the commands, in order; and
-- its lines tell what those of the commands tell.
pub record IsPlayed (judging : Judging) (bytes : List ℕ) : Type 0 where
  pub commands : List Command
  pub fault : Option Fault
  pub script : script_of bytes ≡ map Spoken commands ++ fault_items fault
  pub output : output_of judging bytes ≡ spoken_text judging [] commands ++ fault_text fault
  pub log : script_log bytes ≡ appended_all [] (edits_of commands)
  pub told : script_told judging bytes ≡ told_from judging [] commands

abbrev pub OutputIsInOrder : Type 0
OutputIsInOrder = (judging : Judging) (bytes : List ℕ) → IsPlayed judging bytes

-- The bytes are none, or end in a line feed.
unfoldable pub ends_in_feed : List ℕ → Bool
ends_in_feed [] = true
ends_in_feed (byte ∷ []) = byte == 10
ends_in_feed (byte ∷ second ∷ bytes) = ends_in_feed (second ∷ bytes)

-- The longer input has these further items, prints so much more, and makes these further edits.
pub record GoesOn (judging : Judging) (bytes longer : List ℕ) : Type 0 where
  pub items : List Item
  pub script : script_of longer ≡ script_of bytes ++ items
  pub rest : List ℕ
  pub output : output_of judging longer ≡ output_of judging bytes ++ rest
  pub edits : Log
  pub log : script_log longer ≡ script_log bytes ++ edits

-- An input of whole commands, and one that begins with it: its output and its log begin with those of the first.
abbrev pub LongerBeginsWithIt : Type 0
LongerBeginsWithIt =
    (judging : Judging) (bytes more : List ℕ) → ends_in_feed bytes ≡ true → has_fault (script_of bytes) ≡ false
    → GoesOn judging bytes (bytes ++ more)

-- Of what the lines of a script tell, the version is one of its log, and the name is present and grounded in the library
-- of that version.
abbrev pub TellingsAreGrounded : Type 0
TellingsAreGrounded =
    (judging : Judging) (bytes : List ℕ) → list_all (is_told_of judging.dependencies (script_log bytes)) (script_told judging bytes) ≡ true

-- The same of what the lines of a folder tell.
abbrev pub FolderTellingsAreGrounded : Type 0
FolderTellingsAreGrounded =
    (judging : Judging) (files : List File) → list_all (is_told_of judging.dependencies (load files).log) (folder_told judging files) ≡ true

-- The grounded modules over a log, in byte order, each at the version of the log.
abbrev pub all_grounded : Judging → Log → List Telling
all_grounded judging log =
    map (λ (name : Name). record { name = name; version = version_of log }) (grounded_names judging.dependencies (library_of log))

-- A report, a flat text and a carrying of a grounded name tell it, and of another name nothing; a check tells all grounded
-- modules.
pub record TellsAll (judging : Judging) (log : Log) : Type 0 where
  pub report : (name : Name) → command_told judging log (ReportCommand name) ≡ option_to_list (telling_of judging.dependencies log name)
  pub flat : (name : Name) → command_told judging log (FlatCommand name) ≡ option_to_list (telling_of judging.dependencies log name)
  pub carry : (view : Name) (judgement : Text) → command_told judging log (CarryCommand view judgement) ≡ option_to_list (telling_of judging.dependencies log view)
  pub check : command_told judging log CheckCommand ≡ all_grounded judging log

abbrev pub CommandsTellAll : Type 0
CommandsTellAll = (judging : Judging) (log : Log) → TellsAll judging log

-- A checked folder tells all grounded modules.
abbrev pub FoldersTellAll : Type 0
FoldersTellAll = (judging : Judging) (files : List File) → folder_told judging files ≡ all_grounded judging (load files).log

-- Where the generator is done, it has told all grounded modules of the first full library, and of the library after each
-- further edit.
pub record IsToldAfter (judging : Judging) (start modules edits : ℕ) (before : List Edit) : Type 0 where
  pub front : List Telling
  pub behind : List Telling
  pub told : generator_told judging.dependencies start modules edits
      ≡ front ++ all_grounded judging (appended_all (appended_all [] (first_puts start modules)) before) ++ behind

abbrev pub GeneratorsTellAll : Type 0
GeneratorsTellAll =
    (judging : Judging) (start modules edits : ℕ) (before after : List Edit) → later_puts start modules edits ≡ before ++ after
    → IsToldAfter judging start modules edits before

-- Where the bytes written go past the lines of some commands, all that these tell is told, and then what is told by those
-- behind them; where they do not, what is behind these commands tells nothing.
pub record IsToldWithin (judging : Judging) (count : ℕ) (log : Log) (commands more : List Command) : Type 0 where
  pub past : length (spoken_text judging log commands) < count
      → told_within judging count log (commands ++ more)
      ≡ told_from judging log commands ++ told_within judging (count - length (spoken_text judging log commands)) (log_through log commands) more
  pub within : count ≤ length (spoken_text judging log commands)
      → told_within judging count log (commands ++ more) ≡ told_within judging count log commands

abbrev pub BeginningsTellTheirs : Type 0
BeginningsTellTheirs = (judging : Judging) (count : ℕ) (log : Log) (commands more : List Command) → IsToldWithin judging count log commands more

-- The log answers to a kept text what it answers to the text, and is left as by the text; and the same is printed.
pub record IsKeptAlike (log : Log) (name : Name) (text : Text) : Type 0 where
  pub answer : append_answer log (Put name (kept text)) ≡ append_answer log (Put name text)
  pub leaves : appended log (Put name (kept text)) ≡ appended log (Put name text)
  pub line : edited_line log (Put name (kept text)) ≡ edited_line log (Put name text)

abbrev pub KeptTextsAreAlike : Type 0
KeptTextsAreAlike = (log : Log) (name : Name) (text : Text) → IsKeptAlike log name text

-- A text within the limit is kept whole.
abbrev pub ShortTextsAreKept : Type 0
ShortTextsAreKept = (text : Text) → length text ≤ text_limit → kept text ≡ text
