-- Laws of histories that back what is told of a script (this profile).
use Rattle.std.specs.Prelude.{◌≡◌, ℕ, ◌<◌, ◌≤◌, true, List, [], ◌∷◌, ◌++◌, length, slice_get, Some}
use Rattle.edit_log_meaning.specs.Log.{Log}
use Rattle.board_meaning.specs.Events.{History, log_of}
use Rattle.board_meaning.specs.Standing.{stands}
use Rattle.run_meaning.specs.ScriptCommands.{Command}
use Rattle.run_meaning.specs.ScriptItems.{script_of}
use Rattle.run_meaning.specs.ScriptOutput.{command_told}
use Rattle.run_meaning.specs.ScriptLogs.{commands_of, log_through, script_told}
use Rattle.run_meaning.specs.Judging.{Judging}
use Rattle.run_meaning.specs.Parts.{Telling}
use Rattle.run_meaning.specs.Backing.{AreBacked, BacksScript}
use Rattle.run_laws.specs.RunLaws.{spoken_text}

-- A beginning of the history has this log, and all that the command tells over it stands there.
pub record StandsAt (judging : Judging) (history : History) (log : Log) (command : Command) : Type 0 where
  pub beginning : History
  pub later : History
  pub goes_on : history ≡ beginning ++ later
  pub log_is : log_of beginning ≡ log
  pub stand : (place : ℕ) (telling : Telling) → slice_get (command_told judging log command) place ≡ Some telling → stands judging.dependencies beginning telling.name ≡ true

-- A history backs what is told of a script where so many bytes are written, if all that each command tells stood when the
-- command was played. The commands that count are those of which a byte is to be written: all lines before them are.
abbrev pub PlayedIsBacked : Type 0
PlayedIsBacked =
    (judging : Judging) (history : History) (count : ℕ) (bytes : List ℕ)
    → ((done more : List Command) (command : Command) → commands_of (script_of bytes) ≡ done ++ command ∷ more → length (spoken_text judging [] done) < count
    → StandsAt judging history (log_through [] done) command)
    → BacksScript judging history count bytes

-- Where more bytes are written than the lines of the commands have, all that the script tells is backed.
abbrev pub WholeIsBacked : Type 0
WholeIsBacked =
    (judging : Judging) (history : History) (count : ℕ) (bytes : List ℕ) → length (spoken_text judging [] (commands_of (script_of bytes))) < count
    → BacksScript judging history count bytes → AreBacked judging.dependencies history (script_told judging bytes)

-- What is told where fewer bytes are written is backed too.
abbrev pub FewerAreBacked : Type 0
FewerAreBacked =
    (judging : Judging) (history : History) (count more : ℕ) (bytes : List ℕ) → count ≤ more → BacksScript judging history more bytes → BacksScript judging history count bytes

-- And so it is by a history that goes on.
abbrev pub LaterBacksScript : Type 0
LaterBacksScript =
    (judging : Judging) (history later : History) (count : ℕ) (bytes : List ℕ) → BacksScript judging history count bytes → BacksScript judging (history ++ later) count bytes
