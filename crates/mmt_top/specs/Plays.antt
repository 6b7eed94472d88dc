-- What playing commands does to a board (this profile).
use Rattle.std.specs.Prelude.{◌≡◌, ◌⊎◌, ◌++◌, ◌∷◌, List}
use Rattle.edit_log_meaning.specs.Log.{Log}
use Rattle.board_meaning.specs.Events.{History, log_of}
use Rattle.run_meaning.specs.ScriptCommands.{Command}
use Rattle.run_meaning.specs.ScriptOutput.{log_after}
use Rattle.run_meaning.specs.ScriptLogs.{log_through}
use Rattle.install_laws.specs.ScriptBacking.{StandsAt}
use Rattle.judged_meaning.specs.JudgingByRules.{rules}
use Rattle.board_front.specs.Staying.{GoesOn, Stays}

-- A command was played: the history goes on to the log that the command leaves, and all that the command tells stands after some
-- beginning of it with the log before the command.
pub record Plays (command : Command) (before after : History) : Type 0 where
  pub goes_on : GoesOn (log_after (log_of before) command) before after
  pub stood : StandsAt rules after (log_of before) command

-- All that each of these commands tells stands after some beginning of the history with the log over which the command is played,
-- the first over this one.
abbrev pub AllStood : List Command → Log → History → Type 0
AllStood commands log history =
    (done more : List Command) (command : Command) → commands ≡ done ++ command ∷ more → StandsAt rules history (log_through log done) command

-- Commands were played, one after another.
pub record PlaysAll (commands : List Command) (before after : History) : Type 0 where
  pub goes_on : GoesOn (log_through (log_of before) commands) before after
  pub stood : AllStood commands (log_of before) after

-- A command was begun: the history goes on, with the edit of the command or without it.
abbrev pub MayPlay : Command → History → History → Type 0
MayPlay command before after = Stays before after ⊎ GoesOn (log_after (log_of before) command) before after
