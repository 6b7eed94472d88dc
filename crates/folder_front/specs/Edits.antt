-- The first edits of a log, made on a board (this profile).
use Rattle.std.specs.Prelude.{◌≡◌, [], ◌++◌}
use Rattle.edit_log_meaning.specs.Log.{Log}
use Rattle.edit_log_meaning.specs.Append.{appended_all}
use Rattle.text_meaning.specs.Dependencies.{dependencies}
use Rattle.board_meaning.specs.Events.{History, log_of}
use Rattle.board_meaning.specs.Legal.{IsLegal}

-- The history is legal, and has what the first edits of the log make.
pub record MadeFirst (log : Log) (history : History) : Type 0 where
  pub legal : IsLegal dependencies history
  pub front : Log
  pub behind : Log
  pub parts : log ≡ front ++ behind
  pub made : log_of history ≡ appended_all [] front
