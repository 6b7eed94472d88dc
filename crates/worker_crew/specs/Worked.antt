-- What a worker has done with its pass (this profile).
use Rattle.std.specs.Prelude.{List, OnOk, OnErr}
use Rattle.module_graph_meaning.specs.Subject.{Subject}
use Rattle.board_meaning.specs.Turns.{TurnEnd, DoesWork, WorkFindsNoMemory}
use Rattle.board_seats.specs.Seats.{Keeps}
use Rattle.worker_crew.specs.Workers.{Worker}

-- The worker has worked with its pass, until it found the board closed, or until it found no memory.
pub record HasWorked {Lock Answer : Type 0} (subject : Subject Answer) (before after : Worker Lock) : Type 0 where
  pub keeps : Keeps before.pass after.pass
  pub done : OnOk after.outcome ((ends : List TurnEnd) × DoesWork subject before.pass.seen before.pass.number ends after.pass.seen)
  pub stopped : OnErr after.outcome ((ends : List TurnEnd) × WorkFindsNoMemory subject before.pass.seen before.pass.number ends after.pass.seen)
