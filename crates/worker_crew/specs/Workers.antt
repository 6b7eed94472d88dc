-- What is seen of a crew: its workers (this profile).
use Rattle.std.specs.Prelude.{◌≡◌, ◌≢◌, List, [], Result}
use Rattle.std.specs.List.{All}
use Rattle.module_graph_meaning.specs.Walks.{Dependencies}
use Rattle.turn_meaning.specs.Passes.{Pass, IsIdleOf}
use Rattle.board_meaning.specs.Events.{Entry}
use Rattle.board_meaning.specs.Legal.{IsLegal}
use Rattle.base_types.specs.declared.memory.Memory.{Memory}

-- What is seen of a worker: its pass, and whether its work found no memory.
pub record Worker (Lock : Type 0) : Type 0 where
  pub pass : Pass Lock Entry
  pub outcome : Result (Unit {0}) Memory

module _ {Lock : Type 0} (dependencies : Dependencies) (lock : Lock) where
  -- The worker's pass is of this lock, is not pass 0, and has no turn; no other pass is joined into it; and what it has seen is a
  -- legal history.
  pub record IsWorker (worker : Worker Lock) : Type 0 where
    pub idle : IsIdleOf lock worker.pass
    pub number : worker.pass.number ≢ 0
    pub alone : worker.pass.joined ≡ []
    pub legal : IsLegal dependencies worker.pass.seen

  abbrev pub AreWorkers : List (Worker Lock) → Type 0
  AreWorkers crew = All IsWorker crew
