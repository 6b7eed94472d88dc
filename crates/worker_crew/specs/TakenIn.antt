-- What pass 0 has seen, once it has taken in the passes of a crew (this profile).
use Rattle.std.specs.Prelude.{◌≡◌, List, ◌++◌, map}
use Rattle.std.specs.List.{All}
use Rattle.module_graph_meaning.specs.Walks.{Dependencies}
use Rattle.turn_meaning.specs.Passes.{Pass}
use Rattle.board_meaning.specs.Events.{Entry, History}
use Rattle.board_meaning.specs.Points.{IsPoint}
use Rattle.worker_crew.specs.Workers.{Worker}

module _ {Lock : Type 0} where
  -- The history begins with what the worker has seen.
  abbrev pub BeginsWithSeen : History → Worker Lock → Type 0
  BeginsWithSeen history worker = (later : History) × (history ≡ worker.pass.seen ++ later)

  -- Pass 0 has taken in the passes of these workers, in their order. What it has then seen is a point for it: a legal history that
  -- begins with what it had seen, and goes on with entries of other passes. It begins with what each worker has seen, too.
  pub record TakesIn (dependencies : Dependencies) (before : Pass Lock Entry) (crew : List (Worker Lock)) (after : Pass Lock Entry) : Type 0 where
    pub joins : after ≡ record before { seen = after.seen; joined = before.joined ++ map (λ (worker : Worker Lock). worker.pass.number) crew }
    pub at_point : IsPoint dependencies before.seen before.number after.seen
    pub begins : All (BeginsWithSeen after.seen) crew
