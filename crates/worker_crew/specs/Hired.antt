-- The workers for whom passes are split from pass 0 (this profile).
use Rattle.std.specs.Prelude.{◌≡◌, ℕ, ◌+◌, List, map, length, Ok}
use Rattle.std.specs.List.{range_with_len}
use Rattle.turn_meaning.specs.Passes.{Pass, split_from}
use Rattle.board_meaning.specs.Events.{Entry}
use Rattle.worker_crew.specs.Workers.{Worker}

module _ {Lock : Type 0} (first : Pass Lock Entry) where
  -- The worker with the pass of this number that is split from pass 0.
  abbrev pub worker_of : ℕ → Worker Lock
  worker_of number = record { pass = split_from (record first { made = number }); outcome = Ok tt }

  -- So many workers, with passes that are split one after another.
  abbrev pub hired : ℕ → List (Worker Lock)
  hired count = map worker_of (range_with_len first.made count)

  -- Pass 0, after it has made so many more.
  abbrev pub with_more : ℕ → Pass Lock Entry
  with_more count = record first { made = first.made + count }

  -- The passes of the crew, and those that are joined into pass 0, are as many as were made beside it.
  abbrev pub AreAllOthers : List (Worker Lock) → Type 0
  AreAllOthers crew = first.made ≡ length first.joined + length crew + 1
