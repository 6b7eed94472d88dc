-- What becomes of a board whose front has ended (this profile).
use Rattle.std.specs.Prelude.{◌≡◌}
use Rattle.module_graph_meaning.specs.Walks.{Dependencies}
use Rattle.turn_meaning.specs.Passes.{Pass}
use Rattle.board_meaning.specs.Events.{Entry, History, log_of}
use Rattle.board_meaning.specs.Legal.{IsLegal}
use Rattle.board_meaning.specs.Points.{IsPoint}
use Rattle.board_seats.specs.Seats.{Keeps}

-- The front has led through pass 0, and has done this with what the pass has then seen.
pub record HasLed {Lock : Type 0} (dependencies : Dependencies) (before : Pass Lock Entry) (led : History → Type 0) (after : Pass Lock Entry) : Type 0 where
  pub keeps : Keeps before after
  pub legal : IsLegal dependencies after.seen
  pub leads : led after.seen

-- The front has done this with what pass 0 had seen at its end; the history goes on from that by no edit, and by entries of
-- workers alone.
pub record WasLed (dependencies : Dependencies) (led : History → Type 0) (history : History) : Type 0 where
  pub seen : History
  pub led_to : led seen
  pub at_point : IsPoint dependencies seen 0 history
  pub logged : log_of history ≡ log_of seen
