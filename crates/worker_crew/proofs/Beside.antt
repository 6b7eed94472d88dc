-- A board that was led by a front, with a crew beside it.
use Rattle.std.proofs.Common.{◌≡◌, ℕ, List, ap, ◌∙◌, subst}
use Rattle.module_graph_meaning.specs.Walks.{Dependencies}
use Rattle.turn_meaning.specs.Passes.{Pass}
use Rattle.board_meaning.specs.Events.{Entry, History, log_of}
use Rattle.board_meaning.specs.Points.{IsPoint}
use Rattle.worker_crew.specs.Workers.{Worker}
use Rattle.worker_crew.specs.TakenIn.{TakesIn}
use Rattle.worker_crew.specs.Leading.{HasLed, WasLed}

pub was_led : {Lock : Type 0} (dependencies : Dependencies) (leads : History → Type 0) (before between after : Pass Lock Entry) (crew : List (Worker Lock))
    → before.number ≡ 0 → HasLed dependencies before leads between → TakesIn dependencies between crew after → log_of after.seen ≡ log_of between.seen
    → WasLed dependencies leads after.seen
was_led dependencies leads before between after crew zero led taken logged =
    let number : between.number ≡ 0 = ap (λ p. p.number) led.keeps ∙ zero in
    record {
      seen = between.seen;
      led_to = led.leads;
      at_point = subst (λ (n : ℕ). IsPoint dependencies between.seen n after.seen) number taken.at_point;
      logged = logged;
    }
