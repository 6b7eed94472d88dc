-- What a worker's pass has seen, once it has worked.
use Rattle.std.proofs.Common.{ℕ, List, Result, Ok, Err, sym, ap, ◌∙◌, subst}
use Rattle.std.specs.Prelude.{OnOk, OnErr}
use Rattle.std.specs.List.{AllZip}
use Rattle.module_graph_meaning.specs.Subject.{Subject}
use Rattle.turn_meaning.specs.Passes.{Pass, IsIdleOf}
use Rattle.board_meaning.specs.Events.{Entry, History}
use Rattle.board_meaning.specs.Legal.{IsLegal}
use Rattle.board_meaning.specs.Turns.{TurnEnd, DoesWork, WorkFindsNoMemory, Closed}
use Rattle.board_laws.proofs.Turning.{turns_are_seen, turns_without_memory}
use Rattle.base_types.specs.declared.memory.Memory.{Memory}
use Rattle.board_seats.specs.Seats.{Keeps}
use Rattle.worker_loop.specs.Work.{IsDone, IsStopped}
use Rattle.worker_crew.specs.Workers.{Worker, IsWorker, AreWorkers}
use Rattle.worker_crew.specs.Worked.{HasWorked}
use Rattle.worker_crew.proofs.Lists.{all_over_zip}

module _ {Answer : Type 0} (subject : Subject Answer) (seen : History) (pass : ℕ) (after : History) where
  ends_legal : {V E : Type 0} (outcome : Result V E) → OnOk outcome ((ends : List TurnEnd) × DoesWork subject seen pass ends after)
      → OnErr outcome ((ends : List TurnEnd) × WorkFindsNoMemory subject seen pass ends after) → IsLegal subject.dependencies after
  ends_legal (Ok v) done stopped = (turns_are_seen subject done.1.between pass Closed after done.1.last).1.legal
  ends_legal (Err e) done stopped = (turns_without_memory subject stopped.1.between pass after stopped.1.wants).1.legal

  -- the work of the loop, without its steps
  done_so : {V E : Type 0} (steps steps_after : ℕ) (outcome : Result V E) → OnOk outcome (IsDone subject seen pass steps after steps_after)
      → OnOk outcome ((ends : List TurnEnd) × DoesWork subject seen pass ends after)
  done_so steps steps_after (Ok v) d = (d.ends, d.does)
  done_so steps steps_after (Err e) d = tt

  stopped_so : {V E : Type 0} (steps steps_after : ℕ) (outcome : Result V E) → OnErr outcome (IsStopped subject seen pass steps after steps_after)
      → OnErr outcome ((ends : List TurnEnd) × WorkFindsNoMemory subject seen pass ends after)
  stopped_so steps steps_after (Ok v) s = tt
  stopped_so steps steps_after (Err e) s = (s.ends, s.wants)

pub worked_so : {Lock Answer : Type 0} (subject : Subject Answer) (before : Worker Lock) (outcome : Result (Unit {0}) Memory) (after : Pass Lock Entry) (steps steps_after : ℕ) → Keeps before.pass after
    → OnOk outcome (IsDone subject before.pass.seen before.pass.number steps after.seen steps_after) → OnErr outcome (IsStopped subject before.pass.seen before.pass.number steps after.seen steps_after)
    → HasWorked subject before (record { pass = after; outcome = outcome })
worked_so subject before outcome after steps steps_after keeps d s =
    record {
      keeps = keeps;
      done = done_so subject before.pass.seen before.pass.number after.seen steps steps_after outcome d;
      stopped = stopped_so subject before.pass.seen before.pass.number after.seen steps steps_after outcome s;
    }

module _ {Lock Answer : Type 0} (subject : Subject Answer) (lock : Lock) where
  -- a worker that has worked is a worker still
  pub is_still : (before after : Worker Lock) → HasWorked subject before after → IsWorker subject.dependencies lock before → IsWorker subject.dependencies lock after
  is_still before after w h =
      record {
        idle = subst (IsIdleOf lock) (sym w.keeps) (record { of = h.idle.of; idle = h.idle.idle });
        number = λ e. h.number (sym (ap (λ (p : Pass Lock Entry). p.number) w.keeps) ∙ e);
        alone = ap (λ (p : Pass Lock Entry). p.joined) w.keeps ∙ h.alone;
        legal = ends_legal subject before.pass.seen before.pass.number after.pass.seen after.outcome w.done w.stopped;
      }

  pub are_still : (before after : List (Worker Lock)) → AllZip (HasWorked subject) before after → AreWorkers subject.dependencies lock before → AreWorkers subject.dependencies lock after
  are_still before after z h = all_over_zip (HasWorked subject) (IsWorker subject.dependencies lock) (IsWorker subject.dependencies lock) is_still before after z h
