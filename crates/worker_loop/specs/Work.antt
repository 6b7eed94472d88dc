-- What the work of a pass comes to, and how many modules are judged in it (this profile).
use Rattle.std.specs.Prelude.{◌≡◌, ℕ, ◌+◌, List}
use Rattle.module_graph_meaning.specs.Subject.{Subject}
use Rattle.board_meaning.specs.Events.{History}
use Rattle.board_meaning.specs.Turns.{TurnEnd, judged_in_all, DoesWork, WorkFindsNoMemory}

module _ {Answer : Type 0} (subject : Subject Answer) (seen : History) (pass : ℕ) where
  -- The work is done, and the steps that were taken are as many as the modules judged.
  pub record IsDone (steps : ℕ) (after : History) (steps_after : ℕ) : Type 0 where
    pub ends : List TurnEnd
    pub does : DoesWork subject seen pass ends after
    pub judged : steps_after ≡ steps + judged_in_all ends

  -- The work stopped for want of memory.
  pub record IsStopped (steps : ℕ) (after : History) (steps_after : ℕ) : Type 0 where
    pub ends : List TurnEnd
    pub wants : WorkFindsNoMemory subject seen pass ends after
    pub judged : steps_after ≡ steps + judged_in_all ends
