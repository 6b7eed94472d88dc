-- The work of a pass, turn by turn.
use Rattle.std.proofs.Common.{◌≡◌, ℕ, ◌+◌, Bool, true, ◌&&◌, List, [], ◌∷◌, ◌++◌, refl, ap, ◌∙◌, subst, arith}
use Rattle.std.proofs.lemmas.Bool.{and_parts, and_from}
use Rattle.std.specs.List.{list_all}
use Rattle.module_graph_meaning.specs.Subject.{Subject}
use Rattle.turn_meaning.specs.Passes.{Pass}
use Rattle.board_meaning.specs.Events.{Entry, History}
use Rattle.board_meaning.specs.Turns.{TurnEnd, Closed, Turns, TurnFindsNoMemory, TurnsAll, judged_in, judged_in_all, is_open_still}
use Rattle.board_seats.specs.Seats.{Keeps}
use Rattle.worker_loop.specs.Work.{IsDone, IsStopped}
use Rattle.worker_loop.proofs.Steps.{keeps_on, number_still}

pub judged_one_more : (ends : List TurnEnd) (end : TurnEnd) → judged_in_all (ends ++ end ∷ []) ≡ judged_in_all ends + judged_in end
unfolding judged_in_all
judged_one_more [] end = omega arith
judged_one_more (first ∷ ends) end = let h = judged_one_more ends end in omega (arith, h)

open_one_more : (ends : List TurnEnd) (end : TurnEnd) → list_all is_open_still ends ≡ true → is_open_still end ≡ true → list_all is_open_still (ends ++ end ∷ []) ≡ true
open_one_more [] end h g = ap (λ (b : Bool). b && true) g
open_one_more (first ∷ ends) end h g =
    let q = and_parts (is_open_still first) (list_all is_open_still ends) h in
    and_from (is_open_still first) (list_all is_open_still (ends ++ end ∷ [])) q.0 (open_one_more ends end q.1 g)

module _ {Answer : Type 0} (subject : Subject Answer) (pass : ℕ) where
  turns_one_more : (seen between after : History) (ends : List TurnEnd) (end : TurnEnd) → TurnsAll subject seen pass ends between → Turns subject between pass end after
      → TurnsAll subject seen pass (ends ++ end ∷ []) after
  unfolding TurnsAll
  turns_one_more seen between after [] end t u = (after, subst (λ (h : History). Turns subject h pass end after) t u, refl)
  turns_one_more seen between after (first ∷ ends) end t u = (t.0, t.1, turns_one_more t.0 between after ends end t.2 u)

  -- turns so far, none of which found the board closed
  pub record SoFar (seen : History) (steps : ℕ) (now : History) (steps_now : ℕ) : Type 0 where
    pub ends : List TurnEnd
    pub open_still : list_all is_open_still ends ≡ true
    pub turns : TurnsAll subject seen pass ends now
    pub judged : steps_now ≡ steps + judged_in_all ends

  module _ (seen : History) (steps : ℕ) where
    pub at_first : SoFar seen steps seen steps
    unfolding TurnsAll judged_in_all
    at_first = record { ends = []; open_still = refl; turns = refl; judged = omega arith }

    module _ (now : History) (steps_now : ℕ) (so_far : SoFar seen steps now steps_now) (after : History) (steps_after : ℕ) where
      pub one_more : (end : TurnEnd) → is_open_still end ≡ true → Turns subject now pass end after → steps_after ≡ steps_now + judged_in end → SoFar seen steps after steps_after
      one_more end o t j =
          record {
            ends = so_far.ends ++ end ∷ [];
            open_still = open_one_more so_far.ends end so_far.open_still o;
            turns = turns_one_more seen now after so_far.ends end so_far.turns t;
            judged = let a = so_far.judged in let b = judged_one_more so_far.ends end in omega (arith, a, b, j);
          }

      pub done : Turns subject now pass Closed after → steps_after ≡ steps_now + judged_in Closed → IsDone subject seen pass steps after steps_after
      done t j =
          record {
            ends = so_far.ends;
            does = record { open_still = so_far.open_still; between = now; turns = so_far.turns; last = t };
            judged = let a = so_far.judged in omega (arith, a, j);
          }

      pub stopped : TurnFindsNoMemory subject now pass after → steps_after ≡ steps_now → IsStopped subject seen pass steps after steps_after
      stopped w j =
          record {
            ends = so_far.ends;
            wants = record { open_still = so_far.open_still; between = now; turns = so_far.turns; wants = w };
            judged = j ∙ so_far.judged;
          }

-- one more turn of a pass, which does not find the board closed
pub goes_on : {Lock Answer : Type 0} (subject : Subject Answer) (before between after : Pass Lock Entry) (steps steps_between steps_after : ℕ) (end : TurnEnd)
    → Keeps before between × SoFar subject before.number before.seen steps between.seen steps_between
    → is_open_still end ≡ true → Keeps between after → Turns subject between.seen between.number end after.seen → steps_after ≡ steps_between + judged_in end
    → Keeps before after × SoFar subject before.number before.seen steps after.seen steps_after
goes_on subject before between after steps steps_between steps_after end so_far o k t j = (
  keeps_on before between after so_far.0 k,
  one_more subject before.number before.seen steps between.seen steps_between so_far.1 after.seen steps_after end o
      (subst (λ (pass : ℕ). Turns subject between.seen pass end after.seen) (number_still before between so_far.0) t) j,
)
