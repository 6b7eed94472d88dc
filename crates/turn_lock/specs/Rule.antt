-- The rule of the lock: what holds between any two steps on its table, of the words, the slot and all views.
-- Word 0 is the ticket that is drawn next, word 1 the ticket that has its turn, and word 2 how many entries there are. The slot
-- has the value, or nothing while it is in a hand.
use Rattle.std.specs.Prelude.{◌≡◌, ◌⊎◌, ℕ, ◌+◌, ◌<◌, ◌≤◌, true, List, [], ◌∷◌, ◌++◌, length, nat_eq, Option, Some}
use Rattle.std.specs.List.{list_all, count_by, sum_by}
use mathlib.Core.Option as maybe
use mathlib.Core.Option.{some, none}
use lib.ListN.{get_elem?}
use Rattle.atomic_table.specs.Table.{State}
use Rattle.turn_meaning.specs.Numbers.{are_of_others, are_below}
use Rattle.turn_lock.specs.declared.view.View.{View}
use Rattle.turn_lock.specs.declared.view.Stage.{Stage}
use Rattle.turn_lock.specs.declared.view.Stage.TheVariants.{Idle, Drawn, Found, Noted}
use Rattle.turn_lock.specs.Views.{has_ticket, holds_ticket, has_turn}

-- a ticket that is held is at least the one that has its turn and below the next; a pass that has found its turn holds that one
abbrev pub InTurn : ℕ → ℕ → Stage → Type 0
InTurn ticket serving Idle = Unit {0}
InTurn ticket serving (Drawn own) = (serving ≤ own) × (own < ticket)
InTurn ticket serving (Found own) = (own ≡ serving) × (own < ticket)
InTurn ticket serving (Noted own) = (own ≡ serving) × (own < ticket)

-- how often a number stands among those of a view
abbrev pub times_in : {E : Type 0} → ℕ → View E → ℕ
times_in number view = count_by (nat_eq number) view.numbers + count_by (nat_eq number) view.other_numbers

module _ {E : Type 0} (number_of : E → ℕ) where
  -- the history begins with what was seen, and no later entry carries one of these numbers
  pub record Begins (numbers : List ℕ) (seen history : List E) : Type 0 where
    pub later : List E
    pub begins : history ≡ seen ++ later
    pub others : list_all (λ (number : ℕ). are_of_others number_of number later) numbers ≡ true

  -- What holds of each view, beside these words, this number of passes made and this history. A pass that has made its note has
  -- seen the whole history, and is no pass that was joined into another. Pass 0 keeps the number of passes made.
  pub record Fits (ticket serving made : ℕ) (history : List E) (view : View E) : Type 0 where
    pub turn : InTurn ticket serving view.stage
    pub own : Begins view.numbers view.seen history
    pub other : Begins view.other_numbers view.other_seen history
    pub whole : has_turn view.stage ≡ true → view.seen ≡ history
    pub lives : has_turn view.stage ≡ true → 0 < length view.numbers
    pub keeps_made : (joined : List ℕ) → view.numbers ≡ 0 ∷ joined → view.made ≡ made

-- a pass that was made, or one that is being joined, has seen the whole history
abbrev pub HasSeenAll : {E : Type 0} → List E → View E → Type 0
HasSeenAll history view =
    ((0 < length view.numbers) × (view.seen ≡ history)) ⊎ ((0 < length view.other_numbers) × (view.other_seen ≡ history))

-- some view has seen the whole history
pub record IsSeen {E : Type 0} (history : List E) (views : List (View E)) : Type 0 where
  pub id : ℕ
  pub view : View E
  pub at : get_elem? views id ≡ some view
  pub all : HasSeenAll history view

module _ {T E : Type 0} (entries_of : T → List E) where
  -- the value is home with all entries, and no pass has made a note
  pub record IsHome (history : List E) (homes : List (maybe.Option (Option T))) (views : List (View E)) : Type 0 where
    pub value : T
    pub slot : homes ≡ some (Some value) ∷ []
    pub entries : entries_of value ≡ history
    pub nobody : count_by (λ (view : View E). has_turn view.stage) views ≡ 0

  -- the value is out, in the hand of the one pass that has made its note
  pub record IsOut (homes : List (maybe.Option (Option T))) (views : List (View E)) : Type 0 where
    pub slot : homes ≡ none ∷ []
    pub one : count_by (λ (view : View E). has_turn view.stage) views ≡ 1

  -- The history is the longest list that was seen. The holder of a value that is out has seen the history when it took the value,
  -- and again after each entry of its own.
  pub record IsKept (number_of : E → ℕ) (state : State (Option T) (View E)) : Type 0 where
    pub ticket : ℕ
    pub serving : ℕ
    pub made : ℕ
    pub history : List E
    pub words : state.words ≡ ticket ∷ serving ∷ length history ∷ []
    pub fits : ticket < 18446744073709551616
    -- as many passes hold a ticket, and no two the same one
    pub tickets : ticket ≡ serving + count_by (λ (view : View E). has_ticket view.stage) state.views
    pub differ : (own : ℕ) → count_by (λ (view : View E). holds_ticket own view.stage) state.views ≤ 1
    -- the numbers of passes, and of those joined into them, stand once each, and are numbers of passes made
    pub numbers_differ : (number : ℕ) → sum_by (times_in number) state.views ≤ 1
    pub numbers_below : (number : ℕ) → 0 < sum_by (times_in number) state.views → number < made
    pub entries_below : are_below number_of made history ≡ true
    pub each : (id : ℕ) (view : View E) → get_elem? state.views id ≡ some view → Fits number_of ticket serving made history view
    pub seen : IsSeen history state.views
    pub value : IsHome history state.homes state.views ⊎ IsOut state.homes state.views
