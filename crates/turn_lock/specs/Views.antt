-- What a seat at the lock's table knows, and what of it a pass shows.
use Rattle.std.specs.Prelude.{◌≡◌, ℕ, ◌+◌, Bool, true, false, List, [], ◌∷◌, ◌++◌, length, cond, nat_eq, nat_lt, Option, None}
use Rattle.atomic_table.specs.Seated.{TableId}
use Rattle.atomic_table.specs.declared.shared.Seat.{Seat}
use Rattle.turn_meaning.specs.Passes.{Pass}
use Rattle.turn_lock.specs.declared.view.View.{View}
use Rattle.turn_lock.specs.declared.view.Stage.{Stage}
use Rattle.turn_lock.specs.declared.view.Stage.TheVariants.{Idle, Drawn, Found, Noted}

-- whether a ticket is held
abbrev pub has_ticket : Stage → Bool
has_ticket Idle = false
has_ticket (Drawn own) = true
has_ticket (Found own) = true
has_ticket (Noted own) = true

-- whether this ticket is held
abbrev pub holds_ticket : ℕ → Stage → Bool
holds_ticket ticket Idle = false
holds_ticket ticket (Drawn own) = nat_eq ticket own
holds_ticket ticket (Found own) = nat_eq ticket own
holds_ticket ticket (Noted own) = nat_eq ticket own

-- whether the note of a turn is made: the value is in the hand
abbrev pub has_turn : Stage → Bool
has_turn Idle = false
has_turn (Drawn own) = false
has_turn (Found own) = false
has_turn (Noted own) = true

-- the numbers behind a pass's own
abbrev pub joined_in : List ℕ → List ℕ
joined_in [] = []
joined_in (number ∷ joined) = joined

module _ {E : Type 0} where
  -- the first pass, which has seen these entries
  abbrev pub first_view : List E → View E
  first_view entries = record { numbers = 0 ∷ []; made = 1; stage = Idle; seen = entries; other_numbers = []; other_seen = [] }

  -- what a pass leaves that was joined into another
  abbrev pub spent_view : View E
  spent_view = record { numbers = []; made = 0; stage = Idle; seen = []; other_numbers = []; other_seen = [] }

  abbrev pub at_stage : Stage → View E → View E
  at_stage stage view = record view { stage = stage }

  -- pass 0, after it has made one more
  abbrev pub with_one_more : View E → View E
  with_one_more view = record view { made = view.made + 1 }

  -- the pass that pass 0 makes
  abbrev pub split_view : View E → View E
  split_view view = record { numbers = view.made ∷ []; made = 0; stage = Idle; seen = view.seen; other_numbers = []; other_seen = [] }

  -- the first half of a join: the other's list and numbers are kept beside the own
  abbrev pub with_other : View E → View E → View E
  with_other view other = record view { other_numbers = other.numbers; other_seen = other.seen }

  -- the longer of two lists
  abbrev pub longer : List E → List E → List E
  longer xs ys = cond (nat_lt (length xs) (length ys)) ys xs

  -- the second half: the longer list, and the numbers of both
  abbrev pub joined_view : View E → View E
  joined_view view =
      record view {
        numbers = view.numbers ++ view.other_numbers;
        seen = longer view.seen view.other_seen;
        other_numbers = [];
        other_seen = [];
      }

-- what is seen of a pass with this number, which has made so many, at this seat
abbrev pub read_pass : {T E : Type 0} → ℕ → ℕ → Seat (Option T) (View E) → Pass TableId E
read_pass number made seat =
    record {
      lock = seat.table_id;
      number = number;
      made = made;
      has_turn = has_turn seat.me.0.stage;
      seen = seat.me.0.seen;
      joined = joined_in seat.me.0.numbers;
    }

-- between two calls a pass is idle with an empty hand, or its turn has begun and the slot in its hand is empty
abbrev pub IsSettled : {T : Type 0} → Stage → List (ℕ × Option T) → Type 0
IsSettled Idle carried = carried ≡ []
IsSettled (Drawn own) carried = ⊥
IsSettled (Found own) carried = ⊥
IsSettled (Noted own) carried = carried ≡ (0, None) ∷ []

-- The number and the count of passes made that a pass keeps are those of its seat, and it knows how many entries it has seen.
pub record IsPassAt {T E : Type 0} (number made count : ℕ) (seat : Seat (Option T) (View E)) : Type 0 where
  pub numbers : seat.me.0.numbers ≡ number ∷ joined_in seat.me.0.numbers
  pub made_is : number ≡ 0 → seat.me.0.made ≡ made
  pub count_is : count ≡ length seat.me.0.seen
  pub no_other_numbers : seat.me.0.other_numbers ≡ []
  pub no_other_seen : seat.me.0.other_seen ≡ []
  pub settled : IsSettled seat.me.0.stage seat.me.1
