-- What each step tells: of the place before it, the number found and the place after it.
use Rattle.std.specs.Prelude.{◌≡◌, ◌≢◌, ℕ, true, List, [], ◌∷◌, ◌++◌, length, Option, Some}
use Rattle.atomic_table.specs.Table.{Me, Step, rest}
use Rattle.atomic_table.specs.Seated.{TableId}
use Rattle.turn_meaning.specs.Numbers.{are_of_others, are_below}
use Rattle.turn_lock.specs.declared.view.View.{View}
use Rattle.turn_lock.specs.declared.view.Stage.{Stage}
use Rattle.turn_lock.specs.declared.view.Stage.TheVariants.{Idle, Drawn, Found, Noted}
use Rattle.turn_lock.specs.Views.{at_stage, joined_view, longer}
use Rattle.turn_lock.specs.Rule.{Begins}

-- the lock's table has three words and one slot, and the seat is at it
pub record IsTable (table seat : TableId) : Type 0 where
  pub words : table.words ≡ 3
  pub slots : table.slots ≡ 1
  pub same : seat ≡ table

-- its look has found its turn
abbrev pub IsFound : Stage → Type 0
IsFound stage = (own : ℕ) × (stage ≡ Found own)

-- a pass without a ticket, at which nothing is kept of another pass
pub record IsAlone {E : Type 0} (view : View E) : Type 0 where
  pub idle : view.stage ≡ Idle
  pub no_numbers : view.other_numbers ≡ []
  pub no_seen : view.other_seen ≡ []

-- a seat's view and the slot in its hand
abbrev pub Place : Type 0 → Type 0 → Type 0
Place T E = Me (Option T) (View E)

abbrev At : Type 0 → Type 0
At T = Step (Option T)

module _ {T E : Type 0} where
  -- the ticket was drawn, if it was the next
  abbrev pub drew : At T → Place T E → ℕ → Place T E → Type 0
  drew step before found after =
      (found ≡ step.first → after ≡ (at_stage (Drawn step.first) before.0, before.1)) × (found ≢ step.first → after ≡ before)

  -- its turn was found, or it is not yet
  abbrev pub looked : At T → Place T E → ℕ → Place T E → Type 0
  looked step before found after =
      (own : ℕ) → before.0.stage ≡ Drawn own
      → (found ≡ own → after ≡ (at_stage (Found own) before.0, before.1)) × (found ≢ own → after ≡ before)

  -- entries were added to those seen
  abbrev pub entered : List E → At T → Place T E → ℕ → Place T E → Type 0
  entered added step before found after = after ≡ (record before.0 { seen = before.0.seen ++ added }, before.1)

  -- the turn is over, and the slot is given back
  abbrev pub passed : At T → Place T E → ℕ → Place T E → Type 0
  passed step before found after = after ≡ (at_stage Idle before.0, rest before.1)

  module _ (entries_of : T → List E) (number_of : E → ℕ) where
    -- The value is taken with all its entries, which go on from those seen.
    pub record Notes (own : ℕ) (before : Place T E) (found : ℕ) (after : Place T E) : Type 0 where
      pub value : T
      pub goes_on : Begins number_of before.0.numbers before.0.seen (entries_of value)
      pub below : (joined : List ℕ) → before.0.numbers ≡ 0 ∷ joined → are_below number_of before.0.made (entries_of value) ≡ true
      pub count : found ≡ length (entries_of value)
      pub after_is : after ≡ (record before.0 { stage = Noted own; seen = entries_of value }, (0, Some value) ∷ [])

    abbrev pub noted : At T → Place T E → ℕ → Place T E → Type 0
    noted step before found after = (own : ℕ) → before.0.stage ≡ Found own → Notes own before found after

  module _ (number_of : E → ℕ) where
    -- no entry that pass 0 has seen carries the number of the next pass
    abbrev pub told : At T → Place T E → ℕ → Place T E → Type 0
    told step before found after =
        (after ≡ before) × ((joined : List ℕ) → before.0.numbers ≡ 0 ∷ joined → are_of_others number_of before.0.made before.0.seen ≡ true)

    -- both lists begin the longer one, and what each had not seen is of others
    pub record Merges (before after : Place T E) : Type 0 where
      pub goes_on : Begins number_of before.0.numbers before.0.seen (longer before.0.seen before.0.other_seen)
      pub other_goes_on : Begins number_of before.0.other_numbers before.0.other_seen (longer before.0.seen before.0.other_seen)
      pub after_is : after ≡ (joined_view before.0, before.1)

    abbrev pub merged : At T → Place T E → ℕ → Place T E → Type 0
    merged step before found after = Merges before after
