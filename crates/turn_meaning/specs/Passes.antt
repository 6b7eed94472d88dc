-- What is seen of a pass, and what the calls of a lock do to it.
-- A value is under a lock and has entries, each with the number of the pass that made it. Passes of the lock take turns with the
-- value, and a pass has seen the entries that the value had when it last had a turn.
use Rattle.std.specs.Prelude.{◌≡◌, ◌⊎◌, ℕ, ◌+◌, Bool, true, false, List, [], ◌∷◌, ◌++◌, length}
use Rattle.turn_meaning.specs.Numbers.{are_of_others, are_below}

-- What is seen of a pass: the lock that it is of, its number, how many passes were made, itself counted, if it is pass 0 (else
-- 0), whether it has a turn, the entries that it has seen, and the numbers of the passes joined into it, directly or through
-- another pass.
pub record Pass (Lock Entry : Type 0) : Type 0 where
  pub lock : Lock
  pub number : ℕ
  pub made : ℕ
  pub has_turn : Bool
  pub seen : List Entry
  pub joined : List ℕ

-- a pass of this lock, without a turn
pub record IsIdleOf {Lock Entry : Type 0} (lock : Lock) (pass : Pass Lock Entry) : Type 0 where
  pub of : pass.lock ≡ lock
  pub idle : pass.has_turn ≡ false

-- a pass of this lock, with a turn
pub record HasTurnOf {Lock Entry : Type 0} (lock : Lock) (pass : Pass Lock Entry) : Type 0 where
  pub of : pass.lock ≡ lock
  pub turn : pass.has_turn ≡ true

module _ {Lock Entry : Type 0} where
  -- the first pass of a lock has number 0 and has seen the entries of the value
  abbrev pub first_pass : Lock → List Entry → Pass Lock Entry
  first_pass lock entries = record { lock = lock; number = 0; made = 1; has_turn = false; seen = entries; joined = [] }

  -- the pass, with a turn, after it has seen these entries
  abbrev pub in_turn : Pass Lock Entry → List Entry → Pass Lock Entry
  in_turn pass entries = record pass { has_turn = true; seen = entries }

  -- the pass after its turn, at whose end the value had these entries
  abbrev pub after_turn : Pass Lock Entry → List Entry → Pass Lock Entry
  after_turn pass entries = record pass { has_turn = false; seen = entries }

  -- pass 0, after it has made one more
  abbrev pub with_one_more : Pass Lock Entry → Pass Lock Entry
  with_one_more first = record first { made = first.made + 1 }

  -- the pass that is split from pass 0: it has the next number, and has seen what pass 0 has
  abbrev pub split_from : Pass Lock Entry → Pass Lock Entry
  split_from first = record { lock = first.lock; number = first.made; made = 0; has_turn = false; seen = first.seen; joined = [] }

  -- as many passes are joined into this one as were made beside it: that is every other pass, since their numbers differ
  abbrev pub HasJoinedAll : Pass Lock Entry → Type 0
  HasJoinedAll pass = pass.made ≡ length pass.joined + 1

module _ {Entry : Type 0} (number_of : Entry → ℕ) where
  -- these entries begin with those that the pass of this number had seen, and every later one carries another number
  pub record GoesOn (number : ℕ) (seen entries : List Entry) : Type 0 where
    pub later : List Entry
    pub begins : entries ≡ seen ++ later
    pub others : are_of_others number_of number later ≡ true

  -- these entries are those seen and one more, which carries this number
  pub record HasOneMore (number : ℕ) (seen entries : List Entry) : Type 0 where
    pub entry : Entry
    pub own : number_of entry ≡ number
    pub last : entries ≡ seen ++ entry ∷ []

  module _ {Lock : Type 0} where
    -- A turn begins with a value of these entries: they begin with all that the pass had seen, every later one carrying another
    -- number. Where pass 0 takes, every number is below the number of passes made. The pass has then seen them all.
    pub record Takes (before : Pass Lock Entry) (entries : List Entry) (after : Pass Lock Entry) : Type 0 where
      pub goes_on : GoesOn before.number before.seen entries
      pub below : before.number ≡ 0 → are_below number_of before.made entries ≡ true
      pub sees : after ≡ in_turn before entries

    -- a value may be given back with the entries that it had, or with one more of the pass's own number
    abbrev pub MayGive : Pass Lock Entry → List Entry → Type 0
    MayGive pass entries = (entries ≡ pass.seen) ⊎ HasOneMore pass.number pass.seen entries

    -- pass 0 splits: there is one pass more, whose number no entry carries that it has seen
    pub record Splits (before after made : Pass Lock Entry) : Type 0 where
      pub first : after ≡ with_one_more before
      pub next : made ≡ split_from before
      pub unused : are_of_others number_of made.number made.seen ≡ true

    -- A pass takes in another: it has then seen the longer of both lists, which begins with the shorter, and no entry of it that
    -- one of the two had not seen carries that one's number. The other is joined into it, with all that were joined into that.
    pub record Joins (before other after : Pass Lock Entry) : Type 0 where
      pub longer : (after.seen ≡ before.seen) ⊎ (after.seen ≡ other.seen)
      pub goes_on : GoesOn before.number before.seen after.seen
      pub other_goes_on : GoesOn other.number other.seen after.seen
      pub joins : after ≡ record before { seen = after.seen; joined = before.joined ++ other.number ∷ other.joined }
