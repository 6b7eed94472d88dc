-- Lists that stand at a place of a longer one (this profile).
use Rattle.std.specs.Prelude.{ℕ, ◌+◌, ◌<◌, List, length, get_or}

module _ {X : Type 0} where
  -- P holds of each element and its place, where the list stands at `base`.
  abbrev pub HoldsFrom : (ℕ → X → Type 0) → ℕ → List X → Type 0
  HoldsFrom P base xs = (k : ℕ) (d : X) → k < length xs → P (base + k) (get_or xs k d)

  -- R holds of each place, and of its element before and after, where the lists stand at `base`.
  pub record ChangesFrom (R : ℕ → X → X → Type 0) (base : ℕ) (before after : List X) : Type 0 where
    pub at : (k : ℕ) (d : X) → k < length before → R (base + k) (get_or before k d) (get_or after k d)
