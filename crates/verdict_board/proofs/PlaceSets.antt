-- Sets of places over each change, and the place before which none is in them.
use Rattle.std.proofs.Common.{◌≡◌, ℕ, ◌+◌, Bool, true, false, List, set, slice_get, Some, ⊎_elim, true≢false}
use borrow.Author.Count.{below_more}
use Rattle.list_laws.proofs.Writes.{set_found, set_value}
use Rattle.verdict_board.specs.PlaceSets.{NoneBefore}

module _ (begin : ℕ) (places : List Bool) (none : NoneBefore begin places) where
  -- a place is taken out
  pub none_out : (place : ℕ) → NoneBefore begin (set places place false)
  none_out place other before h = ⊎_elim (λ q. true≢false q.1) (λ q. none other before q) (set_found places place false other true h)

  -- the place up to there is not in
  pub none_past : slice_get places begin ≡ Some false → NoneBefore (begin + 1) places
  none_past h = below_more (λ (other : ℕ). slice_get places other ≡ Some true → ⊥) begin none (λ f. absurd (cc))

  -- it is taken out
  pub none_past_out : NoneBefore (begin + 1) (set places begin false)
  none_past_out =
      below_more (λ (other : ℕ). slice_get (set places begin false) other ≡ Some true → ⊥) begin (none_out begin) (λ f. true≢false (set_value places begin false true f))
