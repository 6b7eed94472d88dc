-- How a row of calls on a disk goes on.
use Rattle.std.proofs.Common.{◌⊎◌, inl, inr, ⊎_elim, ℕ, List, arith}
use Rattle.saved_log_meaning.specs.Disks.{Elapses, LeavesOnly}

pub time_goes_on : (before between now : ℕ) (left_before left_between left_now : ℕ → List ℕ → Type 0) (images more : List ℕ → Type 0) → Elapses before between left_before left_between images
    → Elapses between now left_between left_now more → Elapses before now left_before left_now (λ image. images image ⊎ more image)
time_goes_on before between now left_before left_between left_now images more first second = record {
  later = omega (arith, first.later, second.later);
  nothing_else = λ since image le left. ⊎_elim (λ left. ⊎_elim inl (λ one. inr (inl one)) (first.nothing_else since image le left)) (λ one. inr (inr one)) (second.nothing_else since image (omega (arith, le, first.later)) left);
  keeps = λ since image le left. second.keeps since image (omega (arith, le, first.later)) (first.keeps since image le left);
}

module _ {D : Type 0} (moment_of : D → ℕ) (left_since : D → ℕ → List ℕ → Type 0) where
  -- Before the first call.
  pub started : (old : D) (P : List ℕ → Type 0) → ((image : List ℕ) → left_since old (moment_of old) image → P image) → LeavesOnly moment_of left_since old old P
  started old P here = record { later = omega arith; each = here; before = λ since image le left. inl left }

  -- One call more, of which each image has P.
  pub goes_on : (old between new : D) (P images : List ℕ → Type 0) → LeavesOnly moment_of left_since old between P → Elapses (moment_of between) (moment_of new) (left_since between) (left_since new) images
      → ((image : List ℕ) → images image → P image) → LeavesOnly moment_of left_since old new P
  goes_on old between new P images so_far time here = record {
    later = omega (arith, so_far.later, time.later);
    each = λ image left. ⊎_elim (so_far.each image) (here image) (time.nothing_else (moment_of old) image so_far.later left);
    before = λ since image le left. ⊎_elim (so_far.before since image le) (λ now. inr (here image now)) (time.nothing_else since image (omega (arith, le, so_far.later)) left);
  }
