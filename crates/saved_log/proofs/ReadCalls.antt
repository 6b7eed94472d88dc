-- Calls that write nothing, one after another.
use Rattle.std.proofs.Common.{inl, inr, ⊎_elim, refl, ◌∙◌, ℕ, List, arith}
use Rattle.saved_log_meaning.specs.Disks.{LeavesOnly}
use Rattle.saved_log_laws.proofs.Moments.{goes_on}
use Rattle.saved_log.specs.DiskCalls.{OnlyReads}

module _ {D : Type 0} (seen : D → List ℕ) (images : D → List ℕ → Type 0) (moment_of : D → ℕ) (left_since : D → ℕ → List ℕ → Type 0) where
  -- No call.
  pub reads_none : (disk : D) → OnlyReads seen images moment_of left_since disk disk
  reads_none disk = record {
    same = refl;
    no_more = λ image now. now;
    time = record { later = omega arith; nothing_else = λ moment image le left. inl left; keeps = λ moment image le left. left };
  }

  -- Two rows of calls.
  pub reads_both : (old between new : D) → OnlyReads seen images moment_of left_since old between → OnlyReads seen images moment_of left_since between new → OnlyReads seen images moment_of left_since old new
  reads_both old between new first second = record {
    same = second.same ∙ first.same;
    no_more = λ image now. first.no_more image (second.no_more image now);
    time = record {
      later = omega (arith, first.time.later, second.time.later);
      nothing_else = λ moment image le left. ⊎_elim (first.time.nothing_else moment image le) (λ now. inr (first.no_more image now)) (second.time.nothing_else moment image (omega (arith, le, first.time.later)) left);
      keeps = λ moment image le left. second.time.keeps moment image (omega (arith, le, first.time.later)) (first.time.keeps moment image le left);
    };
  }

  -- Behind calls that leave only what has the property, where this is so of what a crash may leave then.
  pub goes_reading : (old between new : D) (P : List ℕ → Type 0) → LeavesOnly moment_of left_since old between P → OnlyReads seen images moment_of left_since between new
      → ((image : List ℕ) → images between image → P image) → LeavesOnly moment_of left_since old new P
  goes_reading old between new P so_far reads here = goes_on moment_of left_since old between new P (images between) so_far reads.time here
