-- The four calls of an append, one after another, on a disk that is ready for it.
use Rattle.std.proofs.Common.{◌≡◌, ℕ, ◌+◌, ◌≤◌, List, [], ◌∷◌, length, drop, inl, ◌∙◌, sym, subst}
use Rattle.saved_log_meaning.specs.SavedFiles.{Contents, file_contents}
use Rattle.saved_log_meaning.specs.Disks.{Holds, Torn, Follows, Only, Elapses, LeavesOnly}
use Rattle.saved_log_meaning.specs.Appends.{Ready, BeforeOrAfter}
use Rattle.saved_log_laws.proofs.Moments.{started, goes_on}
use Rattle.saved_log_laws.proofs.Appending.{at_start, starts, first, written, long, second, rest, staged}
use Rattle.saved_log_laws.proofs.TornWrites.{written_gate}
use Rattle.saved_log.specs.DiskCalls.{OnlyReads, IsAppended}
use Rattle.saved_log.proofs.ReadCalls.{goes_reading}

module _ {D : Type 0} (seen : D → List ℕ) (images : D → List ℕ → Type 0) (moment_of : D → ℕ) (left_since : D → ℕ → List ℕ → Type 0)
    (gate : ℕ) (piece : List ℕ) (before after : Contents) (old : D) (ready : Ready (seen old) (images old) gate piece before after)
    (only_now : (image : List ℕ) → left_since old (moment_of old) image → images old image) where
  abbrev Wanted : List ℕ → Type 0
  Wanted = BeforeOrAfter before after

  pub untouched : LeavesOnly moment_of left_since old old Wanted
  untouched = started moment_of left_since old Wanted (λ image left. inl (at_start (seen old) (images old) gate piece before after ready image (only_now image left)))

  module _ (one : D) (torn_one : gate + 1 ≤ length (seen old) → Follows (Torn (gate + 1) (length piece)) (images old) (images one))
      (time_one : Elapses (moment_of old) (moment_of one) (left_since old) (left_since one) (images one)) where
    here_one : (image : List ℕ) → images one image → Wanted image
    here_one image now = inl (first (seen old) (images old) gate piece before after ready (images one) (torn_one (starts (seen old) (images old) gate piece before after ready)) image now)

    pub first_write : LeavesOnly moment_of left_since old one Wanted
    first_write = goes_on moment_of left_since old old one Wanted (images one) untouched time_one here_one

    module _ (two : D) (reads_two : OnlyReads seen images moment_of left_since one two) where
      pub first_sync : LeavesOnly moment_of left_since old two Wanted
      first_sync = goes_reading seen images moment_of left_since old one two Wanted first_write reads_two here_one

      module _ (written_one : gate + 1 ≤ length (seen old) → Holds (seen old) (gate + 1) piece (seen one)) (durable_two : Only (seen one) (images two))
          (three : D) (torn_three : gate ≤ length (seen two) → Follows (Torn gate 1) (images two) (images three))
          (time_three : Elapses (moment_of two) (moment_of three) (left_since two) (left_since three) (images three)) where
        is_staged : seen two ≡ staged (seen old) (images old) gate piece before after ready
        is_staged = reads_two.same ∙ written (seen old) (images old) gate piece before after ready (seen one) (written_one (starts (seen old) (images old) gate piece before after ready))

        within : gate ≤ length (seen two)
        within = long (seen old) (images old) gate piece before after ready (seen two) is_staged

        only_two : Only (seen two) (images two)
        only_two image now = durable_two image now ∙ sym reads_two.same

        here_three : (image : List ℕ) → images three image → Wanted image
        here_three = second (seen old) (images old) gate piece before after ready (seen two) (images two) (images three) is_staged only_two (torn_three within)

        pub second_write : LeavesOnly moment_of left_since old three Wanted
        second_write = goes_on moment_of left_since old two three Wanted (images three) first_sync time_three here_three

        module _ (four : D) (reads_four : OnlyReads seen images moment_of left_since three four) where
          pub second_sync : LeavesOnly moment_of left_since old four Wanted
          second_sync = goes_reading seen images moment_of left_since old three four Wanted second_write reads_four here_three

          pub is_appended : (gate ≤ length (seen two) → Holds (seen two) gate (1 ∷ []) (seen three)) → Only (seen three) (images four) → IsAppended ready.front ready.edit_bytes (seen four) (images four)
          is_appended written_three durable_four =
              let with_file = subst (λ (f : List ℕ). Holds f gate (1 ∷ []) (seen three)) is_staged (written_three within) in
              let with_place = subst (λ (n : ℕ). Holds (staged (seen old) (images old) gate piece before after ready) n (1 ∷ []) (seen three)) ready.is_place with_file in
              record {
                behind = drop (length ready.edit_bytes + 1) ready.behind;
                is_split = reads_four.same ∙ written_gate file_contents ready.front ready.edit_bytes before after ready.if_closed ready.if_open (rest (seen old) (images old) gate piece before after ready) (seen three) with_place;
                is_durable = λ image now. durable_four image now ∙ sym reads_four.same;
              }
