-- What one more call of a disk in memory tells.
use Rattle.std.proofs.Common.{◌≡◌, ◌⊎◌, inl, inr, ⊎_elim, refl, sym, subst, ap, ◌∙◌, Bool, true, false, ℕ, suc, ◌+◌, ◌-◌, ◌≤◌, min, nat_le, List, [], ◌∷◌, ◌++◌, length, take, drop, arith, length-append, length-drop}
use Rattle.std.proofs.lemmas.List.{length-take-le, drop_all, take_rest}
use Rattle.std.proofs.lemmas.Bool.Decides.{nat_tests}
use Rattle.saved_log_meaning.specs.Disks.{Torn, Holds, Follows, Only, Elapses}
use Rattle.saved_log_laws.proofs.CutShort.{nothing_is_torn, written_is_torn}
use Rattle.saved_log.specs.MemDisks.{Call, Other, Wrote, CutShort, Synced, seen_of, images_of, left_of, seen_is_image, with_piece, MemState, counted, noted}
use Rattle.saved_log.specs.DiskCalls.{OnlyReads, IsRead}

pub time_of : (start : List ℕ) (calls : List Call) (call : Call) → Elapses (length calls) (suc (length calls)) (left_of start calls) (left_of start (call ∷ calls)) (images_of start (call ∷ calls))
unfolding left_of
time_of start calls call = record {
  later = omega arith;
  nothing_else = λ moment image le left. ⊎_elim (λ now. inr now) (λ both. inl both.1) left;
  keeps = λ moment image le left. inr (le, left);
}

pub no_time : (start : List ℕ) (calls : List Call) → Elapses (length calls) (length calls) (left_of start calls) (left_of start calls) (images_of start calls)
no_time start calls = record {
  later = omega arith;
  nothing_else = λ moment image le left. inl left;
  keeps = λ moment image le left. left;
}

weaker_time : (start : List ℕ) (calls : List Call) (call : Call) → ((image : List ℕ) → images_of start (call ∷ calls) image → images_of start calls image)
    → Elapses (length calls) (suc (length calls)) (left_of start calls) (left_of start (call ∷ calls)) (images_of start calls)
weaker_time start calls call weaker =
    let time = time_of start calls call in
    record {
      later = time.later;
      nothing_else = λ moment image le left. ⊎_elim (λ was. inl was) (λ now. inr (weaker image now)) (time.nothing_else moment image le left);
      keeps = time.keeps;
    }

pub wrote_holds : (start : List ℕ) (calls : List Call) (at : ℕ) (piece : List ℕ) → Holds (seen_of start calls) at piece (seen_of start (Wrote at piece ∷ calls))
unfolding seen_of
wrote_holds start calls at piece = refl

pub wrote_torn : (start : List ℕ) (calls : List Call) (at : ℕ) (piece : List ℕ) → at ≤ length (seen_of start calls) → Follows (Torn at (length piece)) (images_of start calls) (images_of start (Wrote at piece ∷ calls))
unfolding images_of
wrote_torn start calls at piece within image now =
    ⊎_elim (λ is. (seen_of start calls, seen_is_image start calls, written_is_torn at piece (seen_of start calls) image within is)) (λ torn. torn) now

pub cut_torn : (start : List ℕ) (calls : List Call) (at count : ℕ) → Follows (Torn at count) (images_of start calls) (images_of start (CutShort at count ∷ calls))
unfolding images_of
cut_torn start calls at count image now = now

pub none_torn : (start : List ℕ) (calls : List Call) (at count : ℕ) → Follows (Torn at count) (images_of start calls) (images_of start calls)
none_torn start calls at count image now = (image, now, nothing_is_torn at count image)

pub synced_only : (start : List ℕ) (calls : List Call) → Only (seen_of start calls) (images_of start (Synced ∷ calls))
unfolding images_of
synced_only start calls image now = now

pub synced_no_more : (start : List ℕ) (calls : List Call) (image : List ℕ) → images_of start (Synced ∷ calls) image → images_of start calls image
unfolding images_of
synced_no_more start calls image now = subst (images_of start calls) (sym now) (seen_is_image start calls)

pub other_no_more : (start : List ℕ) (calls : List Call) (image : List ℕ) → images_of start (Other ∷ calls) image → images_of start calls image
unfolding images_of
other_no_more start calls image now = now

pub same_seen : (start : List ℕ) (calls : List Call) → (seen_of start (Other ∷ calls) ≡ seen_of start calls) × (seen_of start (Synced ∷ calls) ≡ seen_of start calls)
unfolding seen_of
same_seen start calls = (refl, refl)

pub seen_none : (start : List ℕ) (kept : List Call) → kept ≡ [] → seen_of start kept ≡ start
unfolding seen_of
seen_none start [] none = refl
seen_none start (call ∷ kept) none = cc

-- Calls that write nothing, told of the states of the disk.
module _ (old new : MemState) (start : new.start ≡ old.start) where
  abbrev Reads : Type 0
  Reads = OnlyReads {D = MemState} (λ d. seen_of d.start d.kept) (λ d. images_of d.start d.kept) (λ d. length d.kept) (λ d. left_of d.start d.kept) old new

  at_same_start : (P : List ℕ → List Call → Type 0) (kept : List Call) → new.kept ≡ kept → P old.start kept → P new.start new.kept
  at_same_start P kept is holds = subst (λ (start : List ℕ). P start new.kept) (sym start) (subst (λ (kept : List Call). P old.start kept) (sym is) holds)

  abbrev ReadsTo : List ℕ → List Call → Type 0
  ReadsTo start kept = (seen_of start kept ≡ seen_of old.start old.kept) × ((image : List ℕ) → images_of start kept image → images_of old.start old.kept image)
      × Elapses (length old.kept) (length kept) (left_of old.start old.kept) (left_of start kept) (images_of old.start old.kept)

  reads_of : ReadsTo new.start new.kept → Reads
  reads_of is = record { same = is.0; no_more = is.1; time = is.2 }

  pub reads_none : new.kept ≡ old.kept → Reads
  reads_none is = reads_of (at_same_start ReadsTo old.kept is (refl, (λ image now. now), no_time old.start old.kept))

  pub reads_other : new.kept ≡ Other ∷ old.kept → Reads
  reads_other is = reads_of (at_same_start ReadsTo (Other ∷ old.kept) is ((same_seen old.start old.kept).0, other_no_more old.start old.kept, weaker_time old.start old.kept Other (other_no_more old.start old.kept)))

  pub reads_sync : new.kept ≡ Synced ∷ old.kept → Reads
  reads_sync is = reads_of (at_same_start ReadsTo (Synced ∷ old.kept) is ((same_seen old.start old.kept).1, synced_no_more old.start old.kept, weaker_time old.start old.kept Synced (synced_no_more old.start old.kept)))

-- A write, done or cut short, told of the states of the disk.
module _ (old new : MemState) (start : new.start ≡ old.start) (at from : ℕ) (same : from ≡ at) where
  at_kept : (P : List ℕ → List Call → Type 0) (kept : List Call) → new.kept ≡ kept → P old.start kept → P new.start new.kept
  at_kept P kept is holds = subst (λ (start : List ℕ). P start new.kept) (sym start) (subst (λ (kept : List Call). P old.start kept) (sym is) holds)

  pub holds_after : (piece : List ℕ) → new.kept ≡ Wrote from piece ∷ old.kept → Holds (seen_of old.start old.kept) at piece (seen_of new.start new.kept)
  holds_after piece is = at_kept (λ start kept. Holds (seen_of old.start old.kept) at piece (seen_of start kept)) (Wrote from piece ∷ old.kept) is
      (subst (λ (n : ℕ). Holds (seen_of old.start old.kept) n piece (seen_of old.start (Wrote from piece ∷ old.kept))) same (wrote_holds old.start old.kept from piece))

  pub torn_after : (piece : List ℕ) → new.kept ≡ Wrote from piece ∷ old.kept → at ≤ length (seen_of old.start old.kept) → Follows (Torn at (length piece)) (images_of old.start old.kept) (images_of new.start new.kept)
  torn_after piece is within = at_kept (λ start kept. Follows (Torn at (length piece)) (images_of old.start old.kept) (images_of start kept)) (Wrote from piece ∷ old.kept) is
      (subst (λ (n : ℕ). Follows (Torn n (length piece)) (images_of old.start old.kept) (images_of old.start (Wrote from piece ∷ old.kept))) same (wrote_torn old.start old.kept from piece (omega (arith, same, within))))

  pub cut_after : (count : ℕ) → (new.kept ≡ old.kept) ⊎ (new.kept ≡ CutShort from count ∷ old.kept) → Follows (Torn at count) (images_of old.start old.kept) (images_of new.start new.kept)
  cut_after count (inl is) = at_kept (λ start kept. Follows (Torn at count) (images_of old.start old.kept) (images_of start kept)) old.kept is (none_torn old.start old.kept at count)
  cut_after count (inr is) = at_kept (λ start kept. Follows (Torn at count) (images_of old.start old.kept) (images_of start kept)) (CutShort from count ∷ old.kept) is
      (subst (λ (n : ℕ). Follows (Torn n count) (images_of old.start old.kept) (images_of old.start (CutShort from count ∷ old.kept))) same (cut_torn old.start old.kept from count))

-- The time of any call that is kept, or of none.
module _ (old new : MemState) (start : new.start ≡ old.start) where
  abbrev Passes : List ℕ → List Call → Type 0
  Passes start kept = Elapses (length old.kept) (length kept) (left_of old.start old.kept) (left_of start kept) (images_of start kept)

  pub time_after : (call : Call) → new.kept ≡ call ∷ old.kept → Passes new.start new.kept
  time_after call is = subst (λ (start : List ℕ). Passes start new.kept) (sym start) (subst (λ (kept : List Call). Passes old.start kept) (sym is) (time_of old.start old.kept call))

  pub time_maybe : (call : Call) → (new.kept ≡ old.kept) ⊎ (new.kept ≡ call ∷ old.kept) → Passes new.start new.kept
  time_maybe call (inl is) = subst (λ (start : List ℕ). Passes start new.kept) (sym start) (subst (λ (kept : List Call). Passes old.start kept) (sym is) (no_time old.start old.kept))
  time_maybe call (inr is) = time_after call is

pub after_noted : (call : Call) (old between new : MemState) (extra size : ℕ) → between ≡ counted old extra → new ≡ noted call between size → (new.start ≡ old.start) × (new.kept ≡ call ∷ old.kept)
after_noted call old between new extra size first second =
    (ap (λ (s : MemState). s.start) second ∙ ap (λ (s : MemState). s.start) first, ap (λ (s : MemState). s.kept) second ∙ ap (λ (s : MemState). call ∷ s.kept) first)

pub seen_cut : (start : List ℕ) (calls : List Call) (at count : ℕ) → seen_of start (CutShort at count ∷ calls) ≡ seen_of start calls
unfolding seen_of
seen_cut start calls at count = refl

pub written_length : (old : List ℕ) (at : ℕ) (piece : List ℕ) → at ≤ length old → length (with_piece old at piece) ≡ length old + (length piece - (length old - at))
written_length old at piece within =
    omega (arith, length-append (take at old ++ piece) (drop (at + length piece) old), length-append (take at old) piece, length-take-le at old within, length-drop (at + length piece) old)

-- Bytes of a file, from a place on or from its end.
drop_place : (file : List ℕ) (at : ℕ) → drop (min at (length file)) file ≡ drop at file
drop_place file at = either (nat_le at (length file)) refl
  where
    either : (b : Bool) → nat_le at (length file) ≡ b → drop (min at (length file)) file ≡ drop at file
    either true few = let same : min at (length file) ≡ at = grind (arith, nat_tests, few) in ap (λ (n : ℕ). drop n file) same
    either false many =
        let past : length file ≤ at = grind (arith, nat_tests, many) in
        let end : length file ≤ min at (length file) = omega (arith, past) in
        drop_all (min at (length file)) file end ∙ sym (drop_all at file past)

pub read_of : (file bytes into : List ℕ) (at from count : ℕ) → bytes ≡ file → from ≡ min at (length bytes) → count ≡ min (length (take (length bytes - from) (drop from bytes))) (length into) → take count into ≡ take count (take (length bytes - from) (drop from bytes)) → IsRead file at count into
read_of file bytes into at from count same place is front =
    let rest : take (length bytes - from) (drop from bytes) ≡ drop at file = take_rest bytes from ∙ ap (λ (n : ℕ). drop n bytes) place ∙ drop_place bytes at ∙ ap (λ (l : List ℕ). drop at l) same in
    let left = length-drop at file in
    let size = ap length rest in
    record {
      bytes = front ∙ ap (λ (l : List ℕ). take count l) rest;
      ends = λ room. ((λ none. omega (arith, none, room, is, size, left)), (λ past. omega (arith, past, is, size, left)));
    }

pub after_next : (new between old : List Call) (call : Call) → between ≡ old → (new ≡ between) ⊎ (new ≡ call ∷ between) → (new ≡ old) ⊎ (new ≡ call ∷ old)
after_next new between old call same (inl is) = inl (is ∙ same)
after_next new between old call same (inr is) = inr (is ∙ ap (λ (calls : List Call). call ∷ calls) same)
