-- A log that stands on a disk: the next edit, and a log that is opened.
use Rattle.std.proofs.Common.{◌≡◌, inl, inr, ⊎_elim, ℕ, ◌+◌, ◌^◌, ◌<◌, ◌≤◌, Bool, true, false, ◌||◌, List, [], ◌∷◌, ◌++◌, length, refl, sym, ap, ◌∙◌, subst, arith, nat_le, nat_lt, length-append, append_assoc}
use Rattle.std.proofs.lemmas.Bool.Decides.{nat_tests}
use Rattle.name_meaning.specs.Limits.{edit_limit, total_limit}
use Rattle.edit_log_meaning.specs.Log.{Edit, Put, Drop, Log, version_of}
use Rattle.edit_log_meaning.specs.Append.{total_size, size_of}
use Rattle.edit_log_laws.proofs.Limits.{made_not_full}
use Rattle.saved_log_meaning.specs.Records.{record_bytes}
use Rattle.saved_log_meaning.specs.SavedFiles.{Edits, heading, file_contents}
use Rattle.saved_log_meaning.specs.Disks.{Only, LeavesOnly}
use Rattle.saved_log_meaning.specs.Appends.{Ready}
use Rattle.saved_log_laws.specs.RecordLaws.{FitsRecord}
use Rattle.saved_log_laws.specs.SavedFileLaws.{Takes, LeadsTo}
use Rattle.saved_log_laws.proofs.Fronts.{put_size, drop_size}
use Rattle.saved_log_laws.proofs.Gates.{takes_fits, short_file}
use Rattle.saved_log_laws.proofs.LastGates.{next_gate, last_gate_read}
use Rattle.saved_log_laws.proofs.Moments.{started}
use Rattle.saved_log.specs.DiskCalls.{OnlyReads, IsAppended}
use Rattle.saved_log.specs.Standing.{StandsAt, IsLeftOrHolds, IsShort}
use Rattle.saved_log.proofs.ReadCalls.{goes_reading}

-- A log that takes an edit has room for it.
first_false : (a b : Bool) → (a || b) ≡ false → a ≡ false
first_false true b e = cc
first_false false b e = refl

pub few : (log : Log) (edit : Edit) → Takes log edit → version_of log < 2 ^ 16
few log edit takes =
    let not = first_false (nat_le edit_limit (version_of log)) (nat_lt total_limit (total_size log + size_of edit)) (made_not_full log edit takes.version takes.made).0 in
    grind (arith, nat_tests, not)

record_small : (edit : Edit) → FitsRecord edit → length (record_bytes edit) < 2 ^ 34
record_small (Put name text) fits = omega (arith, put_size name text, fits.name, fits.text)
record_small (Drop name) fits = omega (arith, drop_size name, fits.name)

-- The piece of an append.
pub piece_small : (log : Log) (edit : Edit) (piece : List ℕ) → Takes log edit → piece ≡ record_bytes edit ++ 0 ∷ [] → length piece ≤ 2 ^ 34
piece_small log edit piece takes is = omega (arith, ap length is, length-append (record_bytes edit) (0 ∷ []), record_small edit (takes_fits log edit takes))

pub read_shut : (log : Log) (front rest : List ℕ) → LeadsTo (length heading) [] front log → file_contents (heading ++ (front ++ 0 ∷ rest)) ≡ Edits log
read_shut log front rest leads = last_gate_read (heading ++ (front ++ 0 ∷ rest)) log (record { front = front; behind = rest; is_split = refl; leads = leads })

abbrev pub ready_at : (log : Log) (edit : Edit) (file : List ℕ) (images : List ℕ → Type 0) (place gate : ℕ) (piece : List ℕ) → StandsAt log place file images → place ≡ gate → Takes log edit → piece ≡ record_bytes edit ++ 0 ∷ []
    → Ready file images gate piece (Edits log) (Edits (log ++ edit ∷ []))
ready_at log edit file images place gate piece stands same takes is =
    let last = stands.ends.last in
    record {
      front = heading ++ last.front;
      behind = last.behind;
      edit_bytes = record_bytes edit;
      is_split = last.is_split ∙ sym (append_assoc heading last.front (0 ∷ last.behind));
      is_durable = stands.is_durable;
      is_place = sym same ∙ stands.ends.is_place ∙ sym (length-append heading last.front);
      is_piece = is;
      if_closed = λ rest. ap file_contents (append_assoc heading last.front (0 ∷ rest)) ∙ read_shut log last.front rest last.leads;
      if_open = λ byte rest wide. ap file_contents (append_assoc heading last.front (byte ∷ (record_bytes edit ++ 0 ∷ rest)))
          ∙ last_gate_read (heading ++ (last.front ++ byte ∷ (record_bytes edit ++ 0 ∷ rest))) (log ++ edit ∷ []) (next_gate file log edit last byte rest wide takes).0;
    }

pub stands_after : (log : Log) (edit : Edit) (file new : List ℕ) (images later : List ℕ → Type 0) (place gate next : ℕ) (piece : List ℕ) (stands : StandsAt log place file images) (same : place ≡ gate) (takes : Takes log edit) (is : piece ≡ record_bytes edit ++ 0 ∷ [])
    → IsAppended (heading ++ stands.ends.last.front) (record_bytes edit) new later → next ≡ gate + length piece → StandsAt (log ++ edit ∷ []) next new later
stands_after log edit file new images later place gate next piece stands same takes is appended is_next =
    let last = stands.ends.last in
    let after = next_gate file log edit last 1 appended.behind (λ (e : 1 ≡ 0). cc) takes in
    let place_is : next ≡ length heading + length after.0.front = omega (arith, is_next, same, stands.ends.is_place, after.1, ap length is, length-append (record_bytes edit) (0 ∷ [])) in
    record {
      ends = record {
        last = record {
          front = after.0.front;
          behind = after.0.behind;
          is_split = appended.is_split ∙ append_assoc heading last.front (1 ∷ (record_bytes edit ++ 0 ∷ appended.behind)) ∙ after.0.is_split;
          leads = after.0.leads;
        };
        is_place = place_is;
      };
      is_durable = appended.is_durable;
    }

-- Whatever a crash leaves of such a disk holds the edits.
pub stands_kept : (log : Log) (gate : ℕ) (file : List ℕ) (images : List ℕ → Type 0) → StandsAt log gate file images → (image : List ℕ) → images image → file_contents image ≡ Edits log
stands_kept log gate file images stands image now = ap file_contents (stands.is_durable image now) ∙ last_gate_read file log stands.ends.last

-- A disk with a new file.
pub stands_new : (log : Log) (file : List ℕ) (images : List ℕ → Type 0) → log ≡ [] → file ≡ heading ++ 0 ∷ [] → Only file images → StandsAt log 8 file images
stands_new log file images none is only = subst (λ (log : Log). StandsAt log 8 file images) (sym none) (record {
  ends = record {
    last = record { front = []; behind = []; is_split = is; leads = λ gate rest. refl };
    is_place = refl;
  };
  is_durable = only;
})

-- What a row of calls leaves that first writes nothing and then leaves short files, where the file is short.
module _ {D : Type 0} (seen : D → List ℕ) (images : D → List ℕ → Type 0) (moment_of : D → ℕ) (left_since : D → ℕ → List ℕ → Type 0) where
  leaves_both : (old between new : D) (P Q : List ℕ → Type 0) → ((image : List ℕ) → Q image → P image) → LeavesOnly moment_of left_since old between P → LeavesOnly moment_of left_since between new Q → LeavesOnly moment_of left_since old new P
  leaves_both old between new P Q weaker first second = record {
    later = omega (arith, first.later, second.later);
    each = λ image left. ⊎_elim (first.each image) (weaker image) (second.before (moment_of old) image first.later left);
    before = λ moment image le left. ⊎_elim (first.before moment image le) (λ one. inr (weaker image one)) (second.before moment image (omega (arith, le, first.later)) left);
  }

  pub opened_new : (old between new : D) → ((image : List ℕ) → left_since old (moment_of old) image → images old image) → OnlyReads seen images moment_of left_since old between → IsShort (seen old)
      → LeavesOnly moment_of left_since between new IsShort → LeavesOnly moment_of left_since old new (IsLeftOrHolds (images old) (seen old))
  opened_new old between new only_now reads short writes =
      let P = IsLeftOrHolds (images old) (seen old) in
      let begun = started moment_of left_since old P (λ image left. inl (only_now image left)) in
      let read = goes_reading seen images moment_of left_since old old between P begun reads (λ image now. inl now) in
      leaves_both old between new P IsShort (λ image few. inr ([], short_file (seen old) short, short_file image few)) read writes
