-- Among bytes an edit has one record.
use Rattle.std.proofs.Common.{◌≡◌, true, false, ℕ, zero, suc, ◌+◌, ◌*◌, ◌<◌, ◌^◌, Bool, ◌&&◌, List, [], ◌∷◌, ◌++◌, length, get_or, nat_lt, refl, sym, ap, ◌∙◌, subst, arith, append_assoc, Some}
use Rattle.std.proofs.lemmas.Bool.Decides.{nat_tests}
use Rattle.std.proofs.lemmas.List.Folds.{list_all-append}
use Rattle.std.proofs.lemmas.Nat.{le_bytes_4}
use Rattle.std.specs.List.{list_all}
use Rattle.std.specs.Int.{w32, to_le_bytes, from_le_bytes}
use Rattle.edit_log_meaning.specs.Log.{Edit}
use Rattle.saved_log_meaning.specs.Records.{Read, piece_bytes, piece_of, record_of, record_bytes}
use Rattle.saved_log_laws.specs.RecordLaws.{FitsRecord, AreBytes}
use Rattle.saved_log_laws.proofs.Fronts.{piece_parts, PutParts, DropParts, RecordParts, IsPut, IsDrop, record_parts}

both_true : (a b : Bool) → (a && b) ≡ true → (a ≡ true) × (b ≡ true)
both_true true b e = (refl, e)
both_true false b e = cc

are_split : (xs ys : List ℕ) → AreBytes (xs ++ ys) → AreBytes xs × AreBytes ys
are_split xs ys are = both_true (list_all (λ byte. nat_lt byte 256) xs) (list_all (λ byte. nat_lt byte 256) ys) (sym (list_all-append (λ byte. nat_lt byte 256) xs ys) ∙ are)

each_byte : (xs : List ℕ) → AreBytes xs → (i : ℕ) → get_or xs i 0 < 256
each_byte [] are i = omega arith
each_byte (x ∷ xs) are zero = let is = (both_true (nat_lt x 256) (list_all (λ byte. nat_lt byte 256) xs) are).0 in grind (arith, nat_tests, is)
each_byte (x ∷ xs) are (suc i) = each_byte xs (both_true (nat_lt x 256) (list_all (λ byte. nat_lt byte 256) xs) are).1 i

below_four : (a b c d : ℕ) → a < 256 → b < 256 → c < 256 → d < 256 → a + b * 256 + c * 65536 + d * 16777216 < 2 ^ 32
below_four a b c d a_low b_low c_low d_low = omega arith

-- What four bytes count to.
count_below : (bytes : List ℕ) → ((i : ℕ) → get_or bytes i 0 < 256) → from_le_bytes w32 bytes < 2 ^ 32
count_below bytes each = below_four (get_or bytes 0 0) (get_or bytes 1 0) (get_or bytes 2 0) (get_or bytes 3 0) (each 0) (each 1) (each 2) (each 3)

-- A piece that was read was written so, and what stands behind it are bytes.
record PieceForm (bytes : List ℕ) (r : Read (List ℕ)) : Type 0 where
  pub is : bytes ≡ piece_bytes r.value ++ r.rest
  pub short : length r.value < 2 ^ 32
  pub rest : AreBytes r.rest

piece_form : (bytes : List ℕ) (r : Read (List ℕ)) → AreBytes bytes → piece_of bytes ≡ Some r → PieceForm bytes r
piece_form bytes r are e =
    let parts = piece_parts bytes r e in
    let split = are_split parts.size (r.value ++ r.rest) (subst AreBytes parts.split are) in
    let size : to_le_bytes w32 (length r.value) ≡ parts.size = le_bytes_4 parts.size (length r.value) parts.four (each_byte parts.size split.0) (sym parts.is_size) in
    record {
      is = parts.split ∙ ap (λ (l : List ℕ). l ++ (r.value ++ r.rest)) (sym size) ∙ sym (append_assoc (to_le_bytes w32 (length r.value)) r.value r.rest);
      short = subst (λ (n : ℕ). n < 2 ^ 32) parts.is_size (count_below parts.size (each_byte parts.size split.0));
      rest = (are_split r.value r.rest split.1).1;
    }

put_form : (bytes : List ℕ) (r : Read Edit) → AreBytes bytes → PutParts bytes r → (0 ∷ bytes ≡ record_bytes r.value ++ r.rest) × FitsRecord r.value
put_form bytes r are parts =
    let name = piece_form bytes parts.name are parts.is_piece in
    let text = piece_form parts.name.rest parts.text name.rest parts.is_text in
    subst (λ (r : Read Edit). (0 ∷ bytes ≡ record_bytes r.value ++ r.rest) × FitsRecord r.value) parts.made (
      ap (λ (l : List ℕ). 0 ∷ l) (name.is ∙ ap (λ (l : List ℕ). piece_bytes parts.name.value ++ l) text.is ∙ sym (append_assoc (piece_bytes parts.name.value) (piece_bytes parts.text.value) parts.text.rest)),
      record { named = parts.is_name; name = name.short; text = text.short },
    )

drop_form : (bytes : List ℕ) (r : Read Edit) → AreBytes bytes → DropParts bytes r → (1 ∷ bytes ≡ record_bytes r.value ++ r.rest) × FitsRecord r.value
drop_form bytes r are parts =
    let name = piece_form bytes parts.name are parts.is_piece in
    subst (λ (r : Read Edit). (1 ∷ bytes ≡ record_bytes r.value ++ r.rest) × FitsRecord r.value) parts.made (
      ap (λ (l : List ℕ). 1 ∷ l) name.is,
      record { named = parts.is_name; name = name.short; text = omega arith },
    )

pub read_is_written : (bytes : List ℕ) (edit : Edit) (rest : List ℕ) → AreBytes bytes → record_of bytes ≡ Some (record { value = edit; rest = rest }) → (bytes ≡ record_bytes edit ++ rest) × FitsRecord edit
read_is_written bytes edit rest are e = either (record_parts bytes (record { value = edit; rest = rest }) e)
  where
    tail_are : (kind : ℕ) (behind : List ℕ) → bytes ≡ kind ∷ behind → AreBytes behind
    tail_are kind behind is = (are_split (kind ∷ []) behind (subst AreBytes is are)).1

    either : RecordParts bytes (record { value = edit; rest = rest }) → (bytes ≡ record_bytes edit ++ rest) × FitsRecord edit
    either (IsPut behind is parts) = let form = put_form behind (record { value = edit; rest = rest }) (tail_are 0 behind is) parts in (is ∙ form.0, form.1)
    either (IsDrop behind is parts) = let form = drop_form behind (record { value = edit; rest = rest }) (tail_are 1 behind is) parts in (is ∙ form.0, form.1)
