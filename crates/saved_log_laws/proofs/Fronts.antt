-- What is read at the front of a run of numbers is read there whatever stands behind it.
use Rattle.std.proofs.Common.{◌≡◌, ℕ, zero, suc, ◌+◌, ◌<◌, ◌≤◌, ◌^◌, Bool, true, false, List, [], ◌∷◌, ◌++◌, length, take, drop, nat_le, refl, sym, ap, ◌∙◌, subst, arith, length-append, take-append-drop, append_assoc, cond, ◌==◌, Option, Some, None}
use Rattle.std.proofs.lemmas.List.{take_at, drop_at, length-take-le}
use Rattle.std.proofs.lemmas.Bool.Decides.{nat_tests}
use Rattle.std.proofs.lemmas.Nat.{from_le_bytes-to_le_bytes_4}
use Rattle.std.specs.Int.{w32, to_le_bytes, from_le_bytes}
use Rattle.std.specs.Option.{option_and_then}
use Rattle.edit_log_meaning.specs.Log.{Edit, Put, Drop}
use Rattle.saved_log_meaning.specs.Records.{Read, first_bytes, piece_bytes, piece_behind, piece_of, is_saved_name, if_name, name_of, put_of, put_behind, drop_behind, record_of, record_bytes, record_size}
use Rattle.saved_log_laws.specs.RecordLaws.{FitsRecord}

-- What a step that was taken came from.
pub some_then : {A B : Type 0} (f : A → Option B) (o : Option A) (y : B) → option_and_then f o ≡ Some y → (x : A) × (o ≡ Some x) × (f x ≡ Some y)
some_then f None y e = cc
some_then f (Some x) y e = (x, refl, e)

pub some_if : {A : Type 0} (b : Bool) (x y : A) → cond b (Some x) None ≡ Some y → (b ≡ true) × (x ≡ y)
some_if true x y e = (refl, cc)
some_if false x y e = cc

pub then_some : {A B : Type 0} {o : Option A} {x : A} (f : A → Option B) → o ≡ Some x → option_and_then f o ≡ f x
then_some f e = ap (λ o. option_and_then f o) e

pub some_same : {A : Type 0} {x y : A} → Some x ≡ Some y → x ≡ y
some_same e = cc

-- The numbers begin with those that were read, which are as many as the size of what was read and give it again before any others.
pub record Front {A : Type 0} (parse : List ℕ → Option (Read A)) (size : A → ℕ) (bytes : List ℕ) (r : Read A) : Type 0 where
  pub front : List ℕ
  pub split : bytes ≡ front ++ r.rest
  pub long : length front ≡ size r.value
  pub again : (rest : List ℕ) → parse (front ++ rest) ≡ Some (record { value = r.value; rest = rest })

pub first_again : (xs rest : List ℕ) (n : ℕ) → length xs ≡ n → first_bytes n (xs ++ rest) ≡ Some (record { value = xs; rest = rest })
first_again xs rest n e =
    let fits : nat_le n (length (xs ++ rest)) ≡ true = grind (arith, nat_tests, length-append xs rest, e) in
    ap (λ b. cond b (Some (record { value = take n (xs ++ rest); rest = drop n (xs ++ rest) })) None) fits
    ∙ ap (λ (l : List ℕ). Some (record { value = l; rest = drop n (xs ++ rest) })) (take_at xs rest n e)
    ∙ ap (λ (l : List ℕ). Some (record { value = xs; rest = l })) (drop_at xs rest n e)

pub first_front : (n : ℕ) (bytes : List ℕ) (r : Read (List ℕ)) → first_bytes n bytes ≡ Some r → (bytes ≡ r.value ++ r.rest) × (length r.value ≡ n)
first_front n bytes r e =
    let is = some_if (nat_le n (length bytes)) (record { value = take n bytes; rest = drop n bytes }) r e in
    let fits : n ≤ length bytes = grind (arith, nat_tests, is.0) in (
      sym (take-append-drop n bytes) ∙ ap (λ (r : Read (List ℕ)). r.value ++ r.rest) is.1,
      ap (λ (r : Read (List ℕ)). length r.value) (sym is.1) ∙ length-take-le n bytes fits,
    )

abbrev pub piece_size : List ℕ → ℕ
piece_size piece = 4 + length piece

-- The bytes of a piece's length, and the piece.
pub record PieceParts (bytes : List ℕ) (r : Read (List ℕ)) : Type 0 where
  pub size : List ℕ
  pub split : bytes ≡ size ++ (r.value ++ r.rest)
  pub four : length size ≡ 4
  pub is_size : from_le_bytes w32 size ≡ length r.value

pub piece_parts : (bytes : List ℕ) (r : Read (List ℕ)) → piece_of bytes ≡ Some r → PieceParts bytes r
piece_parts bytes r e =
    let both = some_then piece_behind (first_bytes 4 bytes) r e in
    let size = both.0 in
    let first = first_front 4 bytes size both.1 in
    let second = first_front (from_le_bytes w32 size.value) size.rest r both.2 in
    record {
      size = size.value;
      split = first.0 ∙ ap (λ (l : List ℕ). size.value ++ l) second.0;
      four = first.1;
      is_size = sym second.1;
    }

pub piece_again : (size piece rest : List ℕ) → length size ≡ 4 → from_le_bytes w32 size ≡ length piece → piece_of ((size ++ piece) ++ rest) ≡ Some (record { value = piece; rest = rest })
piece_again size piece rest four is =
    ap piece_of (append_assoc size piece rest)
    ∙ then_some piece_behind (first_again size (piece ++ rest) 4 four)
    ∙ first_again piece rest (from_le_bytes w32 size) (sym is)

pub piece_front : (bytes : List ℕ) (r : Read (List ℕ)) → piece_of bytes ≡ Some r → Front piece_of piece_size bytes r
piece_front bytes r e =
    let parts = piece_parts bytes r e in
    record {
      front = parts.size ++ r.value;
      split = parts.split ∙ sym (append_assoc parts.size r.value r.rest);
      long = length-append parts.size r.value ∙ ap (λ (n : ℕ). n + length r.value) parts.four;
      again = λ rest. piece_again parts.size r.value rest parts.four parts.is_size;
    }

pub four_bytes : (n : ℕ) → length (to_le_bytes w32 n) ≡ 4
four_bytes n = refl

pub piece_length : (piece : List ℕ) → length (piece_bytes piece) ≡ piece_size piece
piece_length piece = omega (arith, length-append (to_le_bytes w32 (length piece)) piece, four_bytes (length piece))

pub piece_written : (piece rest : List ℕ) → length piece < 2 ^ 32 → piece_of (piece_bytes piece ++ rest) ≡ Some (record { value = piece; rest = rest })
piece_written piece rest short =
    piece_again (to_le_bytes w32 (length piece)) piece rest (four_bytes (length piece)) (from_le_bytes-to_le_bytes_4 (length piece) short)

pub name_again : (bytes rest name : List ℕ) → is_saved_name name ≡ true → piece_of bytes ≡ Some (record { value = name; rest = rest }) → name_of bytes ≡ Some (record { value = name; rest = rest })
name_again bytes rest name is e = then_some if_name e ∙ ap (λ b. cond b (Some (record { value = name; rest = rest })) None) is

-- What was read as a name is a piece that is one.
pub name_piece : (bytes : List ℕ) (r : Read (List ℕ)) → name_of bytes ≡ Some r → (piece_of bytes ≡ Some r) × (is_saved_name r.value ≡ true)
name_piece bytes r e =
    let both = some_then if_name (piece_of bytes) r e in
    let is = some_if (is_saved_name both.0.value) both.0 r both.2 in
    (both.1 ∙ ap (λ (r : Read (List ℕ)). Some r) is.1, ap (λ (r : Read (List ℕ)). is_saved_name r.value) (sym is.1) ∙ is.0)

-- What was read as a put is a name and a piece behind it.
pub record PutParts (bytes : List ℕ) (r : Read Edit) : Type 0 where
  pub name : Read (List ℕ)
  pub text : Read (List ℕ)
  pub is_piece : piece_of bytes ≡ Some name
  pub is_name : is_saved_name name.value ≡ true
  pub is_text : piece_of name.rest ≡ Some text
  pub made : record { value = Put name.value text.value; rest = text.rest } ≡ r

pub put_parts : (bytes : List ℕ) (r : Read Edit) → option_and_then put_behind (name_of bytes) ≡ Some r → PutParts bytes r
put_parts bytes r e =
    let both = some_then put_behind (name_of bytes) r e in
    let name = both.0 in
    let texts = some_then (put_of name.value) (piece_of name.rest) r both.2 in
    let is = name_piece bytes name both.1 in
    record { name = name; text = texts.0; is_piece = is.0; is_name = is.1; is_text = texts.1; made = some_same texts.2 }

-- What was read as a drop is a name.
pub record DropParts (bytes : List ℕ) (r : Read Edit) : Type 0 where
  pub name : Read (List ℕ)
  pub is_piece : piece_of bytes ≡ Some name
  pub is_name : is_saved_name name.value ≡ true
  pub made : record { value = Drop name.value; rest = name.rest } ≡ r

pub drop_parts : (bytes : List ℕ) (r : Read Edit) → option_and_then drop_behind (name_of bytes) ≡ Some r → DropParts bytes r
drop_parts bytes r e =
    let both = some_then drop_behind (name_of bytes) r e in
    let is = name_piece bytes both.0 both.1 in
    record { name = both.0; is_piece = is.0; is_name = is.1; made = some_same both.2 }

-- A record is that of a put or of a drop.
pub data RecordParts (bytes : List ℕ) (r : Read Edit) : Type 0 where
  IsPut : (behind : List ℕ) → bytes ≡ 0 ∷ behind → PutParts behind r → RecordParts bytes r
  IsDrop : (behind : List ℕ) → bytes ≡ 1 ∷ behind → DropParts behind r → RecordParts bytes r

pub record_parts : (bytes : List ℕ) (r : Read Edit) → record_of bytes ≡ Some r → RecordParts bytes r
unfolding record_of
record_parts [] r e = cc
record_parts (zero ∷ bytes) r e = IsPut bytes refl (put_parts bytes r e)
record_parts (suc zero ∷ bytes) r e = IsDrop bytes refl (drop_parts bytes r e)
record_parts (suc (suc kind) ∷ bytes) r e =
    let not0 : (suc (suc kind) == 0) ≡ false = grind (arith, nat_tests) in
    let not1 : (suc (suc kind) == 1) ≡ false = grind (arith, nat_tests) in
    let none : record_of (suc (suc kind) ∷ bytes) ≡ None =
    ap (λ b. cond b (option_and_then put_behind (name_of bytes)) (cond (suc (suc kind) == 1) (option_and_then drop_behind (name_of bytes)) None)) not0
    ∙ ap (λ b. cond b (option_and_then drop_behind (name_of bytes)) None) not1 in
    absurd (no_some r (sym none ∙ e))
  where
    no_some : {A : Type 0} (x : A) → None ≡ Some x → ⊥
    no_some x e = cc

pub put_again : (bytes behind rest name text : List ℕ) → name_of bytes ≡ Some (record { value = name; rest = behind }) → piece_of behind ≡ Some (record { value = text; rest = rest }) → record_of (0 ∷ bytes) ≡ Some (record { value = Put name text; rest = rest })
unfolding record_of
put_again bytes behind rest name text e h = then_some put_behind e ∙ then_some (put_of name) h

pub drop_again : (bytes rest name : List ℕ) → name_of bytes ≡ Some (record { value = name; rest = rest }) → record_of (1 ∷ bytes) ≡ Some (record { value = Drop name; rest = rest })
unfolding record_of
drop_again bytes rest name e = then_some drop_behind e

pub put_size : (name text : List ℕ) → record_size (Put name text) ≡ suc (piece_size name + piece_size text)
put_size name text = omega (arith, length-append (piece_bytes name) (piece_bytes text), piece_length name, piece_length text)

pub drop_size : (name : List ℕ) → record_size (Drop name) ≡ suc (piece_size name)
drop_size name = ap suc (piece_length name)

put_front : (bytes : List ℕ) (r : Read Edit) → PutParts bytes r → Front record_of record_size (0 ∷ bytes) r
put_front bytes r parts =
    let name = parts.name in
    let text = parts.text in
    let first = piece_front bytes name parts.is_piece in
    let second = piece_front name.rest text parts.is_text in
    subst (λ (r : Read Edit). Front record_of record_size (0 ∷ bytes) r) parts.made (record {
      front = 0 ∷ first.front ++ second.front;
      split = ap (λ (l : List ℕ). 0 ∷ l) (first.split ∙ ap (λ (l : List ℕ). first.front ++ l) second.split ∙ sym (append_assoc first.front second.front text.rest));
      long = omega (arith, length-append first.front second.front, first.long, second.long, put_size name.value text.value);
      again = λ rest. put_again ((first.front ++ second.front) ++ rest) (second.front ++ rest) rest name.value text.value
          (ap name_of (append_assoc first.front second.front rest) ∙ name_again (first.front ++ (second.front ++ rest)) (second.front ++ rest) name.value parts.is_name (first.again (second.front ++ rest)))
          (second.again rest);
    })

drop_front : (bytes : List ℕ) (r : Read Edit) → DropParts bytes r → Front record_of record_size (1 ∷ bytes) r
drop_front bytes r parts =
    let name = parts.name in
    let first = piece_front bytes name parts.is_piece in
    subst (λ (r : Read Edit). Front record_of record_size (1 ∷ bytes) r) parts.made (record {
      front = 1 ∷ first.front;
      split = ap (λ (l : List ℕ). 1 ∷ l) first.split;
      long = omega (arith, first.long, drop_size name.value);
      again = λ rest. drop_again (first.front ++ rest) rest name.value (name_again (first.front ++ rest) rest name.value parts.is_name (first.again rest));
    })

pub record_front : (bytes : List ℕ) (r : Read Edit) → record_of bytes ≡ Some r → Front record_of record_size bytes r
record_front bytes r e = either (record_parts bytes r e)
  where
    either : RecordParts bytes r → Front record_of record_size bytes r
    either (IsPut behind is parts) = subst (λ (l : List ℕ). Front record_of record_size l r) (sym is) (put_front behind r parts)
    either (IsDrop behind is parts) = subst (λ (l : List ℕ). Front record_of record_size l r) (sym is) (drop_front behind r parts)

pub record_written : (edit : Edit) (rest : List ℕ) → FitsRecord edit → record_of (record_bytes edit ++ rest) ≡ Some (record { value = edit; rest = rest })
record_written (Put name text) rest fits =
    put_again ((piece_bytes name ++ piece_bytes text) ++ rest) (piece_bytes text ++ rest) rest name text
    (ap name_of (append_assoc (piece_bytes name) (piece_bytes text) rest) ∙ name_again (piece_bytes name ++ (piece_bytes text ++ rest)) (piece_bytes text ++ rest) name fits.named (piece_written name (piece_bytes text ++ rest) fits.name))
    (piece_written text rest fits.text)
record_written (Drop name) rest fits =
    drop_again (piece_bytes name ++ rest) rest name (name_again (piece_bytes name ++ rest) rest name fits.named (piece_written name rest fits.name))

pub some_size : (edit : Edit) → 0 < record_size edit
some_size (Put name text) = omega (arith, put_size name text)
some_size (Drop name) = omega (arith, drop_size name)

-- A record is not empty, so that the numbers behind it are fewer.
pub shorter : (bytes : List ℕ) (r : Read Edit) → record_of bytes ≡ Some r → length r.rest < length bytes
shorter bytes r e =
    let front = record_front bytes r e in
    let size : 0 < record_size r.value = some_size r.value in
    omega (arith, ap length front.split, length-append front.front r.rest, front.long, size)
