-- A file read piece by piece.
use Rattle.std.proofs.Common.{◌≡◌, ℕ, Bool, false, cond, Result, Ok, Err, ◌<◌, List, [], ◌∷◌, ◌++◌, length, take, drop, refl, sym, ap, ◌∙◌, arith, length-append, take-append-drop, append_assoc}
use Rattle.std.proofs.lemmas.List.{drop_at, append-nil}
use Rattle.std.specs.Result.{is_ok, is_err}
use Rattle.saved_log.specs.DiskCalls.{IsRead}

-- The file begins with these bytes.
pub record Begins (file bytes : List ℕ) : Type 0 where
  pub rest : List ℕ
  pub is_split : file ≡ bytes ++ rest

pub begins_empty : (file : List ℕ) → Begins file []
begins_empty file = record { rest = file; is_split = refl }

-- The bytes that were read belong to it too.
pub begins_more : (file bytes into : List ℕ) (at count : ℕ) → at ≡ length bytes → Begins file bytes → IsRead file at count into → Begins file (bytes ++ take count into)
begins_more file bytes into at count is begins read =
    let behind : drop at file ≡ begins.rest = ap (λ (l : List ℕ). drop at l) begins.is_split ∙ drop_at bytes begins.rest at (sym is) in
    record {
      rest = drop count begins.rest;
      is_split = begins.is_split ∙ ap (λ (l : List ℕ). bytes ++ l) (sym (take-append-drop count begins.rest) ∙ ap (λ (l : List ℕ). l ++ drop count begins.rest) (ap (λ (l : List ℕ). take count l) (sym behind) ∙ sym read.bytes)) ∙ sym (append_assoc bytes (take count into) (drop count begins.rest));
    }

none_left : (bytes rest : List ℕ) → length rest ≡ 0 → bytes ≡ bytes ++ rest
none_left bytes [] none = sym (append-nil bytes)
none_left bytes (byte ∷ rest) none = absurd (omega (arith, none))

-- Where none was read, they are all.
pub begins_whole : (file bytes into : List ℕ) (at count : ℕ) → at ≡ length bytes → Begins file bytes → 0 < length into → IsRead file at count into → count ≡ 0 → bytes ≡ file
begins_whole file bytes into at count is begins room read none =
    let end = (read.ends room).0 none in
    none_left bytes begins.rest (omega (arith, end, is, ap length begins.is_split, length-append bytes begins.rest)) ∙ sym begins.is_split

-- Where an addition did not fail, the bytes were added.
pub added : {E : Type 0} (answer : Result (Unit {0}) E) (failed : Bool) (new old more : List ℕ) → new ≡ cond (is_ok answer) (old ++ more) old → failed ≡ is_err answer → failed ≡ false → new ≡ old ++ more
added (Ok done) failed new old more is test kept = is
added (Err fault) failed new old more is test kept = cc
