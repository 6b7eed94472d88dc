-- A text of which the first bytes are kept, as it goes on.
use Rattle.std.proofs.Common.{◌≡◌, ℕ, zero, suc, ◌+◌, ◌-◌, ◌^◌, List, [], ◌∷◌, ◌++◌, length, take, refl, sym, ap, ◌∙◌, arith}
use Rattle.std.specs.Prelude.{min}
use Rattle.std.proofs.lemmas.List.{length-append}
use Rattle.std.proofs.Math.Seq.{take-append-add}
use Rattle.name_meaning.specs.Limits.{text_limit}
use Rattle.run_meaning.specs.ScriptCommands.{kept}
use Rattle.script_reader.specs.HeldTexts.{Held, held_of, more}

-- what follows the first items makes no difference to them
take-front : (n : ℕ) (xs ys : List ℕ) → take n (take n xs ++ ys) ≡ take n (xs ++ ys)
take-front zero xs ys = refl
take-front (suc n) [] ys = refl
take-front (suc n) (x ∷ xs) ys = ap (λ (zs : List ℕ). x ∷ zs) (take-front n xs ys)

-- a text that is held goes on as the text does
pub more-held : (text piece : List ℕ) → more (held_of text) piece ≡ held_of (text ++ piece)
more-held text piece =
    let whole : length (text ++ piece) ≡ length text + length piece = length-append text piece in
    let total : min (min (length text) (2 ^ 64 - 1) + length piece) (2 ^ 64 - 1) ≡ min (length (text ++ piece)) (2 ^ 64 - 1) = omega (arith, whole) in
    ap (λ (bytes : List ℕ). Held-of bytes (min (min (length text) (2 ^ 64 - 1) + length piece) (2 ^ 64 - 1))) (take-front (suc text_limit) text piece)
    ∙ ap (λ (n : ℕ). Held-of (kept (text ++ piece)) n) total
  where
    Held-of : List ℕ → ℕ → Held
    Held-of bytes n = record { kept = bytes; total = n }

-- what is added of a piece fills what is kept
pub kept-more : (front piece : List ℕ) (room : ℕ) → suc text_limit ≡ length front + room → front ++ take room piece ≡ kept (front ++ piece)
kept-more front piece room e = sym (ap (λ (n : ℕ). take n (front ++ piece)) e ∙ take-append-add front piece room)

pub pushed : (held : Held) (piece bytes : List ℕ) (total : ℕ) → bytes ≡ kept (held.kept ++ piece) → total ≡ min (held.total + length piece) (2 ^ 64 - 1)
    → ◌≡◌ {A = Held} (record { kept = bytes; total = total }) (more held piece)
pushed held piece bytes total e f = rw (e, f) refl
