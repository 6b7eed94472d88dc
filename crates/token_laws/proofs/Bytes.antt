-- Bytes that belong to no identifier, and what follows a row.
use Rattle.std.proofs.Common.{◌≡◌, ℕ, ◌<◌, Bool, true, false, ◌||◌, List, [], ◌∷◌, codes, refl, sym, ◌∙◌, arith, true≢false}
use Rattle.std.proofs.lemmas.Bool.{not-true, not-false}
use Rattle.std.proofs.lemmas.Bool.Decides.{nat_tests}
use Rattle.name_meaning.specs.Characters.{is_white_space, is_identifier_byte, is_special}
use Rattle.text_meaning.specs.Bytes.{begins}
use Rattle.text_meaning.specs.Cut.{ends_row}
use Rattle.token_laws.proofs.CutFollows.{one_of, or_front}

-- a byte that belongs to no identifier is ASCII
low_space : (b : ℕ) → is_white_space b ≡ true → b < 128
low_space b h = grind (arith, nat_tests)

low_special : (b : ℕ) → is_special b ≡ true → b < 128
low_special b h = one_of (λ c. c < 128) (codes ":.()[]{}%\"") b (omega arith, (omega arith, (omega arith, (omega arith, (omega arith, (omega arith, (omega arith, (omega arith, (omega arith, (omega arith, tt)))))))))) h

pub low_byte : (b : ℕ) → is_identifier_byte b ≡ false → b < 128
low_byte b h = go (is_white_space b) (is_special b) refl refl (not-false _ h)
  where
    go : (t u : Bool) → is_white_space b ≡ t → is_special b ≡ u → (is_white_space b || is_special b) ≡ true → b < 128
    go true u e f g = low_space b e
    go false true e f g = low_special b f
    go false false e f g = absurd (true≢false (sym g ∙ rw (e, f) refl))

-- a row that goes no further is followed by no identifier byte
pub ends_row_begins : (bs : List ℕ) → ends_row bs ≡ true → begins is_identifier_byte bs ≡ false
ends_row_begins [] h = refl
ends_row_begins (b ∷ bs) h = or_front _ _ (not-true _ h)
