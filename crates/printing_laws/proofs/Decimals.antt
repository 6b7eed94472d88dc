-- Printed numbers have no leading zero.
use Rattle.std.proofs.Common.{◌≡◌, ℕ, ◌+◌, ◌/◌, ◌%◌, ◌^◌, ◌<◌, ◌≤◌, true, not, ◌==◌, List, [], ◌∷◌, ◌++◌, get_or, decimal, nat_le, refl, ap, ◌∙◌, arith, le-leb, ne_eqb}
use Rattle.std.specs.List.{list_all}
use Rattle.std.specs.Str.Parse.{IsNumeral, digits_value}
use Rattle.std.proofs.lemmas.Bool.{and_parts, and_from}
use Rattle.std.proofs.lemmas.List.Folds.{list_all-append}
use Rattle.std.proofs.lemmas.Fmt.{decimal_is_IsNumeral_wide, decimal_by_steps_wide}
use Rattle.printing_meaning.specs.Numbers.{is_digit, is_number}

digit_is : (k : ℕ) → k < 10 → is_digit (48 + k) ≡ true
digit_is k h = and_from (nat_le 48 (48 + k)) (nat_le (48 + k) 57) (le-leb 48 (48 + k) (omega arith)) (le-leb (48 + k) 57 (omega arith))

not_zero : (c : ℕ) → 48 < c → not (c == 48) ≡ true
not_zero c h = ap not (ne_eqb c 48 (λ e. omega (arith, h, e)))

-- the digits are a number, and those of a number past 0 begin with another digit than 0
abbrev IsWritten : ℕ → List ℕ → Type 0
IsWritten n digits = (is_number digits ≡ true) × (0 < n → 48 < get_or digits 0 0)

one_written : (n : ℕ) → n < 10 → IsWritten n ((48 + n) ∷ [])
one_written n h = (digit_is n h, λ some. omega (arith, some))

last_digit : (n : ℕ) → list_all is_digit ((48 + n % 10) ∷ []) ≡ true
last_digit n = and_from (is_digit (48 + n % 10)) true (digit_is (n % 10) (omega arith)) refl

more_written : (n : ℕ) (digits : List ℕ) → 10 ≤ n → IsWritten (n / 10) digits → IsWritten n (digits ++ ((48 + n % 10) ∷ []))
more_written n [] h w = absurd cc
more_written n (c ∷ []) h w =
    let first : 48 < c = w.1 (omega (arith, h)) in (
      and_from (not (c == 48)) (list_all is_digit (c ∷ (48 + n % 10) ∷ [])) (not_zero c first)
          (and_from (is_digit c) (list_all is_digit ((48 + n % 10) ∷ [])) w.0 (last_digit n)),
      λ some. first,
    )
more_written n (c ∷ second ∷ digits) h w =
    let q = and_parts (not (c == 48)) (list_all is_digit (c ∷ second ∷ digits)) w.0 in (
      and_from (not (c == 48)) (list_all is_digit ((c ∷ second ∷ digits) ++ ((48 + n % 10) ∷ []))) q.0
          (list_all-append is_digit (c ∷ second ∷ digits) ((48 + n % 10) ∷ [])
          ∙ and_from (list_all is_digit (c ∷ second ∷ digits)) (list_all is_digit ((48 + n % 10) ∷ [])) q.1 (last_digit n)),
      λ some. w.1 (omega (arith, h)),
    )

pub numbers_are_decimal : (n : ℕ) → n < 10 ^ 64 → IsNumeral 10 (decimal n) × (is_number (decimal n) ≡ true) × (digits_value 10 (decimal n) ≡ n)
numbers_are_decimal n h =
    let told = decimal_is_IsNumeral_wide n h in
    (told.0, (decimal_by_steps_wide IsWritten one_written more_written n h).0, told.1)
