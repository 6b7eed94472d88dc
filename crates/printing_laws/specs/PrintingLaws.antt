-- Laws of what is printed (this profile).
use Rattle.std.specs.Prelude.{◌≡◌, ℕ, ◌<◌, ◌^◌, true, false, length}
use Rattle.std.specs.Fmt.{decimal}
use Rattle.std.specs.Str.Parse.{IsNumeral, digits_value}
use Rattle.lf_meaning.specs.Signatures.{Signature}
use Rattle.printing_meaning.specs.Numbers.{is_number}
use Rattle.printing_meaning.specs.Prefixes.{prefix_with, is_taken, prefix_of}

-- No own constant of one name begins with the prefix and a digit, so a printed variable is none of them.
abbrev pub PrefixIsFree : Type 0
PrefixIsFree = (own : Signature) → is_taken own (prefix_of own) ≡ false

-- With fewer marks the prefix is taken.
abbrev pub PrefixIsLeast : Type 0
PrefixIsLeast =
    (own : Signature) (count : ℕ) → length (prefix_with count) < length (prefix_of own) → is_taken own (prefix_with count) ≡ true

-- A number of at most 64 digits is printed in decimal digits, without a leading zero, and the digits have its value. Of
-- longer numbers nothing is said.
abbrev pub NumbersAreDecimal : Type 0
NumbersAreDecimal =
    (n : ℕ) → n < 10 ^ 64 → IsNumeral 10 (decimal n) × (is_number (decimal n) ≡ true) × (digits_value 10 (decimal n) ≡ n)
