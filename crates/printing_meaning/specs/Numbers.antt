-- Decimal numbers, as they are printed and as words write them (this profile).
use Rattle.std.specs.Prelude.{ℕ, Bool, false, List, [], ◌∷◌, ◌==◌, ◌&&◌, not, nat_le}
use Rattle.std.specs.List.{list_all}

-- The byte is a decimal digit.
abbrev pub is_digit : ℕ → Bool
is_digit byte = nat_le 48 byte && nat_le byte 57

-- Decimal digits, at least one, without a leading zero, `0` itself excepted.
abbrev pub is_number : List ℕ → Bool
is_number [] = false
is_number (digit ∷ []) = is_digit digit
is_number (digit ∷ second ∷ digits) = not (digit == 48) && list_all is_digit (digit ∷ second ∷ digits)
