-- The classes of the bytes of a text (this profile).
use Rattle.std.specs.Prelude.{ℕ, Bool, List, ◌==◌, ◌||◌, ◌&&◌, not, nat_le, codes}
use Rattle.std.specs.List.{list_any}

-- The byte is one of these.
abbrev pub is_one_of : ℕ → List ℕ → Bool
is_one_of byte bytes = list_any (λ b. byte == b) bytes

-- The byte is white space, that is a tab, a line feed, a vertical tab, a form feed, a carriage return or a space.
abbrev pub is_white_space : ℕ → Bool
is_white_space byte = nat_le 9 byte && nat_le byte 13 || byte == 32

-- The byte is a special character.
abbrev pub is_special : ℕ → Bool
is_special byte = is_one_of byte (codes ":.()[]{}%\"")

-- The byte can stand in an identifier, as every byte can that is neither white space nor special.
abbrev pub is_identifier_byte : ℕ → Bool
is_identifier_byte byte = not (is_white_space byte || is_special byte)
