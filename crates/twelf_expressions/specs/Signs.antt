-- What stands in a place.
use Rattle.std.specs.Prelude.{Bool, true, false, [], ◌∷◌, ◌==◌}
use Rattle.text_meaning.specs.Tokens.{Kind, Mark, Ident}
use Rattle.text_meaning.specs.Tokens as tokens
use Rattle.text_meaning.specs.Parsing.{code}
use Rattle.twelf_lexer.specs.declared.sign.Sign.{Sign}
use Rattle.twelf_lexer.specs.declared.sign.Sign.TheVariants as signs

-- a sign that a text can have for a reader: it is one token, and no token else is the same
abbrev pub is_plain : Sign → Bool
is_plain signs.Stray = false
is_plain signs.Name = false
is_plain signs.Path = false
is_plain signs.OpenComment = false
is_plain _ = true

-- the kind is this sign; an identifier; an identifier of one name
abbrev pub is_sign : tokens.Sign → Kind → Bool
is_sign m (Mark k) = code m == code k
is_sign m (Ident p) = false

abbrev pub is_path : Kind → Bool
is_path (Ident p) = true
is_path (Mark m) = false

abbrev pub is_name : Kind → Bool
is_name (Ident (n ∷ [])) = true
is_name _ = false
