-- Which texts are identifiers (this profile). A text is the list of its bytes.
use Rattle.std.specs.Prelude.{ℕ, Bool, List, [], ◌∷◌, length, ◌==◌, ◌&&◌, not, nat_eq, codes}
use Rattle.std.specs.Cmp.Lexicographic.{pointwise}
use Rattle.std.specs.List.{list_any, list_all}
use Rattle.name_meaning.specs.Characters.{is_identifier_byte}

-- The words that have a meaning of their own wherever they stand alone.
abbrev pub reserved_words : List (List ℕ)
reserved_words = codes "type" ∷ codes "->" ∷ codes "<-" ∷ codes "=" ∷ codes "_" ∷ []

-- The text is a reserved word.
abbrev pub is_reserved : List ℕ → Bool
is_reserved text = list_any (pointwise nat_eq text) reserved_words

-- The text is a run of at least one identifier byte and nothing else.
abbrev pub is_run : List ℕ → Bool
is_run text = not (length text == 0) && list_all is_identifier_byte text

-- The text is an identifier, that is a run which is no reserved word.
abbrev pub is_identifier : List ℕ → Bool
is_identifier text = is_run text && not (is_reserved text)
