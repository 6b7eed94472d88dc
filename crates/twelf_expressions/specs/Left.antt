-- What is left to read.
use Rattle.std.specs.Prelude.{ℕ, List, [], ◌∷◌, ◌++◌, drop}
use Rattle.text_meaning.specs.Tokens.{Kind, Token, sign, EndSign, Stray}
use Rattle.text_meaning.specs.Cut.{Ending, Finished, Unclosed}
use Rattle.text_meaning.specs.Cutting.{Between, Cutting, cut_on}
use Rattle.twelf_lexer.specs.Lexemes.{lexeme_token}
use Rattle.twelf_lexer.specs.declared.sign.Sign.{Sign}
use Rattle.twelf_lexer.specs.declared.sign.Sign.TheVariants as signs
use Rattle.twelf_expressions.specs.declared.reader.Reader.{Reader}

-- What stands behind the last token: the end of the input, or, where a comment has no end, a token that no text reads on with.
abbrev pub last_token : Ending → Token
last_token (Finished at) = sign (record { from = at; to = at }) EndSign
last_token (Unclosed at) = sign (record { from = at; to = at }) Stray

abbrev pub with_last : Cutting → List Token
with_last c = c.tokens ++ (last_token c.ending ∷ [])

-- the tokens of a text from a place on
abbrev pub left_from : List ℕ → ℕ → List Token
left_from text at = with_last (cut_on Between at (drop at text))

-- those behind a lexeme that ends at a place
abbrev pub behind : List ℕ → ℕ → Sign → List Token
behind text to signs.End = []
behind text to signs.OpenComment = []
behind text to _ = left_from text to

-- those that a reader has left
abbrev pub left : Reader → List Token
left r = lexeme_token r.text.now r.next ∷ behind r.text.now r.next.span.to r.next.sign

-- the sign of what stands next
abbrev pub sign_ahead : Reader → Sign
sign_ahead r = r.next.sign

-- the first of them
abbrev pub next_token : List Token → Token
next_token [] = sign (record { from = 0; to = 0 }) EndSign
next_token (t ∷ ts) = t

abbrev pub next_kind : List Token → Kind
next_kind ts = (next_token ts).kind
