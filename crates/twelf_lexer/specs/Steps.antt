-- What the tokens of a list are.
use Rattle.std.specs.Prelude.{ℕ, ◌+◌, List, map}
use Rattle.std.specs.List.{slice_range}
use Rattle.text_meaning.specs.Tokens.{Kind, Mark, Ident, token, percent_sign, Stray, AssignSign, ColonSign, LeftParen, RightParen, LeftBracket, RightBracket, LeftBrace, RightBrace, DotSign, TypeWord, ArrowSign, BackSign, EqualSign, BlankSign}
use Rattle.text_meaning.specs.Tokens as tokens
use Rattle.twelf_lexer.specs.declared.token.Token.{Token}
use Rattle.twelf_lexer.specs.declared.token.TokenKind.{TokenKind}
use Rattle.twelf_lexer.specs.declared.token.TokenKind.TheVariants as kinds

-- what a token of the lexer is, which stands from one place of a text up to another
abbrev pub kind_of : List ℕ → ℕ → ℕ → TokenKind → Kind
kind_of text from to kinds.Percent = Mark (percent_sign (slice_range text (from + 1) to))
kind_of text from to kinds.Stray = Mark Stray
kind_of text from to kinds.Assign = Mark AssignSign
kind_of text from to kinds.Colon = Mark ColonSign
kind_of text from to kinds.LParen = Mark LeftParen
kind_of text from to kinds.RParen = Mark RightParen
kind_of text from to kinds.LBracket = Mark LeftBracket
kind_of text from to kinds.RBracket = Mark RightBracket
kind_of text from to kinds.LBrace = Mark LeftBrace
kind_of text from to kinds.RBrace = Mark RightBrace
kind_of text from to kinds.Dot = Mark DotSign
kind_of text from to kinds.TypeWord = Mark TypeWord
kind_of text from to kinds.Arrow = Mark ArrowSign
kind_of text from to kinds.BackArrow = Mark BackSign
kind_of text from to kinds.Equal = Mark EqualSign
kind_of text from to kinds.Blank = Mark BlankSign
kind_of text from to (kinds.Ident path) = Ident path

abbrev pub token_of : List ℕ → Token → tokens.Token
token_of text t = token t.span.from t.span.to (kind_of text t.span.from t.span.to t.kind)

abbrev pub tokens_of : List ℕ → List Token → List tokens.Token
tokens_of text ts = map (token_of text) ts
