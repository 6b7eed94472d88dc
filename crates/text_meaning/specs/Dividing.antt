-- How a file divides, as a function: a machine that takes one token a step.
use Rattle.std.specs.Prelude.{ℕ, zero, suc, List, [], ◌∷◌, if◌then◌else◌}
use Rattle.text_meaning.specs.Tokens.{Span, Kind, Mark, Ident, Token, SigWord, ViewWord, IncludeWord, StructWord, OtherWord, DotSign, EndSign}
use Rattle.text_meaning.specs.Cut.{Lexed, Tokens, NotUtf8, OpenComment}
use Rattle.text_meaning.specs.Trees.{Written}
use Rattle.text_meaning.specs.Grammar.{simple, join}
use Rattle.text_meaning.specs.Reading.{with_end}
use Rattle.text_meaning.specs.Splitting.{Division, Pieces, SyntaxFault, UnsupportedFault, before_division, is_left_brace, is_right_brace}

-- where the machine stands: between modules; behind a module's word; before its body, or in it with so many further braces open,
-- with the place of the last token; behind its body
pub data Stand : Type 0 where
  AtTop : Stand
  AtName : (word : Span) → Stand
  BeforeBody : (word : Span) → (name : Written) → (last : ℕ) → Stand
  InBody : (word : Span) → (name : Written) → (inner last : ℕ) → Stand
  AtDot : (word : Span) → (name : Written) → Stand

abbrev pub at_top : Span → Kind → Division → Division
at_top s (Mark SigWord) go = go
at_top s (Mark ViewWord) go = go
at_top s (Mark IncludeWord) go = UnsupportedFault s.from
at_top s (Mark StructWord) go = UnsupportedFault s.from
at_top s (Mark OtherWord) go = UnsupportedFault s.from
at_top s (Mark EndSign) go = Pieces []
at_top s _ go = SyntaxFault s.from

abbrev pub at_name : Span → Kind → (Written → Division) → Division
at_name s (Ident (n ∷ [])) go = go (simple s n)
at_name s _ go = SyntaxFault s.from

-- behind a closing brace, with so many open around it
abbrev pub closed_stand : Span → Written → ℕ → ℕ → Stand
closed_stand w x zero last = AtDot w x
closed_stand w x (suc n) last = InBody w x n last

abbrev pub before_next : Span → Written → Token → Stand
before_next w x t = if is_left_brace t.kind then InBody w x 0 t.span.from else BeforeBody w x t.span.from

abbrev pub body_next : Span → Written → ℕ → Token → Stand
body_next w x n t =
    if is_left_brace t.kind then InBody w x (suc n) t.span.from else if is_right_brace t.kind then closed_stand w x n t.span.from else InBody w x n t.span.from

abbrev pub at_dot : Span → Written → Span → Kind → Division → Division
at_dot w x s (Mark DotSign) go = before_division (record { name = x; span = join w s }) go
at_dot w x s _ go = SyntaxFault s.from

unfoldable pub divide_on : Stand → List Token → Division
divide_on AtTop [] = Pieces []
divide_on (AtName w) [] = SyntaxFault w.to
divide_on (BeforeBody w x last) [] = SyntaxFault last
divide_on (InBody w x n last) [] = SyntaxFault last
divide_on (AtDot w x) [] = SyntaxFault w.to
divide_on AtTop (t ∷ ts) = at_top t.span t.kind (divide_on (AtName t.span) ts)
divide_on (AtName w) (t ∷ ts) = at_name t.span t.kind (λ x. divide_on (BeforeBody w x t.span.from) ts)
divide_on (BeforeBody w x last) (t ∷ ts) = divide_on (before_next w x t) ts
divide_on (InBody w x n last) (t ∷ ts) = divide_on (body_next w x n t) ts
divide_on (AtDot w x) (t ∷ ts) = at_dot w x t.span t.kind (divide_on AtTop ts)

-- how what a file is cut into divides
unfoldable pub divide : Lexed → Division
divide (Tokens ts end) = divide_on AtTop (with_end ts end)
divide (NotUtf8 at) = SyntaxFault at
divide (OpenComment at) = SyntaxFault at
