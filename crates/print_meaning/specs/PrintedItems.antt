-- What a printer writes: tokens, each with the white space behind it (this profile).
use Rattle.std.specs.Prelude.{ℕ, List, [], ◌∷◌, ◌++◌, ◌+◌, length, codes}
use Rattle.name_meaning.specs.Names.{Path}
use Rattle.text_meaning.specs.Tokens.{Kind, Mark, Ident, Token, token, SigWord, ViewWord, IncludeWord, StructWord, AssignSign, ColonSign, LeftParen, RightParen, LeftBracket, RightBracket, LeftBrace, RightBrace, DotSign, TypeWord, ArrowSign, BackSign, EqualSign, spelled}

-- the bytes of white space behind a token
abbrev pub Gap : Type 0
Gap = List ℕ

abbrev pub tight : Gap
tight = []

abbrev pub space : Gap
space = 32 ∷ []

abbrev pub new_line : Gap
new_line = 10 ∷ []

-- a token of this kind, written with these bytes, and the gap behind it
pub record Item : Type 0 where
  pub kind : Kind
  pub bytes : List ℕ
  pub gap : Gap

abbrev pub item : Kind → List ℕ → Gap → Item
item kind bytes gap = record { kind = kind; bytes = bytes; gap = gap }

-- a path: its names, joined by single dots
abbrev pub path_item : Path → Gap → Item
path_item path gap = item (Ident path) (spelled path) gap

abbrev pub sig_item : Item
sig_item = item (Mark SigWord) (codes "%sig") space

abbrev pub view_item : Item
view_item = item (Mark ViewWord) (codes "%view") space

abbrev pub include_item : Item
include_item = item (Mark IncludeWord) (codes "%include") space

abbrev pub struct_item : Item
struct_item = item (Mark StructWord) (codes "%struct") space

abbrev pub assign_item : Item
assign_item = item (Mark AssignSign) (codes ":=") space

abbrev pub colon_item : Item
colon_item = item (Mark ColonSign) (codes ":") space

abbrev pub left_paren : Item
left_paren = item (Mark LeftParen) (codes "(") tight

abbrev pub right_paren : Gap → Item
right_paren gap = item (Mark RightParen) (codes ")") gap

abbrev pub left_bracket : Item
left_bracket = item (Mark LeftBracket) (codes "[") tight

abbrev pub right_bracket : Gap → Item
right_bracket gap = item (Mark RightBracket) (codes "]") gap

abbrev pub left_brace : Gap → Item
left_brace gap = item (Mark LeftBrace) (codes "{") gap

abbrev pub right_brace : Gap → Item
right_brace gap = item (Mark RightBrace) (codes "}") gap

abbrev pub dot_item : Gap → Item
dot_item gap = item (Mark DotSign) (codes ".") gap

abbrev pub type_item : Gap → Item
type_item gap = item (Mark TypeWord) (codes "type") gap

abbrev pub arrow_item : Item
arrow_item = item (Mark ArrowSign) (codes "->") space

abbrev pub back_item : Item
back_item = item (Mark BackSign) (codes "<-") space

abbrev pub equal_item : Item
equal_item = item (Mark EqualSign) (codes "=") space

-- the text that the items make
unfoldable pub text_of : List Item → List ℕ
text_of [] = []
text_of (first ∷ items) = first.bytes ++ (first.gap ++ text_of items)

-- where the items end that begin at a place
abbrev pub end_of : ℕ → List Item → ℕ
end_of at items = at + length (text_of items)

-- the tokens of the items, from a place on
unfoldable pub tokens_of : ℕ → List Item → List Token
tokens_of at [] = []
tokens_of at (first ∷ items) =
    token at (at + length first.bytes) first.kind ∷ tokens_of (at + length first.bytes + length first.gap) items
