-- Tokens: what each is, and the bytes that it takes (this profile, after Twelf's lexer).
use Rattle.name_meaning.specs.Names.{Path}
use Rattle.std.specs.Prelude.{ℕ, List, [], ◌∷◌, ◌++◌, codes, bytes_eq, cond}
use Rattle.std.specs.List.{list_any}
use Rattle.name_meaning.specs.Identifiers.{is_reserved}
use Rattle.text_meaning.specs.Bytes.{dot}

-- the bytes of a text from one place up to another
pub record Span : Type 0 where
  pub from : ℕ
  pub to : ℕ

-- the tokens that say no more than which they are:
-- the percent words %sig %view %include %struct and any other, a byte that begins no token or a row of several runs
-- with a reserved word among them, the punctuation, the reserved words, and the end of the input, which stands behind the last token
pub data Sign : Type 0 where
  SigWord : Sign
  ViewWord : Sign
  IncludeWord : Sign
  StructWord : Sign
  OtherWord : Sign
  Stray : Sign
  AssignSign : Sign
  ColonSign : Sign
  LeftParen : Sign
  RightParen : Sign
  LeftBracket : Sign
  RightBracket : Sign
  LeftBrace : Sign
  RightBrace : Sign
  DotSign : Sign
  TypeWord : Sign
  ArrowSign : Sign
  BackSign : Sign
  EqualSign : Sign
  BlankSign : Sign
  EndSign : Sign

-- a sign, or an identifier with its path
pub data Kind : Type 0 where
  Mark : Sign → Kind
  Ident : Path → Kind

pub record Token : Type 0 where
  pub span : Span
  pub kind : Kind

-- the token of a kind from one place up to another
abbrev pub token : ℕ → ℕ → Kind → Token
token from to kind = record { span = record { from = from; to = to }; kind = kind }

-- a sign that stands at a span
abbrev pub sign : Span → Sign → Token
sign s m = record { span = s; kind = Mark m }

-- an identifier that stands at a span
abbrev pub ident : Span → Path → Token
ident s p = record { span = s; kind = Ident p }

-- which sign `%` and a run are
abbrev pub percent_sign : List ℕ → Sign
percent_sign w =
    cond (bytes_eq w (codes "sig")) SigWord (cond (bytes_eq w (codes "view")) ViewWord
    (cond (bytes_eq w (codes "include")) IncludeWord (cond (bytes_eq w (codes "struct")) StructWord OtherWord)))

-- what one run by itself is: a reserved word, or a simple identifier
abbrev pub run_kind : List ℕ → Kind
run_kind w =
    cond (bytes_eq w (codes "type")) (Mark TypeWord) (cond (bytes_eq w (codes "->")) (Mark ArrowSign)
    (cond (bytes_eq w (codes "<-")) (Mark BackSign) (cond (bytes_eq w (codes "=")) (Mark EqualSign)
    (cond (bytes_eq w (codes "_")) (Mark BlankSign) (Ident (w ∷ []))))))

-- what a row of runs is: of several runs none may be reserved
abbrev pub row_kind : List (List ℕ) → Kind
row_kind [] = Mark Stray
row_kind (w ∷ []) = run_kind w
row_kind (w ∷ v ∷ vs) = cond (list_any is_reserved (w ∷ v ∷ vs)) (Mark Stray) (Ident (w ∷ v ∷ vs))

-- the bytes of a row: its runs joined by single dots
abbrev pub dotted : List (List ℕ) → List ℕ
dotted [] = []
dotted (w ∷ ws) = dot ∷ (w ++ dotted ws)

abbrev pub spelled : List (List ℕ) → List ℕ
spelled [] = []
spelled (w ∷ ws) = w ++ dotted ws
