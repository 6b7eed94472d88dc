-- Small texts and their tokens, or their fault.
use Rattle.std.specs.Prelude.{◌≡◌, ℕ, List, [], ◌∷◌, ◌++◌, codes}
use Rattle.text_meaning.specs.Tokens.{Kind, Mark, Ident, token, SigWord, ViewWord, IncludeWord, StructWord, OtherWord, Stray, AssignSign, ColonSign, LeftParen, RightParen, LeftBracket, RightBracket, LeftBrace, RightBrace, DotSign, TypeWord, ArrowSign, BackSign, EqualSign, BlankSign}
use Rattle.text_meaning.specs.Cut.{Tokens, NotUtf8, OpenComment}
use Rattle.text_meaning.specs.Cutting.{lex}

-- a simple identifier
abbrev pub simple_kind : List ℕ → Kind
simple_kind w = Ident (w ∷ [])

pub record CutExamples : Type 0 where
  pub empty : lex [] ≡ Tokens [] 0
  pub arrow_within : lex (codes "a->b") ≡ Tokens (token 0 4 (simple_kind (codes "a->b")) ∷ []) 4
  pub reserved_within : lex (codes "type.z") ≡ Tokens (token 0 6 (Mark Stray) ∷ []) 6
  pub one_path : lex (codes "a.b.c") ≡ Tokens (token 0 5 (Ident (codes "a" ∷ codes "b" ∷ codes "c" ∷ [])) ∷ []) 5
  pub dot_and_space : lex (codes "a. b") ≡ Tokens (token 0 1 (simple_kind (codes "a")) ∷ token 1 2 (Mark DotSign) ∷ token 3 4 (simple_kind (codes "b")) ∷ []) 4
  pub two_dots : lex (codes "a..b") ≡ Tokens (token 0 1 (simple_kind (codes "a")) ∷ token 1 2 (Mark DotSign) ∷ token 2 3 (Mark DotSign) ∷ token 3 4 (simple_kind (codes "b")) ∷ []) 4
  pub dot_first : lex (codes ".a") ≡ Tokens (token 0 1 (Mark DotSign) ∷ token 1 2 (simple_kind (codes "a")) ∷ []) 2
  pub assigned : lex (codes "x:=y") ≡ Tokens (token 0 1 (simple_kind (codes "x")) ∷ token 1 3 (Mark AssignSign) ∷ token 3 4 (simple_kind (codes "y")) ∷ []) 4
  pub colon_equal : lex (codes "x : = y") ≡ Tokens (token 0 1 (simple_kind (codes "x")) ∷ token 2 3 (Mark ColonSign) ∷ token 4 5 (Mark EqualSign) ∷ token 6 7 (simple_kind (codes "y")) ∷ []) 7
  pub percent_words : lex (codes "%sig %view %include %struct %mode")
      ≡ Tokens (token 0 4 (Mark SigWord) ∷ token 5 10 (Mark ViewWord) ∷ token 11 19 (Mark IncludeWord) ∷ token 20 27 (Mark StructWord) ∷ token 28 33 (Mark OtherWord) ∷ []) 33
  pub two_percents : lex (codes "%%") ≡ Tokens [] 2
  pub last_percent : lex (codes "%") ≡ Tokens [] 1
  pub line_comment : lex (codes "% note\nd") ≡ Tokens (token 7 8 (simple_kind (codes "d")) ∷ []) 8
  pub nested : lex (codes "%{ a %{ b }% c }% d") ≡ Tokens (token 18 19 (simple_kind (codes "d")) ∷ []) 19
  pub not_closed : lex (codes "%{ open") ≡ OpenComment 0
  pub not_closed_later : lex (codes "a %{ %{ }%") ≡ OpenComment 2
  pub stray_quote : lex (codes "\"") ≡ Tokens (token 0 1 (Mark Stray) ∷ []) 1
  pub stray_percent : lex (codes "%:") ≡ Tokens (token 0 1 (Mark Stray) ∷ token 1 2 (Mark ColonSign) ∷ []) 2
  pub input_ends : lex (codes "a %. b") ≡ Tokens (token 0 1 (simple_kind (codes "a")) ∷ []) 2
  -- é, in two bytes
  pub above_ascii : lex (0xC3 ∷ 0xA9 ∷ []) ≡ Tokens (token 0 2 (simple_kind (0xC3 ∷ 0xA9 ∷ [])) ∷ []) 2
  -- NUL and another control byte, between bytes of white space
  pub control_bytes : lex (9 ∷ 0 ∷ 1 ∷ 13 ∷ 127 ∷ []) ≡ Tokens (token 1 3 (simple_kind (0 ∷ 1 ∷ [])) ∷ token 4 5 (simple_kind (127 ∷ [])) ∷ []) 5
  pub bad_byte_behind_the_end : lex (codes "a %. " ++ (0xFF ∷ [])) ≡ NotUtf8 5
  pub reserved_words : lex (codes "type -> <- = _")
      ≡ Tokens (token 0 4 (Mark TypeWord) ∷ token 5 7 (Mark ArrowSign) ∷ token 8 10 (Mark BackSign) ∷ token 11 12 (Mark EqualSign) ∷ token 13 14 (Mark BlankSign) ∷ []) 14
  pub brackets : lex (codes "()[]{}")
      ≡ Tokens (token 0 1 (Mark LeftParen) ∷ token 1 2 (Mark RightParen) ∷ token 2 3 (Mark LeftBracket) ∷ token 3 4 (Mark RightBracket) ∷ token 4 5 (Mark LeftBrace) ∷ token 5 6 (Mark RightBrace) ∷ []) 6
  -- a carriage return alone does not end a line
  pub carriage_return : lex (codes "% a" ++ (13 ∷ codes "b\nc")) ≡ Tokens (token 6 7 (simple_kind (codes "c")) ∷ []) 7
