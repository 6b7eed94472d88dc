-- Which tokens a state refuses, where some signs have been ruled out.
use Rattle.std.proofs.Common.{◌≡◌, ℕ, true, false, List, [], ◌∷◌, refl, sym, ap, eqb-true, true≢false}
use Rattle.text_meaning.specs.Tokens.{Span, Sign, Kind, Mark, Ident, LeftParen, LeftBracket, LeftBrace, DotSign, TypeWord}
use Rattle.name_meaning.specs.Names.{Path}
use Rattle.text_meaning.specs.Trees.{first_name, Written}
use Rattle.text_meaning.specs.Parsing.{Atoms, NoAtoms, Row, Waiting, State, code, expect, more_words, at_operand, is_refused, begins_operand}
use Rattle.reading_laws.proofs.Sound.{code_injective}
use Rattle.twelf_expressions.specs.Signs.{is_sign, is_path, is_name}

-- a kind that is a sign
pub is_sign_is : (m : Sign) (k : Kind) → is_sign m k ≡ true → k ≡ Mark m
is_sign_is m (Mark k) h = ap Mark (sym (code_injective m k (eqb-true (code m) (code k) h)))
is_sign_is m (Ident p) h = absurd (true≢false (sym h))

pub expect_other : (m : Sign) (next : State) (k : Kind) → is_sign m k ≡ false → is_refused (expect m k next) ≡ true
expect_other m next (Mark k) h = rw h refl
expect_other m next (Ident p) h = refl

-- what is no further word
pub words_other : (ws : List Written) (done : List Written → State) (s : Span) (k : Kind) → is_path k ≡ false → more_words ws done s k ≡ expect DotSign k (done ws)
words_other ws done s (Ident p) h0 = absurd (true≢false h0)
words_other ws done s (Mark DotSign) h0 = refl
words_other ws done s _ h0 = refl

-- what begins an operand is taken, and nothing else where there are no atoms
pub operand_begins : (n : ℕ) (row : Row) (xs : Atoms) (w : Waiting) (s : Span) (k : Kind) → begins_operand k ≡ true → is_refused (at_operand n row xs w s k) ≡ false
operand_begins n row xs w s (Ident p) h = refl
operand_begins n row xs w s (Mark TypeWord) h = refl
operand_begins n row xs w s (Mark LeftParen) h = refl
operand_begins n row xs w s (Mark LeftBrace) h = refl
operand_begins n row xs w s (Mark LeftBracket) h = refl
operand_begins n row xs w s _ h = absurd (true≢false (sym h))

pub empty_refuses : (n : ℕ) (row : Row) (w : Waiting) (s : Span) (k : Kind) → begins_operand k ≡ false → is_refused (at_operand n row NoAtoms w s k) ≡ true
empty_refuses n row w s (Ident p) h = absurd (true≢false h)
empty_refuses n row w s (Mark TypeWord) h = absurd (true≢false h)
empty_refuses n row w s (Mark LeftParen) h = absurd (true≢false h)
empty_refuses n row w s (Mark LeftBrace) h = absurd (true≢false h)
empty_refuses n row w s (Mark LeftBracket) h = absurd (true≢false h)
empty_refuses n row w s _ h = refl

pub one_name : (p : Path) → is_name (Ident p) ≡ true → p ≡ first_name p ∷ []
one_name [] h = absurd (true≢false (sym h))
one_name (n ∷ []) h = refl
one_name (n ∷ m ∷ ns) h = absurd (true≢false (sym h))
