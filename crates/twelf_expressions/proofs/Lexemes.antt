-- Tokens of a text, taken one after the other.
use Rattle.std.proofs.Common.{◌≡◌, ℕ, true, false, List, [], ◌∷◌, drop, refl, sym, ap, ◌∙◌, true≢false}
use Rattle.text_meaning.specs.Tokens.{Mark, Token, token, EndSign, Stray}
use Rattle.text_meaning.specs.Cut.{Finished, Unclosed}
use Rattle.text_meaning.specs.Cutting.{Between, cut_on}
use Rattle.twelf_lexer.specs.Lexemes.{IsLexeme, cut_behind, cut_from, is_last, lexeme_token, sign_kind}
use Rattle.twelf_lexer.specs.declared.sign.Sign.{Sign}
use Rattle.twelf_lexer.specs.declared.sign.Sign.TheVariants as signs
use Rattle.twelf_lexer.specs.declared.sign.Lexeme.{Lexeme}
use Rattle.twelf_expressions.specs.Left.{behind, last_token, left_from, with_last}

-- ---- what is left

left_at : (text : List ℕ) (from to : ℕ) (g : Sign) → (is_last g ≡ true → to ≡ from) → with_last (cut_behind text from to g) ≡ token from to (sign_kind text from to g) ∷ behind text to g
left_at text from to signs.End h = ap (λ n. token from n (Mark EndSign) ∷ []) (sym (h refl))
left_at text from to signs.OpenComment h = ap (λ n. token from n (Mark Stray) ∷ []) (sym (h refl))
left_at text from to _ h = refl

-- what is left from a place on begins with what stands next there
pub left_is : (text : List ℕ) (at : ℕ) (l : Lexeme) → IsLexeme text l → cut_on Between at (drop at text) ≡ cut_from text l → left_from text at ≡ lexeme_token text l ∷ behind text l.span.to l.sign
left_is text at l s c = ap with_last c ∙ left_at text l.span.from l.span.to l.sign s.still

behind_goes : (text : List ℕ) (to : ℕ) (g : Sign) → is_last g ≡ false → behind text to g ≡ left_from text to
behind_goes text to signs.End h = absurd (true≢false h)
behind_goes text to signs.OpenComment h = absurd (true≢false h)
behind_goes text to _ h = refl

-- a token is taken
pub takes_next : (text : List ℕ) (l n : Lexeme) (t : Token) → lexeme_token text l ≡ t → is_last l.sign ≡ false → IsLexeme text n → cut_on Between l.span.to (drop l.span.to text) ≡ cut_from text n
    → lexeme_token text l ∷ behind text l.span.to l.sign ≡ t ∷ (lexeme_token text n ∷ behind text n.span.to n.sign)
takes_next text l n t e m s c = let rest = behind_goes text l.span.to l.sign m ∙ left_is text l.span.to n s c in rw (e, rest) refl

-- behind an end nothing is left
pub end_alone : (text : List ℕ) (from to : ℕ) (g : Sign) → g ≡ signs.End → to ≡ from → token from to (sign_kind text from to g) ∷ behind text to g ≡ last_token (Finished from) ∷ []
end_alone text from to g e h = rw (e, h) refl

pub open_alone : (text : List ℕ) (from to : ℕ) (g : Sign) → g ≡ signs.OpenComment → to ≡ from → token from to (sign_kind text from to g) ∷ behind text to g ≡ last_token (Unclosed from) ∷ []
open_alone text from to g e h = rw (e, h) refl
