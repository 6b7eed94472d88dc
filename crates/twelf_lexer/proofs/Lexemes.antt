-- From one lexeme to the next.
use Rattle.std.proofs.Common.{◌≡◌, ℕ, ◌≤◌, false, List, [], ◌∷◌, length, drop, refl, sym, ap, ◌∙◌, arith, IsCharBoundary, true≢false}
use Rattle.text_meaning.specs.Tokens.{token}
use Rattle.text_meaning.specs.Cutting.{Between, ahead, cut_on}
use Rattle.token_laws.proofs.Steps.{at_end_of_text}
use Rattle.twelf_lexer.specs.Advances.{Advances}
use Rattle.twelf_lexer.specs.Lexemes.{IsLexeme, IsToken, cut_behind, cut_from, is_last, sign_kind, lexeme_token}
use Rattle.twelf_lexer.specs.declared.sign.Sign as lexer
use Rattle.twelf_lexer.specs.declared.sign.Sign.TheVariants as signs
use Rattle.twelf_lexer.specs.declared.sign.Lexeme.{Lexeme}
use Rattle.twelf_lexer.proofs.Fronts.{none_left}

-- over white space and comments from one place to another
pub record Over (text : List ℕ) (at from : ℕ) : Type 0 where
  pub forward : at ≤ from
  pub within : from ≤ length text
  pub boundary : IsCharBoundary text from
  pub same : cut_on Between at (drop at text) ≡ cut_on Between from (drop from text)

pub over_none : (text : List ℕ) (at : ℕ) → at ≤ length text → IsCharBoundary text at → Over text at at
over_none text at h b = record { forward = omega arith; within = h; boundary = b; same = refl }

pub over_more : (text : List ℕ) (at from to : ℕ) → Over text at from → Advances text from to [] → Over text at to
over_more text at from to o a = record { forward = omega (arith, o.forward, a.forward); within = a.within; boundary = a.boundary; same = o.same ∙ a.cut }

-- ---- what stands behind them

abbrev pub lexeme : lexer.Sign → ℕ → ℕ → Lexeme
lexeme sign from to = record { sign = sign; span = record { from = from; to = to } }

pub token_stands : (text : List ℕ) (from to : ℕ) (sign : lexer.Sign) → IsToken text from to sign → IsLexeme text (lexeme sign from to)
token_stands text from to sign t =
    record {
      forward = omega (arith, t.advances.forward);
      moves = λ h. t.advances.forward;
      still = λ h. absurd (true≢false (sym h ∙ t.more));
      within = t.advances.within;
      boundary = t.advances.boundary;
      parts = t.parts;
    }

-- the cut goes on behind a token
pub cut_goes : (text : List ℕ) (from to : ℕ) (sign : lexer.Sign) → is_last sign ≡ false → cut_behind text from to sign ≡ ahead (token from to (sign_kind text from to sign) ∷ []) (cut_on Between to (drop to text))
cut_goes text from to signs.End h = absurd (true≢false h)
cut_goes text from to signs.OpenComment h = absurd (true≢false h)
cut_goes text from to _ h = refl

pub token_cut : (text : List ℕ) (at from to : ℕ) (sign : lexer.Sign) → Over text at from → IsToken text from to sign → cut_on Between at (drop at text) ≡ cut_from text (lexeme sign from to)
token_cut text at from to sign o t = o.same ∙ t.advances.cut ∙ sym (cut_goes text from to sign t.more)

pub end_stands : (text : List ℕ) (at from : ℕ) → Over text at from → IsLexeme text (lexeme signs.End from from)
end_stands text at from o = record { forward = omega arith; moves = λ h. absurd (true≢false h); still = λ h. refl; within = o.within; boundary = o.boundary; parts = tt }

pub open_stands : (text : List ℕ) (at from : ℕ) → Over text at from → IsLexeme text (lexeme signs.OpenComment from from)
open_stands text at from o = record { forward = omega arith; moves = λ h. absurd (true≢false h); still = λ h. refl; within = o.within; boundary = o.boundary; parts = tt }

pub text_ends : (text : List ℕ) (at from : ℕ) → Over text at from → length text ≤ from → cut_on Between at (drop at text) ≡ cut_from text (lexeme signs.End from from)
text_ends text at from o h = o.same ∙ ap (cut_on Between from) (none_left text from h) ∙ at_end_of_text from

-- ---- from a lexeme on

pub lexeme_advances : (text : List ℕ) (at : ℕ) (l : Lexeme) → IsLexeme text l → at ≤ l.span.from → is_last l.sign ≡ false → cut_on Between at (drop at text) ≡ cut_from text l → Advances text at l.span.to (lexeme_token text l ∷ [])
lexeme_advances text at l s b m c =
    record {
      forward = omega (arith, s.moves m, b);
      within = s.within;
      boundary = s.boundary;
      cut = c ∙ cut_goes text l.span.from l.span.to l.sign m;
    }

pub more_of : (sign : lexer.Sign) → ¬ (sign ≡ signs.End) → ¬ (sign ≡ signs.OpenComment) → is_last sign ≡ false
more_of signs.End h k = absurd (h refl)
more_of signs.OpenComment h k = absurd (k refl)
more_of _ h k = refl

-- ---- to the end of all tokens

-- the whole text ends as what is behind this lexeme
pub record EndsAs (text : List ℕ) (l : Lexeme) : Type 0 where
  pub stands : IsLexeme text l
  pub same : (cut_on Between 0 text).ending ≡ (cut_from text l).ending

pub ends_on : (text : List ℕ) (l n : Lexeme) → EndsAs text l → is_last l.sign ≡ false → IsLexeme text n → cut_on Between l.span.to (drop l.span.to text) ≡ cut_from text n → EndsAs text n
ends_on text l n e m s c =
    record {
      stands = s;
      same = e.same ∙ ap (λ x. x.ending) (cut_goes text l.span.from l.span.to l.sign m) ∙ ap (λ x. x.ending) c;
    }
