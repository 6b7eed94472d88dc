-- Each text has one cut, which the machine gives.
use Rattle.std.proofs.Common.{◌≡◌, ℕ, Bool, true, false, List, refl, sym, ap, subst, ◌∙◌, true≢false, IsUtf8}
use Rattle.std.specs.Str.{is_utf8}
use Rattle.std.specs.Str.Lossy.{utf8_valid_len}
use Rattle.std.proofs.lemmas.Str.{IsUtf8-from_is_utf8, is_utf8-from_IsUtf8}
use Rattle.text_meaning.specs.Tokens.{Token}
use Rattle.text_meaning.specs.Cut.{Ending, Finished, Unclosed, Cut, Lexed, Tokens, NotUtf8, OpenComment, IsLexed}
use Rattle.text_meaning.specs.Cutting.{Between, cut_on, lexed_of, lex}
use Rattle.token_laws.specs.CutLaws.{EachTextHasOneCut}
use Rattle.token_laws.proofs.CutFollows.{cut_follows}
use Rattle.token_laws.proofs.CutExists.{cut_exists}

-- the machine's answer to a text that is UTF-8, and to any other
pub lex_utf8 : (text : List ℕ) → is_utf8 text ≡ true → lex text ≡ lexed_of (cut_on Between 0 text)
unfolding lex
lex_utf8 text h = rw h refl

pub lex_other : (text : List ℕ) → is_utf8 text ≡ false → lex text ≡ NotUtf8 (utf8_valid_len text)
unfolding lex
lex_other text h = rw h refl

-- a cut is what the machine gives
pub lex_is : (text : List ℕ) (ts : List Token) (e : Ending) → IsUtf8 text → Cut 0 text ts e → lex text ≡ lexed_of (record { tokens = ts; ending = e })
lex_is text ts e u c = lex_utf8 text (is_utf8-from_IsUtf8 text u) ∙ ap lexed_of (cut_follows c)

only_cut : (text : List ℕ) (other : Lexed) → IsLexed text other → other ≡ lex text
only_cut text (Tokens ts end) h = sym (lex_is text ts (Finished end) h.0 h.1)
only_cut text (NotUtf8 at) h = go (is_utf8 text) refl
  where
    go : (t : Bool) → is_utf8 text ≡ t → NotUtf8 at ≡ lex text
    go true e = absurd (h.0 (IsUtf8-from_is_utf8 text e))
    go false e = ap NotUtf8 h.1 ∙ sym (lex_other text e)
only_cut text (OpenComment at) h = sym (lex_is text h.1.0 (Unclosed at) h.0 h.1.1)

lexed_is : (text : List ℕ) (ts : List Token) (e : Ending) → IsUtf8 text → Cut 0 text ts e → IsLexed text (lexed_of (record { tokens = ts; ending = e }))
lexed_is text ts (Finished at) u c = (u, c)
lexed_is text ts (Unclosed at) u c = (u, (ts, c))

is_cut : (text : List ℕ) → IsLexed text (lex text)
is_cut text = go (is_utf8 text) refl
  where
    go : (t : Bool) → is_utf8 text ≡ t → IsLexed text (lex text)
    go true e =
        let c = cut_exists 0 text in
        let u = IsUtf8-from_is_utf8 text e in
        subst (IsLexed text) (sym (lex_is text c.0 c.1 u c.2)) (lexed_is text c.0 c.1 u c.2)
    go false e = subst (IsLexed text) (sym (lex_other text e)) ((λ u. true≢false (sym (is_utf8-from_IsUtf8 text u) ∙ e)), refl)

pub one_cut : EachTextHasOneCut
one_cut text = record { is_cut = is_cut text; only = only_cut text }
