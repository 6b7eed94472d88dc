-- The signs of tokens.
use Rattle.std.proofs.Common.{◌≡◌, ℕ, ◌+◌, true, false, List, [], ◌∷◌, length, nat_lt, refl, sym, ap, subst, ◌∙◌, IsCharBoundary}
use Rattle.std.specs.List.{slice_range, list_any}
use Rattle.name_meaning.specs.Identifiers.{is_run, is_reserved}
use Rattle.text_meaning.specs.Tokens.{Mark, Ident, Sign, token, percent_sign, run_kind, row_kind, Stray}
use Rattle.text_meaning.specs.Cut.{is_row}
use Rattle.twelf_lexer.specs.Advances.{Advances}
use Rattle.twelf_lexer.specs.Rows.{IsLongestRow, IsRow}
use Rattle.twelf_lexer.specs.Lexemes.{IsMark, IsReserved, IsToken, runs, word_mark}
use Rattle.twelf_lexer.specs.declared.row.RowEnd.{RowEnd}
use Rattle.twelf_lexer.specs.declared.sign.PercentWord.{PercentWord}
use Rattle.twelf_lexer.specs.declared.sign.Sign as lexer
use Rattle.twelf_lexer.specs.declared.sign.Sign.TheVariants as signs
use Rattle.twelf_lexer.proofs.RowSteps.{row_advances, row_runs, stray_row, free_row, free_run, single_row}
use Rattle.twelf_lexer.proofs.RowLoops.{an_identifier}
use Rattle.list_laws.proofs.Booleans.{and_first}

pub is_token : (text : List ℕ) (at to : ℕ) (sign : lexer.Sign) (m : Sign) → IsMark sign m → Advances text at to (token at to (Mark m) ∷ []) → IsToken text at to sign
is_token text at to sign m k a =
    record {
      advances = subst (λ kind. Advances text at to (token at to kind ∷ [])) (sym (k.kind text at to)) a;
      parts = k.parts text at to;
      more = k.more;
    }

-- ---- percent words

pub is_word : (text : List ℕ) (at to : ℕ) (w : PercentWord) → word_mark w ≡ percent_sign (slice_range text (at + 1) to) → Advances text at to (token at to (Mark (percent_sign (slice_range text (at + 1) to))) ∷ []) → IsToken text at to (signs.Percent w)
is_word text at to w h a = record { advances = subst (λ m. Advances text at to (token at to (Mark m) ∷ [])) (sym h) a; parts = sym h; more = refl }

-- ---- rows

stray_mark : IsMark signs.Stray Stray
stray_mark = record { kind = λ text from to. refl; parts = λ text from to. tt; more = refl }

pub stray_is : (text : List ℕ) (at : ℕ) (r : RowEnd) → IsLongestRow text at r → r.several ≡ true → r.reserved ≡ true → IsToken text at r.to signs.Stray
stray_is text at r l s f =
    let stray = stray_row l.words (sym l.several ∙ s) (sym l.reserved ∙ f) in
    is_token text at r.to signs.Stray Stray stray_mark (subst (λ k. Advances text at r.to (token at r.to k ∷ [])) stray (row_advances text at r.to l.words l.is_row l.ends))

pub several_is : (text : List ℕ) (at : ℕ) (r : RowEnd) → IsCharBoundary text at → IsLongestRow text at r → r.several ≡ true → r.reserved ≡ false → IsToken text at r.to signs.Path
several_is text at r b l s f =
    let free : list_any is_reserved l.words ≡ false = sym l.reserved ∙ f in
    let several : nat_lt 1 (length l.words) ≡ true = sym l.several ∙ s in
    let same : l.words ≡ runs (slice_range text at r.to) = sym (row_runs text at r.to l.words l.is_row) in
    let kind = free_row l.words l.is_row.runs free ∙ ap Ident same in
    record {
      advances = subst (λ k. Advances text at r.to (token at r.to k ∷ [])) kind (row_advances text at r.to l.words l.is_row l.ends);
      parts = record {
        start = b;
        is_row = subst (IsRow text at r.to) same l.is_row;
        free = subst (λ ws. list_any is_reserved ws ≡ false) same free;
        ends = l.ends;
        several = subst (λ ws. nat_lt 1 (length ws) ≡ true) same several;
      };
      more = refl;
    }

-- a row of one run
one_is : (text : List ℕ) (at : ℕ) (r : RowEnd) → IsLongestRow text at r → r.several ≡ false → Advances text at r.to (token at r.to (run_kind (slice_range text at r.to)) ∷ [])
one_is text at r l s =
    let one = single_row text at r.to l.words l.is_row (sym l.several ∙ s) in
    subst (λ ws. Advances text at r.to (token at r.to (row_kind ws) ∷ [])) one (row_advances text at r.to l.words l.is_row l.ends)

pub reserved_is : (text : List ℕ) (at : ℕ) (r : RowEnd) (sign : lexer.Sign) → IsLongestRow text at r → r.several ≡ false → IsReserved (slice_range text at r.to) sign → IsToken text at r.to sign
reserved_is text at r sign l s k =
    record {
      advances = subst (λ kind. Advances text at r.to (token at r.to kind ∷ [])) (sym (k.0 text at r.to)) (one_is text at r l s);
      parts = k.1 text at r.to;
      more = k.2;
    }

pub name_is : (text : List ℕ) (at : ℕ) (r : RowEnd) → IsCharBoundary text at → IsLongestRow text at r → r.several ≡ false → is_reserved (slice_range text at r.to) ≡ false → IsToken text at r.to signs.Name
name_is text at r b l s f =
    let w = slice_range text at r.to in
    let one = single_row text at r.to l.words l.is_row (sym l.several ∙ s) in
    let run : is_run w ≡ true = and_first (is_run w) true (ap is_row (sym one) ∙ l.is_row.runs) in
    record {
      advances = subst (λ kind. Advances text at r.to (token at r.to kind ∷ [])) (free_run w f) (one_is text at r l s);
      parts = record { start = b; identifier = an_identifier w run f };
      more = refl;
    }
