-- Printed tokens are cut as they were printed.
use Rattle.std.proofs.Common.{◌≡◌, ℕ, ◌+◌, true, false, ◌==◌, List, [], ◌∷◌, ◌++◌, length, refl, sym, subst, arith, length-append}
use Rattle.std.proofs.lemmas.Bool.Decides.{nat_tests}
use Rattle.name_meaning.specs.Characters.{is_white_space}
use Rattle.text_meaning.specs.Bytes.{percent, dot, equal}
use Rattle.text_meaning.specs.Tokens.{Kind, Mark, Token, token, percent_sign}
use Rattle.text_meaning.specs.Cut.{Ending, Finished, ends_row, Cut, at_end, white_space, percent_word, assign, lone_colon, bracket, lone_dot, row}
use Rattle.token_laws.specs.PrintedLaws.{IsPrintable, print_percent, print_assign, print_colon, print_dot, print_bracket, print_row, printed_text, printed_tokens, PrintedTokensAreCut}
use Rattle.token_laws.proofs.CutFollows.{white_space_is_not}

-- white space is none of the bytes that would go on
not_equal : (b : ℕ) → is_white_space b ≡ true → (b == equal) ≡ false
not_equal b h = grind (arith, nat_tests)

not_dot : (b : ℕ) → is_white_space b ≡ true → (b == dot) ≡ false
not_dot b h = grind (arith, nat_tests)

row_ends_there : (b : ℕ) (bs : List ℕ) → is_white_space b ≡ true → ends_row (b ∷ bs) ≡ true
row_ends_there b bs h = rw (white_space_is_not b h, not_dot b h) refl

-- a token before white space
token_is_cut : {kind : Kind} {bytes : List ℕ} → IsPrintable kind bytes → (at b : ℕ) (rest : List ℕ) (ts : List Token) (e : Ending) → is_white_space b ≡ true
    → Cut (at + length bytes) (b ∷ rest) ts e → Cut at (bytes ++ (b ∷ rest)) (token at (at + length bytes) kind ∷ ts) e
token_is_cut (print_percent {word = word} k) at b rest ts e h d =
    let n : length (percent ∷ word) ≡ 1 + length word = omega arith in
    subst (λ m. Cut at (percent ∷ (word ++ (b ∷ rest))) (token at (at + m) (Mark (percent_sign word)) ∷ ts) e) (sym n)
    (percent_word word (b ∷ rest) k (white_space_is_not b h) (subst (λ m. Cut (at + m) (b ∷ rest) ts e) n d))
token_is_cut print_assign at b rest ts e h d = assign d
token_is_cut print_colon at b rest ts e h d = lone_colon (not_equal b h) d
token_is_cut print_dot at b rest ts e h d = lone_dot d
token_is_cut (print_bracket k) at b rest ts e h d = bracket k d
token_is_cut (print_row words k) at b rest ts e h d = row words (b ∷ rest) k (row_ends_there b rest h) d

pub printed_tokens_are_cut : PrintedTokensAreCut
printed_tokens_are_cut at [] = subst (λ n. Cut at [] [] (Finished n)) here at_end
  where
    here : at ≡ at + 0
    here = omega arith
printed_tokens_are_cut at (p ∷ ps) =
    let next = printed_tokens_are_cut (at + length p.bytes + 1) ps in
    let n : at + length p.bytes + 1 + length (printed_text ps) ≡ at + length (p.bytes ++ (p.space ∷ printed_text ps)) = omega (arith, length-append p.bytes (p.space ∷ printed_text ps)) in
    subst (λ m. Cut at (p.bytes ++ (p.space ∷ printed_text ps)) (token at (at + length p.bytes) p.kind ∷ printed_tokens (at + length p.bytes + 1) ps) (Finished m)) n
    (token_is_cut p.printable at p.space (printed_text ps) _ _ p.is_space (white_space p.is_space next))
