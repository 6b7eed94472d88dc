-- Items are cut into their tokens, where each ends before what follows it.
use Rattle.std.proofs.Common.{◌≡◌, ℕ, ◌+◌, true, List, [], ◌∷◌, ◌++◌, length, refl, sym, ap, ◌∙◌, subst, arith, append_assoc, length-append, append-nil, IsUtf8}
use Rattle.std.specs.List.{list_all}
use Rattle.std.proofs.lemmas.Bool.{and_parts}
use Rattle.std.proofs.lemmas.Str.{IsUtf8-append, IsUtf8-nil}
use Rattle.name_meaning.specs.Characters.{is_white_space}
use Rattle.text_meaning.specs.Tokens.{Token, token}
use Rattle.text_meaning.specs.Cut.{Ending, Finished, Cut, at_end, white_space}
use Rattle.print_meaning.specs.PrintedItems.{Gap, Item, text_of, end_of, tokens_of}

pub text_append : (xs ys : List Item) → text_of (xs ++ ys) ≡ text_of xs ++ text_of ys
unfolding text_of
text_append [] ys = refl
text_append (x ∷ xs) ys =
    ap (λ t. x.bytes ++ (x.gap ++ t)) (text_append xs ys)
    ∙ ap (λ t. x.bytes ++ t) (sym (append_assoc x.gap (text_of xs) (text_of ys)))
    ∙ sym (append_assoc x.bytes (x.gap ++ text_of xs) (text_of ys))

pub tokens_append : (at : ℕ) (xs ys : List Item) → tokens_of at (xs ++ ys) ≡ tokens_of at xs ++ tokens_of (end_of at xs) ys
unfolding text_of tokens_of
tokens_append at [] ys = ap (λ n. tokens_of n ys) here
  where
    here : at ≡ at + 0
    here = omega arith
tokens_append at (x ∷ xs) ys =
    let n : at + length x.bytes + length x.gap + length (text_of xs) ≡ at + length (x.bytes ++ (x.gap ++ text_of xs)) =
    omega (arith, length-append x.bytes (x.gap ++ text_of xs), length-append x.gap (text_of xs)) in
    ap (λ ts. token at (at + length x.bytes) x.kind ∷ ts)
    (tokens_append (at + length x.bytes + length x.gap) xs ys
    ∙ ap (λ m. tokens_of (at + length x.bytes + length x.gap) xs ++ tokens_of m ys) n)

-- an item that ends before these bytes, its gap at their front
pub record IsFit (i : Item) (behind : List ℕ) : Type 0 where
  pub spaces : list_all is_white_space i.gap ≡ true
  pub utf8 : IsUtf8 i.bytes
  pub gap_utf8 : IsUtf8 i.gap
  pub cut : (at : ℕ) (ts : List Token) (e : Ending) → Cut (at + length i.bytes) behind ts e → Cut at (i.bytes ++ behind) (token at (at + length i.bytes) i.kind ∷ ts) e

-- each item ends before what follows it, and these bytes follow the last one
abbrev pub IsLaid : List Item → List ℕ → Type 0
IsLaid [] rest = Unit {0}
IsLaid (i ∷ items) rest = IsFit i (i.gap ++ (text_of items ++ rest)) × IsLaid items rest

pub laid_append : (xs ys : List Item) (rest : List ℕ) → IsLaid xs (text_of ys ++ rest) → IsLaid ys rest → IsLaid (xs ++ ys) rest
laid_append [] ys rest h k = k
laid_append (x ∷ xs) ys rest h k =
    let same : text_of xs ++ (text_of ys ++ rest) ≡ text_of (xs ++ ys) ++ rest =
    sym (append_assoc (text_of xs) (text_of ys) rest) ∙ ap (λ t. t ++ rest) (sym (text_append xs ys)) in
    (subst (λ t. IsFit x (x.gap ++ t)) same h.0, laid_append xs ys rest h.1 k)

-- white space is passed over
gap_cut : (gap : Gap) (at : ℕ) (rest : List ℕ) (ts : List Token) (e : Ending) → list_all is_white_space gap ≡ true
    → Cut (at + length gap) rest ts e → Cut at (gap ++ rest) ts e
gap_cut [] at rest ts e h d = subst (λ n. Cut n rest ts e) here d
  where
    here : at + 0 ≡ at
    here = omega arith
gap_cut (b ∷ gap) at rest ts e h d =
    let parts = and_parts (is_white_space b) (list_all is_white_space gap) h in
    let n : at + length (b ∷ gap) ≡ at + 1 + length gap = omega arith in
    white_space parts.0 (gap_cut gap (at + 1) rest ts e parts.1 (subst (λ m. Cut m rest ts e) n d))

pub laid_cut : (items : List Item) (at : ℕ) (rest : List ℕ) (ts : List Token) (e : Ending) → IsLaid items rest → Cut (end_of at items) rest ts e
    → Cut at (text_of items ++ rest) (tokens_of at items ++ ts) e
unfolding text_of tokens_of
laid_cut [] at rest ts e h d = subst (λ n. Cut n rest ts e) here d
  where
    here : at + 0 ≡ at
    here = omega arith
laid_cut (x ∷ items) at rest ts e h d =
    let n : at + length (x.bytes ++ (x.gap ++ text_of items)) ≡ at + length x.bytes + length x.gap + length (text_of items) =
    omega (arith, length-append x.bytes (x.gap ++ text_of items), length-append x.gap (text_of items)) in
    let later = laid_cut items (at + length x.bytes + length x.gap) rest ts e h.1 (subst (λ m. Cut m rest ts e) n d) in
    let behind = gap_cut x.gap (at + length x.bytes) (text_of items ++ rest) (tokens_of (at + length x.bytes + length x.gap) items ++ ts) e h.0.spaces later in
    let whole = h.0.cut at (tokens_of (at + length x.bytes + length x.gap) items ++ ts) e behind in
    let text : x.bytes ++ (x.gap ++ (text_of items ++ rest)) ≡ (x.bytes ++ (x.gap ++ text_of items)) ++ rest =
    ap (λ t. x.bytes ++ t) (sym (append_assoc x.gap (text_of items) rest)) ∙ sym (append_assoc x.bytes (x.gap ++ text_of items) rest) in
    subst (λ t. Cut at t (token at (at + length x.bytes) x.kind ∷ (tokens_of (at + length x.bytes + length x.gap) items ++ ts)) e) text whole

pub laid_utf8 : (items : List Item) (rest : List ℕ) → IsLaid items rest → IsUtf8 (text_of items)
unfolding text_of
laid_utf8 [] rest h = IsUtf8-nil
laid_utf8 (x ∷ items) rest h =
    IsUtf8-append x.bytes (x.gap ++ text_of items) h.0.utf8 (IsUtf8-append x.gap (text_of items) h.0.gap_utf8 (laid_utf8 items rest h.1))

-- items with nothing behind them are a text that is cut into their tokens
pub laid_whole : (items : List Item) → IsLaid items [] → Cut 0 (text_of items) (tokens_of 0 items) (Finished (length (text_of items)))
laid_whole items h =
    subst (λ ts. Cut 0 (text_of items) ts (Finished (length (text_of items)))) (append-nil (tokens_of 0 items))
    (subst (λ t. Cut 0 t (tokens_of 0 items ++ []) (Finished (length (text_of items)))) (append-nil (text_of items))
    (laid_cut items 0 [] [] (Finished (length (text_of items))) h (subst (λ n. Cut n [] [] (Finished (length (text_of items)))) here at_end)))
  where
    here : length (text_of items) ≡ 0 + length (text_of items)
    here = omega arith
