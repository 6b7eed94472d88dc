-- The paths that stand in texts, and how single items end.
use Rattle.std.proofs.Common.{◌≡◌, ℕ, zero, suc, ◌<◌, Bool, true, false, cond, List, [], ◌∷◌, ◌++◌, length, take, drop, get_or, bytes_eq, codes, refl, sym, ap, ◌∙◌, subst, arith, append-nil, append_assoc, length-append, Some, IsUtf8}
use Rattle.std.specs.List.{list_any}
use Rattle.std.proofs.lemmas.Bool.Decides.{nat_tests}
use Rattle.std.proofs.lemmas.Str.{IsUtf8-take, IsUtf8-drop, IsCharBoundary-before_ascii, IsCharBoundary-after_ascii, IsUtf8-nil}
use Rattle.name_meaning.specs.Characters.{is_identifier_byte}
use Rattle.name_meaning.specs.Identifiers.{is_reserved}
use Rattle.text_meaning.specs.Bytes.{begins}
use Rattle.name_meaning.specs.Names.{Path}
use Rattle.text_meaning.specs.Tokens.{Kind, Mark, Ident, Sign, Stray, Token, run_kind, row_kind, spelled}
use Rattle.text_meaning.specs.Cut.{Ending, Cut, at_end, at_mark, white_space, line_comment, nested_comment, unclosed_comment, percent_word, stray_percent, stray_quote, assign, lone_colon, bracket, lone_dot, row, is_row, ends_line, Closes, opens, closes, passes, brackets, bracket_sign}
use Rattle.token_laws.proofs.CutFollows.{of_sign_in, white_space_is_not}
use Rattle.token_laws.proofs.Bytes.{low_byte, ends_row_begins}

-- a path that is spelled by a row of runs, none reserved, in UTF-8
pub record IsWritable (path : Path) : Type 0 where
  pub runs : is_row path ≡ true
  pub kind : row_kind path ≡ Ident path
  pub utf8 : IsUtf8 (spelled path)

-- the path of a token, where it has one, is writable
abbrev pub IsValidKind : Kind → Type 0
IsValidKind (Mark m) = Unit {0}
IsValidKind (Ident path) = IsWritable path

abbrev pub AreValid : List Token → Type 0
AreValid [] = Unit {0}
AreValid (t ∷ ts) = IsValidKind t.kind × AreValid ts

pub valid_left : (ts us : List Token) → AreValid (ts ++ us) → AreValid ts
valid_left [] us h = tt
valid_left (t ∷ ts) us h = (h.0, valid_left ts us h.1)

pub valid_right : (ts us : List Token) → AreValid (ts ++ us) → AreValid us
valid_right [] us h = h
valid_right (t ∷ ts) us h = valid_right ts us h.1

-- ---- parts of a text in UTF-8

get_behind : (xs : List ℕ) (b : ℕ) (bs : List ℕ) → get_or (xs ++ (b ∷ bs)) (length xs) 0 ≡ b
get_behind [] b bs = refl
get_behind (x ∷ xs) b bs = get_behind xs b bs

take_front : (xs ys : List ℕ) → take (length xs) (xs ++ ys) ≡ xs
take_front [] ys = refl
take_front (x ∷ xs) ys = ap (λ zs. x ∷ zs) (take_front xs ys)

drop_front : (xs ys : List ℕ) → drop (length xs) (xs ++ ys) ≡ ys
drop_front [] ys = refl
drop_front (x ∷ xs) ys = drop_front xs ys

-- a text may be cut before a byte that belongs to no identifier, and at its end
pub utf8_parts : (xs ys : List ℕ) → IsUtf8 (xs ++ ys) → begins is_identifier_byte ys ≡ false → IsUtf8 xs × IsUtf8 ys
utf8_parts xs [] u h = (subst IsUtf8 (append-nil xs) u, IsUtf8-nil)
utf8_parts xs (b ∷ bs) u h =
    let within : length xs < length (xs ++ (b ∷ bs)) = omega (arith, length-append xs (b ∷ bs)) in
    let low : get_or (xs ++ (b ∷ bs)) (length xs) 0 < 128 = subst (λ c. c < 128) (sym (get_behind xs b bs)) (low_byte b h) in
    let boundary = IsCharBoundary-before_ascii (xs ++ (b ∷ bs)) (length xs) within low in (
      subst IsUtf8 (take_front xs (b ∷ bs)) (IsUtf8-take (xs ++ (b ∷ bs)) (length xs) u boundary),
      subst IsUtf8 (drop_front xs (b ∷ bs)) (IsUtf8-drop (xs ++ (b ∷ bs)) (length xs) u boundary),
    )

-- and behind an ASCII byte
pub utf8_behind : (b : ℕ) (bs : List ℕ) → b < 128 → IsUtf8 (b ∷ bs) → IsUtf8 bs
utf8_behind b bs low u =
    IsUtf8-drop (b ∷ bs) 1 u (IsCharBoundary-after_ascii (b ∷ bs) 0 u (omega arith) low)

-- ---- what tokens hold

word_valid : (w : List ℕ) → is_row (w ∷ []) ≡ true → IsUtf8 (spelled (w ∷ [])) → IsValidKind (run_kind w)
word_valid w r u =
    go (bytes_eq w (codes "type")) (bytes_eq w (codes "->")) (bytes_eq w (codes "<-")) (bytes_eq w (codes "=")) (bytes_eq w (codes "_")) refl refl refl refl refl
  where
    go : (a b c d e : Bool) → bytes_eq w (codes "type") ≡ a → bytes_eq w (codes "->") ≡ b → bytes_eq w (codes "<-") ≡ c → bytes_eq w (codes "=") ≡ d → bytes_eq w (codes "_") ≡ e
        → IsValidKind (run_kind w)
    go true b c d e p q s t v = rw p tt
    go false true c d e p q s t v = rw (p, q) tt
    go false false true d e p q s t v = rw (p, q, s) tt
    go false false false true e p q s t v = rw (p, q, s, t) tt
    go false false false false true p q s t v = rw (p, q, s, t, v) tt
    go false false false false false p q s t v =
        let kind : run_kind w ≡ Ident (w ∷ []) = rw (p, q, s, t, v) refl in
        subst IsValidKind (sym kind) (record { runs = r; kind = kind; utf8 = u })

words_valid : (w v : List ℕ) (vs : List (List ℕ)) → is_row (w ∷ v ∷ vs) ≡ true → IsUtf8 (spelled (w ∷ v ∷ vs)) → IsValidKind (row_kind (w ∷ v ∷ vs))
words_valid w v vs r u = go (list_any is_reserved (w ∷ v ∷ vs)) refl
  where
    go : (a : Bool) → list_any is_reserved (w ∷ v ∷ vs) ≡ a → IsValidKind (row_kind (w ∷ v ∷ vs))
    go true p = subst IsValidKind (sym (ap (λ b. cond b (Mark Stray) (Ident (w ∷ v ∷ vs))) p)) tt
    go false p =
        let kind : row_kind (w ∷ v ∷ vs) ≡ Ident (w ∷ v ∷ vs) = ap (λ b. cond b (Mark Stray) (Ident (w ∷ v ∷ vs))) p in
        subst IsValidKind (sym kind) (record { runs = r; kind = kind; utf8 = u })

row_valid : (words : List (List ℕ)) → is_row words ≡ true → IsUtf8 (spelled words) → IsValidKind (row_kind words)
row_valid [] r u = absurd cc
row_valid (w ∷ []) r u = word_valid w r u
row_valid (w ∷ v ∷ vs) r u = words_valid w v vs r u

line_begins : (rest : List ℕ) → ends_line rest ≡ true → begins is_identifier_byte rest ≡ false
line_begins [] h = refl
line_begins (b ∷ bs) h = let e : b ≡ 10 = grind (arith, nat_tests) in rw e refl

-- the last byte of a comment is a percent sign
record EndsInPercent (comment : List ℕ) : Type 0 where
  pub front : List ℕ
  pub is : comment ≡ front ++ (37 ∷ [])

after : (b : ℕ) {bs : List ℕ} → EndsInPercent bs → EndsInPercent (b ∷ bs)
after b e = record { front = b ∷ e.front; is = ap (λ xs. b ∷ xs) e.is }

closed_end : (n : ℕ) (comment : List ℕ) → Closes (suc n) comment → EndsInPercent comment
closed_end n [] d = elim d [ ]
closed_end n (b ∷ c ∷ bs) (opens d) = after b (after c (closed_end (suc n) bs d))
closed_end zero (b ∷ c ∷ []) (closes d) = record { front = 125 ∷ []; is = refl }
closed_end zero (b ∷ c ∷ e ∷ bs) (closes d) = elim d [ ]
closed_end (suc n) (b ∷ c ∷ bs) (closes d) = after b (after c (closed_end n bs d))
closed_end n (b ∷ bs) (passes h d) = after b (closed_end n bs d)

-- behind a comment that is closed
closed_utf8 : (n : ℕ) (comment rest : List ℕ) → Closes (suc n) comment → IsUtf8 (comment ++ rest) → IsUtf8 rest
closed_utf8 n comment rest d u =
    let e = closed_end n comment d in
    let text : comment ++ rest ≡ e.front ++ (37 ∷ rest) = ap (λ xs. xs ++ rest) e.is ∙ append_assoc e.front (37 ∷ []) rest in
    utf8_behind 37 rest (omega arith) (utf8_parts e.front (37 ∷ rest) (subst IsUtf8 text u) refl).1

bracket_low : (b : ℕ) (m : Sign) → bracket_sign b ≡ Some m → b < 128
bracket_low b m h = of_sign_in (λ c n. c < 128) brackets b m (omega arith, (omega arith, (omega arith, (omega arith, (omega arith, (omega arith, tt)))))) h

-- the tokens of a text in UTF-8 hold writable paths
pub cut_valid : {at : ℕ} (bs : List ℕ) {ts : List Token} {e : Ending} → Cut at bs ts e → IsUtf8 bs → AreValid ts
cut_valid bs at_end u = tt
cut_valid bs at_mark u = tt
cut_valid (b ∷ bs) (white_space h d) u = cut_valid bs d (utf8_behind b bs (low_byte b (white_space_is_not b h)) u)
cut_valid bs (line_comment comment rest b f l d) u =
    cut_valid rest d (utf8_parts comment rest (utf8_behind 37 (comment ++ rest) (omega arith) u) (line_begins rest l)).1
cut_valid bs (nested_comment comment rest c d) u =
    cut_valid rest d (closed_utf8 0 comment rest c (utf8_behind 123 (comment ++ rest) (omega arith) (utf8_behind 37 (123 ∷ (comment ++ rest)) (omega arith) u)))
cut_valid bs (unclosed_comment n) u = tt
cut_valid bs (percent_word word rest w n d) u = (tt, cut_valid rest d (utf8_parts word rest (utf8_behind 37 (word ++ rest) (omega arith) u) n).1)
cut_valid (b ∷ bs) (stray_percent n d) u = (tt, cut_valid bs d (utf8_behind 37 bs (omega arith) u))
cut_valid (b ∷ bs) (stray_quote d) u = (tt, cut_valid bs d (utf8_behind 34 bs (omega arith) u))
cut_valid (b ∷ c ∷ bs) (assign d) u = (tt, cut_valid bs d (utf8_behind 61 bs (omega arith) (utf8_behind 58 (61 ∷ bs) (omega arith) u)))
cut_valid (b ∷ bs) (lone_colon n d) u = (tt, cut_valid bs d (utf8_behind 58 bs (omega arith) u))
cut_valid (b ∷ bs) (bracket {m = m} k d) u = (tt, cut_valid bs d (utf8_behind b bs (bracket_low b m k) u))
cut_valid (b ∷ bs) (lone_dot d) u = (tt, cut_valid bs d (utf8_behind 46 bs (omega arith) u))
cut_valid bs (row words rest r k d) u =
    let parts = utf8_parts (spelled words) rest u (ends_row_begins rest k) in
    (row_valid words r parts.0, cut_valid rest d parts.1)
