-- The items of an expression end each before what follows it.
use Rattle.std.proofs.Common.{◌≡◌, ℕ, zero, suc, ◌+◌, ◌<◌, Bool, true, false, ◌==◌, ◌&&◌, ◌||◌, List, [], ◌∷◌, ◌++◌, length, codes, refl, sym, subst, arith, true≢false, IsUtf8}
use Rattle.std.specs.List.{list_all}
use Rattle.std.specs.Str.{IsAscii}
use Rattle.std.proofs.lemmas.Bool.Decides.{nat_tests}
use Rattle.std.proofs.lemmas.Str.{IsUtf8-nil, IsUtf8-from_ascii}
use Rattle.std.specs.Prelude.{Some, None, if◌then◌else◌}
use Rattle.name_meaning.specs.Characters.{is_white_space, is_identifier_byte}
use Rattle.name_meaning.specs.Identifiers.{is_run}
use Rattle.text_meaning.specs.Bytes.{begins, equal}
use Rattle.name_meaning.specs.Names.{Path}
use Rattle.text_meaning.specs.Tokens.{Mark, Sign, token, percent_sign, LeftParen, RightParen, LeftBracket, RightBracket, LeftBrace, RightBrace, DotSign, row_kind, spelled}
use Rattle.text_meaning.specs.Cut.{Cut, percent_word, assign, lone_colon, bracket, lone_dot, row, is_row, ends_row, bracket_sign}
use Rattle.text_meaning.specs.Trees.{Binder, Expr, TypeExpr, NameExpr, AppExpr, PiExpr, LamExpr, TypedLamExpr, ArrowExpr, BackExpr, Exprs, NoArgs, ThenArg}
use Rattle.print_meaning.specs.PrintedItems.{Gap, tight, space, new_line, Item, item, path_item, colon_item, assign_item, right_paren, right_bracket, right_brace, arrow_item, back_item, text_of}
use Rattle.print_meaning.specs.PrintedExpressions.{is_word, is_binding, is_operand, is_last_operand, is_back, binder_item, enclosed, placed, expr_items, args_items}
use Rattle.print_laws.proofs.LaidOut.{IsFit, IsLaid, laid_append}
use Rattle.print_laws.proofs.Writable.{IsWritable}
use Rattle.print_laws.proofs.WellWritten.{IsWrittenBinder, IsWellWritten, AreWellWritten}

-- each byte is ASCII
abbrev pub AreLow : List ℕ → Type 0
AreLow [] = Unit {0}
AreLow (b ∷ bs) = (b < 128) × AreLow bs

are_ascii : (bs : List ℕ) → AreLow bs → IsAscii bs
are_ascii [] h i = omega arith
are_ascii (b ∷ bs) h zero = h.0
are_ascii (b ∷ bs) h (suc i) = are_ascii bs h.1 i

pub low_utf8 : (bs : List ℕ) → AreLow bs → IsUtf8 bs
low_utf8 bs h = IsUtf8-from_ascii bs (are_ascii bs h)

one_low : (b : ℕ) → b < 128 → IsUtf8 (b ∷ [])
one_low b h = low_utf8 (b ∷ []) (h, tt)

-- a gap of white space, in UTF-8
pub record IsGap (gap : Gap) : Type 0 where
  pub spaces : list_all is_white_space gap ≡ true
  pub utf8 : IsUtf8 gap

pub no_gap : IsGap tight
no_gap = record { spaces = refl; utf8 = IsUtf8-nil }

pub one_space : IsGap space
one_space = record { spaces = refl; utf8 = one_low 32 (omega arith) }

pub one_line : IsGap new_line
one_line = record { spaces = refl; utf8 = one_low 10 (omega arith) }

not_equal_sign : (behind : List ℕ) → begins is_identifier_byte behind ≡ false → begins (λ b. b == equal) behind ≡ false
not_equal_sign [] h = refl
not_equal_sign (b ∷ bs) h = by (b == equal) refl
  where
    by : (t : Bool) → (b == equal) ≡ t → (b == equal) ≡ false
    by true e = let same : b ≡ 61 = grind (arith, nat_tests) in absurd (true≢false (subst (λ c. is_identifier_byte c ≡ false) same h))
    by false e = e

-- ---- single items

pub row_fit : (words : List (List ℕ)) (gap : Gap) (behind : List ℕ) → is_row words ≡ true → IsUtf8 (spelled words) → IsGap gap → ends_row behind ≡ true
    → IsFit (item (row_kind words) (spelled words) gap) behind
row_fit words gap behind r u g e = record {
  spaces = g.spaces;
  utf8 = u;
  gap_utf8 = g.utf8;
  cut = λ at ts x d. row words behind r e d;
}

pub path_fit : (path : Path) (gap : Gap) (behind : List ℕ) → IsWritable path → IsGap gap → ends_row behind ≡ true → IsFit (path_item path gap) behind
path_fit path gap behind w g e = subst (λ k. IsFit (item k (spelled path) gap) behind) w.kind (row_fit path gap behind w.runs w.utf8 g e)

pub bracket_fit : (b : ℕ) (m : Sign) (gap : Gap) (behind : List ℕ) → bracket_sign b ≡ Some m → IsUtf8 (b ∷ []) → IsGap gap → IsFit (item (Mark m) (b ∷ []) gap) behind
bracket_fit b m gap behind k u g = record {
  spaces = g.spaces;
  utf8 = u;
  gap_utf8 = g.utf8;
  cut = λ at ts x d. bracket k d;
}

pub dot_fit : (gap : Gap) (behind : List ℕ) → IsGap gap → IsFit (item (Mark DotSign) (codes ".") gap) behind
dot_fit gap behind g = record {
  spaces = g.spaces;
  utf8 = one_low 46 (omega arith);
  gap_utf8 = g.utf8;
  cut = λ at ts x d. lone_dot d;
}

pub colon_fit : (behind : List ℕ) → IsFit colon_item (32 ∷ behind)
colon_fit behind = record {
  spaces = refl;
  utf8 = one_low 58 (omega arith);
  gap_utf8 = one_low 32 (omega arith);
  cut = λ at ts x d. lone_colon refl d;
}

pub assign_fit : (behind : List ℕ) → IsFit assign_item behind
assign_fit behind = record {
  spaces = refl;
  utf8 = low_utf8 (58 ∷ 61 ∷ []) (omega arith, (omega arith, tt));
  gap_utf8 = one_low 32 (omega arith);
  cut = λ at ts x d. assign d;
}

pub word_fit : (word : List ℕ) (behind : List ℕ) → is_run word ≡ true → IsUtf8 (37 ∷ word) → IsFit (item (Mark (percent_sign word)) (37 ∷ word) space) (32 ∷ behind)
word_fit word behind r u = record {
  spaces = refl;
  utf8 = u;
  gap_utf8 = one_low 32 (omega arith);
  cut = λ at ts x d.
      let n : length (37 ∷ word) ≡ 1 + length word = omega arith in
      subst (λ m. Cut at (37 ∷ (word ++ (32 ∷ behind))) (token at (at + m) (Mark (percent_sign word)) ∷ ts) x) (sym n)
      (percent_word word (32 ∷ behind) r refl (subst (λ m. Cut (at + m) (32 ∷ behind) ts x) n d));
}

-- ---- expressions

type_utf8 : IsUtf8 (codes "type")
type_utf8 = low_utf8 (codes "type") (omega arith, (omega arith, (omega arith, (omega arith, tt))))

binder_fit : (x : Binder) (gap : Gap) (behind : List ℕ) → IsWrittenBinder x → IsGap gap → ends_row behind ≡ true → IsFit (binder_item x gap) behind
binder_fit (Some name) gap behind w g e = path_fit (name ∷ []) gap behind w g e
binder_fit None gap behind w g e = row_fit (codes "_" ∷ []) gap behind refl (one_low 95 (omega arith)) g e

enclosed_laid : (inside : List Item) (gap : Gap) (rest : List ℕ) → ((tail : List ℕ) → ends_row (tight ++ tail) ≡ true → IsLaid inside tail) → IsGap gap → IsLaid (enclosed inside gap) rest
unfolding text_of
enclosed_laid inside gap rest h g = (
  bracket_fit 40 LeftParen tight _ refl (one_low 40 (omega arith)) no_gap,
  laid_append inside (right_paren gap ∷ []) rest
      (h (text_of (right_paren gap ∷ []) ++ rest) refl)
      (bracket_fit 41 RightParen gap _ refl (one_low 41 (omega arith)) g, tt),
)

placed_laid : (bare : Bool) (plain inside : List Item) (gap : Gap) (rest : List ℕ) → IsLaid plain rest → ((tail : List ℕ) → ends_row (tight ++ tail) ≡ true → IsLaid inside tail) → IsGap gap
    → IsLaid (placed bare plain inside gap) rest
placed_laid true plain inside gap rest p h g = p
placed_laid false plain inside gap rest p h g = enclosed_laid inside gap rest h g

mutual
  unfolding expr_items text_of

  pub expr_laid : (free : Bool) (e : Expr) (gap : Gap) (rest : List ℕ) → IsWellWritten e → IsGap gap → ends_row (gap ++ rest) ≡ true → IsLaid (expr_items free e gap) rest
  expr_laid free (TypeExpr s) gap rest w g h = (row_fit (codes "type" ∷ []) gap (gap ++ ([] ++ rest)) refl type_utf8 g h, tt)
  expr_laid free (NameExpr s p) gap rest w g h = (path_fit p gap (gap ++ ([] ++ rest)) w g h, tt)
  expr_laid free (AppExpr s e xs) gap rest w g h =
      let head : List Item = placed (is_word e) (expr_items true e space) (expr_items true e tight) space in
      laid_append head (args_items free xs gap) rest
      (placed_laid (is_word e) (expr_items true e space) (expr_items true e tight) space (text_of (args_items free xs gap) ++ rest)
      (expr_laid true e space (text_of (args_items free xs gap) ++ rest) w.head one_space refl)
      (λ tail k. expr_laid true e tight tail w.head no_gap k) one_space)
      (args_laid free xs gap rest w.args g h)
  expr_laid free (PiExpr s x a b) gap rest w g h = (
    bracket_fit 123 LeftBrace tight _ refl (one_low 123 (omega arith)) no_gap,
    (
      binder_fit x space _ w.binder one_space refl,
      (
        colon_fit _,
        laid_append (expr_items true a tight) (right_brace space ∷ expr_items true b gap) rest
            (expr_laid true a tight (text_of (right_brace space ∷ expr_items true b gap) ++ rest) w.domain no_gap refl)
            (bracket_fit 125 RightBrace space _ refl (one_low 125 (omega arith)) one_space, expr_laid true b gap rest w.body g h),
      ),
    ),
  )
  expr_laid free (LamExpr s x b) gap rest w g h = (
    bracket_fit 91 LeftBracket tight _ refl (one_low 91 (omega arith)) no_gap,
    (
      binder_fit x tight _ w.binder no_gap refl,
      (bracket_fit 93 RightBracket space _ refl (one_low 93 (omega arith)) one_space, expr_laid true b gap rest w.body g h),
    ),
  )
  expr_laid free (TypedLamExpr s x a b) gap rest w g h = (
    bracket_fit 91 LeftBracket tight _ refl (one_low 91 (omega arith)) no_gap,
    (
      binder_fit x space _ w.binder one_space refl,
      (
        colon_fit _,
        laid_append (expr_items true a tight) (right_bracket space ∷ expr_items true b gap) rest
            (expr_laid true a tight (text_of (right_bracket space ∷ expr_items true b gap) ++ rest) w.domain no_gap refl)
            (bracket_fit 93 RightBracket space _ refl (one_low 93 (omega arith)) one_space, expr_laid true b gap rest w.body g h),
      ),
    ),
  )
  expr_laid free (ArrowExpr s a b) gap rest w g h =
      let right : List Item = placed (if is_back b then false else true) (expr_items true b gap) (expr_items true b tight) gap in
      laid_append (placed (is_operand a) (expr_items false a space) (expr_items true a tight) space) (arrow_item ∷ right) rest
      (placed_laid (is_operand a) (expr_items false a space) (expr_items true a tight) space (text_of (arrow_item ∷ right) ++ rest)
      (expr_laid false a space (text_of (arrow_item ∷ right) ++ rest) w.domain one_space refl)
      (λ tail k. expr_laid true a tight tail w.domain no_gap k) one_space) (
        row_fit (codes "->" ∷ []) space _ refl (low_utf8 (45 ∷ 62 ∷ []) (omega arith, (omega arith, tt))) one_space refl,
        placed_laid (if is_back b then false else true) (expr_items true b gap) (expr_items true b tight) gap rest
            (expr_laid true b gap rest w.body g h) (λ tail k. expr_laid true b tight tail w.body no_gap k) g,
      )
  expr_laid free (BackExpr s b a) gap rest w g h =
      let right : List Item = placed (if free then is_last_operand a else is_operand a) (expr_items free a gap) (expr_items true a tight) gap in
      laid_append (placed (is_operand b || is_back b) (expr_items false b space) (expr_items true b tight) space) (back_item ∷ right) rest
      (placed_laid (is_operand b || is_back b) (expr_items false b space) (expr_items true b tight) space (text_of (back_item ∷ right) ++ rest)
      (expr_laid false b space (text_of (back_item ∷ right) ++ rest) w.body one_space refl)
      (λ tail k. expr_laid true b tight tail w.body no_gap k) one_space) (
        row_fit (codes "<-" ∷ []) space _ refl (low_utf8 (60 ∷ 45 ∷ []) (omega arith, (omega arith, tt))) one_space refl,
        placed_laid (if free then is_last_operand a else is_operand a) (expr_items free a gap) (expr_items true a tight) gap rest
            (expr_laid free a gap rest w.domain g h) (λ tail k. expr_laid true a tight tail w.domain no_gap k) g,
      )

  pub args_laid : (free : Bool) (xs : Exprs) (gap : Gap) (rest : List ℕ) → AreWellWritten xs → IsGap gap → ends_row (gap ++ rest) ≡ true → IsLaid (args_items free xs gap) rest
  args_laid free NoArgs gap rest w g h = tt
  args_laid free (ThenArg xs e) gap rest w g h =
      let last : List Item = placed (is_word e || (free && is_binding e)) (expr_items true e gap) (expr_items true e tight) gap in
      laid_append (args_items false xs space) last rest
      (args_laid false xs space (text_of last ++ rest) w.0 one_space refl)
      (placed_laid (is_word e || (free && is_binding e)) (expr_items true e gap) (expr_items true e tight) gap rest
      (expr_laid true e gap rest w.1 g h) (λ tail k. expr_laid true e tight tail w.1 no_gap k) g)
