-- How a file divides, token by token.
use Rattle.std.specs.Prelude.{Option, Some, None, SomeIff, Result, Ok, Err, IsErrAnd}
use Rattle.std.proofs.Common.{◌≡◌, ℕ, suc, ◌+◌, ◌-◌, ◌≤◌, arith, true, false, List, [], ◌∷◌, ◌++◌, refl, sym, ap, subst, ◌∙◌, append_assoc, true≢false}
use Rattle.text_meaning.specs.Tokens.{Span, Sign, Kind, Mark, Ident, Token, token, sign, ident, SigWord, ViewWord, LeftBrace, RightBrace, DotSign, EndSign}
use Rattle.text_meaning.specs.Trees.{Written}
use Rattle.text_meaning.specs.Cut.{Ending, Finished, Unclosed}
use Rattle.text_meaning.specs.Grammar.{simple}
use Rattle.text_meaning.specs.Splitting as splitting
use Rattle.text_meaning.specs.Splitting.{Division, Pieces, SyntaxFault, UnsupportedFault, before_division, is_left_brace, is_right_brace}
use Rattle.text_meaning.specs.Dividing.{AtTop, AtName, BeforeBody, InBody, AtDot, at_name, at_dot, before_next, body_next, divide_on}
use Rattle.twelf_lexer.specs.Lexemes.{sign_kind}
use Rattle.twelf_lexer.specs.declared.sign.PercentWord.{PercentWord}
use Rattle.twelf_lexer.specs.declared.sign.PercentWord.TheVariants as words
use Rattle.twelf_lexer.specs.declared.sign.Sign as signs
use Rattle.twelf_lexer.specs.declared.sign.Sign.TheVariants.{End, Percent}
use Rattle.twelf_expressions.specs.Signs.{is_name, is_sign}
use Rattle.twelf_expressions.specs.Left.{last_token}
use Rattle.twelf_expressions.specs.declared.fault.ReadFault.{ReadFault}
use Rattle.twelf_expressions.specs.declared.fault.ReadFault.TheVariants as faults
use Rattle.twelf_expressions.proofs.SignCases.{is_sign_is}
use Rattle.twelf_reader.specs.Division.{DividesSo, FailsSo, behind_dot, in_body, pieces_before}

-- a token of a sign
token_is : (m : Sign) (t : Token) → is_sign m t.kind ≡ true → t ≡ sign t.span m
token_is m t h = ap (λ k. record { span = t.span; kind = k }) (is_sign_is m t.kind h)

-- ---- between modules

pub ends : (t : Token) (ts : List Token) → is_sign EndSign t.kind ≡ true → divide_on AtTop (t ∷ ts) ≡ Pieces []
unfolding divide_on
ends t ts h = ap (λ u. divide_on AtTop (u ∷ ts)) (token_is EndSign t h)

pub theory_word : (s : Span) (ts : List Token) → divide_on AtTop (sign s SigWord ∷ ts) ≡ divide_on (AtName s) ts
unfolding divide_on
theory_word s ts = refl

pub view_word : (s : Span) (ts : List Token) → divide_on AtTop (sign s ViewWord ∷ ts) ≡ divide_on (AtName s) ts
unfolding divide_on
view_word s ts = refl

-- a percent word that begins no module
pub other_word : (text : List ℕ) (from to : ℕ) (g : signs.Sign) (w : PercentWord) (ts : List Token) → g ≡ Percent w → ¬ (w ≡ words.Sig) → ¬ (w ≡ words.View) → divide_on AtTop (token from to (sign_kind text from to g) ∷ ts) ≡ UnsupportedFault from
unfolding divide_on
other_word text from to g words.Sig ts e a b = absurd (a refl)
other_word text from to g words.View ts e a b = absurd (b refl)
other_word text from to g _ ts e a b = ap (λ x. divide_on AtTop (token from to (sign_kind text from to x) ∷ ts)) e

-- what is no percent word, and not the end
pub no_module : (text : List ℕ) (from to : ℕ) (g : signs.Sign) (ts : List Token) → ((w : PercentWord) → ¬ (g ≡ Percent w)) → is_sign EndSign (sign_kind text from to g) ≡ false → divide_on AtTop (token from to (sign_kind text from to g) ∷ ts) ≡ SyntaxFault from
unfolding divide_on
no_module text from to (Percent w) ts a b = absurd (a w refl)
no_module text from to End ts a b = absurd (true≢false b)
no_module text from to _ ts a b = refl

-- ---- names

pub named : (w s : Span) (n : List ℕ) (ts : List Token) → divide_on (AtName w) (ident s (n ∷ []) ∷ ts) ≡ divide_on (BeforeBody w (simple s n) s.from) ts
unfolding divide_on
named w s n ts = refl

name_stops : (s : Span) (k : Kind) (go : Written → Division) → is_name k ≡ false → at_name s k go ≡ SyntaxFault s.from
name_stops s (Ident (n ∷ [])) go h = absurd (true≢false h)
name_stops s _ go h = refl

pub no_name : (w : Span) (t : Token) (ts : List Token) → is_name t.kind ≡ false → divide_on (AtName w) (t ∷ ts) ≡ SyntaxFault t.span.from
unfolding divide_on
no_name w t ts h = name_stops t.span t.kind (λ x. divide_on (BeforeBody w x t.span.from) ts) h

-- ---- bodies

left_brace_is : (k : Kind) → is_left_brace k ≡ is_sign LeftBrace k
left_brace_is (Mark m) = go m
  where
    go : (m : Sign) → is_left_brace (Mark m) ≡ is_sign LeftBrace (Mark m)
    go LeftBrace = refl
    go _ = refl
left_brace_is (Ident p) = refl

right_brace_is : (k : Kind) → is_right_brace k ≡ is_sign RightBrace k
right_brace_is (Mark m) = go m
  where
    go : (m : Sign) → is_right_brace (Mark m) ≡ is_sign RightBrace (Mark m)
    go RightBrace = refl
    go _ = refl
right_brace_is (Ident p) = refl

pub before_last : (w : Span) (x : Written) (last : ℕ) (e : Ending) → divide_on (BeforeBody w x last) (last_token e ∷ []) ≡ SyntaxFault (last_token e).span.from
unfolding divide_on
before_last w x last (Finished at) = refl
before_last w x last (Unclosed at) = refl

pub before_opens : (w : Span) (x : Written) (last : ℕ) (t : Token) (ts : List Token) → is_sign LeftBrace t.kind ≡ true → divide_on (BeforeBody w x last) (t ∷ ts) ≡ divide_on (InBody w x 0 t.span.from) ts
unfolding divide_on
before_opens w x last t ts h =
    let e = left_brace_is t.kind ∙ h in
    let next : before_next w x t ≡ InBody w x 0 t.span.from = rw e refl in
    ap (λ p. divide_on p ts) next

pub before_passes : (w : Span) (x : Written) (last : ℕ) (t : Token) (ts : List Token) → is_sign LeftBrace t.kind ≡ false → divide_on (BeforeBody w x last) (t ∷ ts) ≡ divide_on (BeforeBody w x t.span.from) ts
unfolding divide_on
before_passes w x last t ts h =
    let e = left_brace_is t.kind ∙ h in
    let next : before_next w x t ≡ BeforeBody w x t.span.from = rw e refl in
    ap (λ p. divide_on p ts) next

pub inside_last : (w : Span) (x : Written) (n last : ℕ) (e : Ending) → divide_on (InBody w x n last) (last_token e ∷ []) ≡ SyntaxFault (last_token e).span.from
unfolding divide_on
inside_last w x n last (Finished at) = refl
inside_last w x n last (Unclosed at) = refl

pub inside_opens : (w : Span) (x : Written) (n last : ℕ) (t : Token) (ts : List Token) → is_sign LeftBrace t.kind ≡ true → divide_on (InBody w x n last) (t ∷ ts) ≡ divide_on (InBody w x (n + 1) t.span.from) ts
unfolding divide_on
inside_opens w x n last t ts h =
    let e = left_brace_is t.kind ∙ h in
    let next : body_next w x n t ≡ InBody w x (suc n) t.span.from = rw e refl in
    let f : suc n ≡ n + 1 = omega arith in
    ap (λ p. divide_on p ts) (next ∙ ap (λ m. InBody w x m t.span.from) f)

pub inside_passes : (w : Span) (x : Written) (n last : ℕ) (t : Token) (ts : List Token) → is_sign LeftBrace t.kind ≡ false → is_sign RightBrace t.kind ≡ false → divide_on (InBody w x n last) (t ∷ ts) ≡ divide_on (InBody w x n t.span.from) ts
unfolding divide_on
inside_passes w x n last t ts h k =
    let e = left_brace_is t.kind ∙ h in
    let f = right_brace_is t.kind ∙ k in
    let next : body_next w x n t ≡ InBody w x n t.span.from = rw (e, f) refl in
    ap (λ p. divide_on p ts) next

one_closes : (w : Span) (x : Written) (n last : ℕ) (t : Token) (ts : List Token) → is_sign LeftBrace t.kind ≡ false → is_sign RightBrace t.kind ≡ true → divide_on (InBody w x (suc n) last) (t ∷ ts) ≡ divide_on (InBody w x n t.span.from) ts
unfolding divide_on
one_closes w x n last t ts h k =
    let e = left_brace_is t.kind ∙ h in
    let f = right_brace_is t.kind ∙ k in
    let next : body_next w x (suc n) t ≡ InBody w x n t.span.from = rw (e, f) refl in
    ap (λ p. divide_on p ts) next

body_closes : (w : Span) (x : Written) (last : ℕ) (t : Token) (ts : List Token) → is_sign LeftBrace t.kind ≡ false → is_sign RightBrace t.kind ≡ true → divide_on (InBody w x 0 last) (t ∷ ts) ≡ divide_on (AtDot w x) ts
unfolding divide_on
body_closes w x last t ts h k =
    let e = left_brace_is t.kind ∙ h in
    let f = right_brace_is t.kind ∙ k in
    let next : body_next w x 0 t ≡ AtDot w x = rw (e, f) refl in
    ap (λ p. divide_on p ts) next

-- where tokens are left, the place of the last one does not count
pub any_last : (w : Span) (x : Written) (n last other : ℕ) (t : Token) (ts : List Token) → divide_on (InBody w x n last) (t ∷ ts) ≡ divide_on (InBody w x n other) (t ∷ ts)
unfolding divide_on
any_last w x n last other t ts = refl

pub any_last_before : (w : Span) (x : Written) (last other : ℕ) (t : Token) (ts : List Token) → divide_on (BeforeBody w x last) (t ∷ ts) ≡ divide_on (BeforeBody w x other) (t ∷ ts)
unfolding divide_on
any_last_before w x last other t ts = refl

-- a brace that closes, with so many further ones open
pub inside_closes : (w : Span) (x : Written) (n last : ℕ) (r : Option ℕ) (t u : Token) (ts : List Token) → SomeIff r (1 ≤ n) (n - 1) → is_sign LeftBrace t.kind ≡ false → is_sign RightBrace t.kind ≡ true → divide_on (InBody w x n last) (t ∷ u ∷ ts) ≡ divide_on (in_body w x r) (u ∷ ts)
inside_closes w x n last None t u ts e h k = let none : n ≡ 0 = omega arith in ap (λ i. divide_on (InBody w x i last) (t ∷ u ∷ ts)) none ∙ body_closes w x last t (u ∷ ts) h k
inside_closes w x n last (Some m) t u ts e h k =
    let one : n ≡ suc m = omega (arith, e.0, e.1) in
    ap (λ i. divide_on (InBody w x i last) (t ∷ u ∷ ts)) one ∙ one_closes w x m last t (u ∷ ts) h k ∙ any_last w x m t.span.from 0 u ts

-- ---- dots

pub dotted : (w : Span) (x : Written) (s : Span) (ts : List Token) → divide_on (AtDot w x) (sign s DotSign ∷ ts) ≡ behind_dot w x s ts
unfolding divide_on
dotted w x s ts = refl

dot_stops : (w : Span) (x : Written) (s : Span) (k : Kind) (go : Division) → is_sign DotSign k ≡ false → at_dot w x s k go ≡ SyntaxFault s.from
dot_stops w x s (Mark DotSign) go h = absurd (true≢false h)
dot_stops w x s _ go h = refl

pub no_dot : (w : Span) (x : Written) (t : Token) (ts : List Token) → is_sign DotSign t.kind ≡ false → divide_on (AtDot w x) (t ∷ ts) ≡ SyntaxFault t.span.from
unfolding divide_on
no_dot w x t ts h = dot_stops w x t.span t.kind (divide_on AtTop ts) h

-- ---- several modules

pub one_more : (ps : List splitting.Piece) (p : splitting.Piece) (d : Division) → pieces_before ps (before_division p d) ≡ pieces_before (ps ++ (p ∷ [])) d
one_more ps p (Pieces qs) = ap Pieces (sym (append_assoc ps (p ∷ []) qs))
one_more ps p (SyntaxFault at) = refl
one_more ps p (UnsupportedFault at) = refl

pub none_before : (d : Division) → pieces_before [] d ≡ d
none_before (Pieces qs) = refl
none_before (SyntaxFault at) = refl
none_before (UnsupportedFault at) = refl

-- ---- exits

pub fails_as : {d e : Division} (f : ReadFault) → d ≡ e → FailsSo f e → FailsSo f d
fails_as f h g = subst (FailsSo f) (sym h) g

-- the exit of a `?`
pub stopped : {X : Type 0} {d e : Division} (r : Result X ReadFault) (f : ReadFault) (next : X → Division) → IsErrAnd r (λ y. y ≡ f) → d ≡ e → FailsSo f e → DividesSo d r next
stopped (Ok x) f next h came g = absurd h
stopped {d = d} (Err y) f next h came g = subst (λ y. FailsSo y d) (sym h) (fails_as f came g)

-- a fault stays behind modules
pub fails_behind : (ps : List splitting.Piece) (f : ReadFault) (d : Division) → FailsSo f d → FailsSo f (pieces_before ps d)
fails_behind ps (faults.Syntax at) d h = ap (pieces_before ps) h
fails_behind ps (faults.Unsupported at) d h = ap (pieces_before ps) h
fails_behind ps (faults.TooDeep at) d h = absurd h
fails_behind ps faults.Memory d h = tt
