-- Tokens divide into modules in one way, which the machine gives.
use Rattle.std.proofs.Common.{◌≡◌, ℕ, zero, suc, false, ◌||◌, List, [], ◌∷◌, ◌++◌, refl, sym, ap, subst, ◌∙◌, true≢false}
use Rattle.text_meaning.specs.Tokens.{Span, Sign, Kind, Mark, Ident, Token, sign, ident, SigWord, ViewWord, IncludeWord, StructWord, OtherWord, LeftBrace, RightBrace, DotSign, EndSign}
use Rattle.text_meaning.specs.Trees.{Written}
use Rattle.text_meaning.specs.Grammar.{simple, join}
use Rattle.text_meaning.specs.Splitting.{Division, SyntaxFault, UnsupportedFault, before_division, is_left_brace, is_right_brace, IsModuleWord, sig_word, view_word, IsOtherPercent, include_word, struct_word, other_word, IsSimple, one_name, ClosesBraces, all_closed, opens, closes, passes, IsEnclosed, enclosed, not_yet, IsNeverEnclosed, Divides, no_more, other_percent, no_module, no_name, never_closed, no_dot, piece}
use Rattle.text_meaning.specs.Dividing.{AtTop, BeforeBody, InBody, AtDot, at_top, at_name, closed_stand, before_next, body_next, at_dot, divide_on}
use Rattle.token_laws.proofs.CutFollows.{or_front, or_back}

-- ---- what encloses a body

braces_go : {n : ℕ} {ts : List Token} → ClosesBraces n ts → (w : Span) (x : Written) (last : ℕ) (rest : List Token)
    → divide_on (closed_stand w x n last) (ts ++ rest) ≡ divide_on (AtDot w x) rest
unfolding divide_on
braces_go all_closed w x last rest = refl
braces_go (opens {s = s} d) w x last rest = braces_go d w x s.from rest
braces_go (closes {n = n} {s = s} d) w x last rest = braces_go d w x s.from rest
braces_go (passes {n = n} {t = t} {ts = ts} h d) w x last rest =
    ap (λ p. divide_on p (ts ++ rest)) (other_next w x n t h) ∙ braces_go d w x t.span.from rest
  where
    other_next : (w : Span) (x : Written) (n : ℕ) (t : Token) → (is_left_brace t.kind || is_right_brace t.kind) ≡ false → body_next w x n t ≡ InBody w x n t.span.from
    other_next w x n t h =
        let a : is_left_brace t.kind ≡ false = or_front _ _ h in
        let b : is_right_brace t.kind ≡ false = or_back (is_left_brace t.kind) _ h in
        rw (a, b) refl

enclosed_goes : {ts : List Token} → IsEnclosed ts → (w : Span) (x : Written) (last : ℕ) (rest : List Token) → divide_on (BeforeBody w x last) (ts ++ rest) ≡ divide_on (AtDot w x) rest
unfolding divide_on
enclosed_goes (enclosed {s = s} d) w x last rest = braces_go d w x s.from rest
enclosed_goes (not_yet {t = t} {ts = ts} h d) w x last rest =
    ap (λ p. divide_on p (ts ++ rest)) (other_next w x t h) ∙ enclosed_goes d w x t.span.from rest
  where
    other_next : (w : Span) (x : Written) (t : Token) → is_left_brace t.kind ≡ false → before_next w x t ≡ BeforeBody w x t.span.from
    other_next w x t h = rw h refl

-- which brace a token is
data BraceKind (t : Token) : Type 0 where
  is_left : t.kind ≡ Mark LeftBrace → BraceKind t
  is_right : t.kind ≡ Mark RightBrace → BraceKind t
  is_other : (is_left_brace t.kind || is_right_brace t.kind) ≡ false → BraceKind t

brace_kind : (t : Token) → BraceKind t
brace_kind t = go t.span t.kind
  where
    go : (s : Span) (k : Kind) → BraceKind (record { span = s; kind = k })
    go s (Mark LeftBrace) = is_left refl
    go s (Mark RightBrace) = is_right refl
    go s _ = is_other refl

token_is : (t : Token) (m : Sign) → t.kind ≡ Mark m → t ≡ sign t.span m
token_is t m e = ap (λ k. record { span = t.span; kind = k }) e

-- what closes braces begins so
data Begun (n : ℕ) (t : Token) (front : List Token) : Type 0 where
  by_left : t.kind ≡ Mark LeftBrace → ClosesBraces (suc (suc n)) front → Begun n t front
  by_right : t.kind ≡ Mark RightBrace → ClosesBraces n front → Begun n t front
  by_other : (is_left_brace t.kind || is_right_brace t.kind) ≡ false → ClosesBraces (suc n) front → Begun n t front

begun : {k : ℕ} {us : List Token} → ClosesBraces k us → (n : ℕ) (t : Token) (front : List Token) → k ≡ suc n → us ≡ t ∷ front → Begun n t front
begun all_closed n t front e f = absurd cc
begun (opens {n = m} {s = s} {ts = ts} d) n t front e f =
    let a : m ≡ n = cc in let b : ts ≡ front = cc in let c : sign s LeftBrace ≡ t = cc in
    by_left (ap (λ u. u.kind) (sym c)) (subst (λ j. ClosesBraces (suc (suc j)) front) a (subst (ClosesBraces (suc (suc m))) b d))
begun (closes {n = m} {s = s} {ts = ts} d) n t front e f =
    let a : m ≡ n = cc in let b : ts ≡ front = cc in let c : sign s RightBrace ≡ t = cc in
    by_right (ap (λ u. u.kind) (sym c)) (subst (λ j. ClosesBraces j front) a (subst (ClosesBraces m) b d))
begun (passes {n = m} {t = u} {ts = ts} h d) n t front e f =
    let a : m ≡ n = cc in let b : ts ≡ front = cc in let c : u ≡ t = cc in
    by_other (ap (λ v. is_left_brace v.kind || is_right_brace v.kind) (sym c) ∙ h) (subst (λ j. ClosesBraces (suc j) front) a (subst (ClosesBraces (suc m)) b d))

not_nothing : {k : ℕ} {us : List Token} → ClosesBraces k us → (n : ℕ) → k ≡ suc n → us ≡ [] → ⊥
not_nothing all_closed n e f = absurd cc
not_nothing (opens d) n e f = absurd cc
not_nothing (closes d) n e f = absurd cc
not_nothing (passes h d) n e f = absurd cc

abbrev NeverClosesBraces : ℕ → List Token → Type 0
NeverClosesBraces n ts = (front back : List Token) → ts ≡ front ++ back → ¬ (ClosesBraces (suc n) front)

-- The braces are closed by a front, or the machine finds no end of them.
data BraceEnd (n : ℕ) (ts : List Token) : Type 0 where
  ends : (front back : List Token) → ts ≡ front ++ back → ClosesBraces (suc n) front → BraceEnd n ts
  never : NeverClosesBraces n ts → ((w : Span) (x : Written) (last : ℕ) (z : Span) → divide_on (InBody w x n last) (ts ++ (sign z EndSign ∷ [])) ≡ SyntaxFault z.from) → BraceEnd n ts

-- a first token before what never closes
never_more : (n : ℕ) (t : Token) (ts : List Token) → ((front back : List Token) → ts ≡ front ++ back → Begun n t front → ⊥) → NeverClosesBraces n (t ∷ ts)
never_more n t ts g [] back e c = not_nothing c n refl refl
never_more n t ts g (u ∷ front) back e c =
    let a : t ≡ u = cc in let b : ts ≡ front ++ back = cc in
    g front back b (subst (λ v. Begun n v front) (sym a) (begun c n u front refl refl))

left_is_not : LeftBrace ≡ RightBrace → ⊥
left_is_not e = absurd cc

mark_is : (m k : Sign) → Mark m ≡ Mark k → m ≡ k
mark_is m k e = cc

over_left : (n : ℕ) (t : Token) (ts : List Token) → t.kind ≡ Mark LeftBrace → BraceEnd (suc n) ts → BraceEnd n (t ∷ ts)
unfolding divide_on
over_left n t ts h (ends front back e c) = ends (t ∷ front) back (ap (λ l. t ∷ l) e) (subst (λ u. ClosesBraces (suc n) (u ∷ front)) (sym (token_is t LeftBrace h)) (opens c))
over_left n t ts h (never g m) =
    never (never_more n t ts no) (λ w x last z. ap (λ u. divide_on (InBody w x n last) (u ∷ (ts ++ (sign z EndSign ∷ [])))) (token_is t LeftBrace h) ∙ m w x t.span.from z)
  where
    no : (front back : List Token) → ts ≡ front ++ back → Begun n t front → ⊥
    no front back e (by_left k c) = g front back e c
    no front back e (by_right k c) = left_is_not (mark_is LeftBrace RightBrace (sym h ∙ k))
    no front back e (by_other k c) = true≢false (sym (ap (λ x. is_left_brace x || is_right_brace x) h) ∙ k)

over_right : (n : ℕ) (t : Token) (ts : List Token) → t.kind ≡ Mark RightBrace → ((m : ℕ) → n ≡ suc m → BraceEnd m ts) → BraceEnd n (t ∷ ts)
unfolding divide_on
over_right zero t ts h g = ends (t ∷ []) ts refl (subst (λ u. ClosesBraces 1 (u ∷ [])) (sym (token_is t RightBrace h)) (closes all_closed))
over_right (suc n) t ts h g = go (g n refl)
  where
    no : NeverClosesBraces n ts → (front back : List Token) → ts ≡ front ++ back → Begun (suc n) t front → ⊥
    no f front back e (by_left k c) = left_is_not (mark_is LeftBrace RightBrace (sym k ∙ h))
    no f front back e (by_right k c) = f front back e c
    no f front back e (by_other k c) = true≢false (sym (ap (λ x. is_left_brace x || is_right_brace x) h) ∙ k)

    go : BraceEnd n ts → BraceEnd (suc n) (t ∷ ts)
    go (ends front back e c) = ends (t ∷ front) back (ap (λ l. t ∷ l) e) (subst (λ u. ClosesBraces (suc (suc n)) (u ∷ front)) (sym (token_is t RightBrace h)) (closes c))
    go (never f m) = never (never_more (suc n) t ts (no f)) (λ w x last z. ap (λ u. divide_on (InBody w x (suc n) last) (u ∷ (ts ++ (sign z EndSign ∷ [])))) (token_is t RightBrace h) ∙ m w x t.span.from z)

over_other : (n : ℕ) (t : Token) (ts : List Token) → (is_left_brace t.kind || is_right_brace t.kind) ≡ false → BraceEnd n ts → BraceEnd n (t ∷ ts)
unfolding divide_on
over_other n t ts h (ends front back e c) = ends (t ∷ front) back (ap (λ l. t ∷ l) e) (passes h c)
over_other n t ts h (never g m) =
    let a : is_left_brace t.kind ≡ false = or_front _ _ h in
    let b : is_right_brace t.kind ≡ false = or_back (is_left_brace t.kind) _ h in
    never (never_more n t ts no) (λ w x last z. ap (λ p. divide_on p (ts ++ (sign z EndSign ∷ []))) (stays w x a b) ∙ m w x t.span.from z)
  where
    stays : (w : Span) (x : Written) → is_left_brace t.kind ≡ false → is_right_brace t.kind ≡ false → body_next w x n t ≡ InBody w x n t.span.from
    stays w x a b = rw (a, b) refl

    no : (front back : List Token) → ts ≡ front ++ back → Begun n t front → ⊥
    no front back e (by_left k c) = true≢false (sym (ap (λ x. is_left_brace x || is_right_brace x) k) ∙ h)
    no front back e (by_right k c) = true≢false (sym (ap (λ x. is_left_brace x || is_right_brace x) k) ∙ h)
    no front back e (by_other k c) = g front back e c

brace_step : (n : ℕ) (t : Token) (ts : List Token) → ((m : ℕ) → BraceEnd m ts) → BraceKind t → BraceEnd n (t ∷ ts)
brace_step n t ts g (is_left h) = over_left n t ts h (g (suc n))
brace_step n t ts g (is_right h) = over_right n t ts h (λ m e. g m)
brace_step n t ts g (is_other h) = over_other n t ts h (g n)

brace_end : (ts : List Token) (n : ℕ) → BraceEnd n ts
unfolding divide_on
brace_end [] n = never (λ front back e c. nothing front back e c) (λ w x last z. refl)
  where
    nothing : (front back : List Token) → [] ≡ front ++ back → ClosesBraces (suc n) front → ⊥
    nothing [] back e c = not_nothing c n refl refl
    nothing (t ∷ front) back e c = absurd cc
brace_end (t ∷ ts) n = brace_step n t ts (brace_end ts) (brace_kind t)

-- A body is enclosed by a front, or the machine finds no end of it.
pub data BodyEnd (ts : List Token) : Type 0 where
  ends_body : (front back : List Token) → ts ≡ front ++ back → IsEnclosed front → BodyEnd ts
  never_body : IsNeverEnclosed ts → ((w : Span) (x : Written) (last : ℕ) (z : Span) → divide_on (BeforeBody w x last) (ts ++ (sign z EndSign ∷ [])) ≡ SyntaxFault z.from) → BodyEnd ts

data BodyBegun (t : Token) (front : List Token) : Type 0 where
  by_brace : t.kind ≡ Mark LeftBrace → ClosesBraces 1 front → BodyBegun t front
  by_none : is_left_brace t.kind ≡ false → IsEnclosed front → BodyBegun t front

body_begun : {us : List Token} → IsEnclosed us → (t : Token) (front : List Token) → us ≡ t ∷ front → BodyBegun t front
body_begun (enclosed {s = s} {ts = ts} d) t front f =
    let b : ts ≡ front = cc in let c : sign s LeftBrace ≡ t = cc in by_brace (ap (λ u. u.kind) (sym c)) (subst (ClosesBraces 1) b d)
body_begun (not_yet {t = u} {ts = ts} h d) t front f =
    let b : ts ≡ front = cc in let c : u ≡ t = cc in by_none (ap (λ v. is_left_brace v.kind) (sym c) ∙ h) (subst IsEnclosed b d)

no_empty_body : {us : List Token} → IsEnclosed us → us ≡ [] → ⊥
no_empty_body (enclosed d) e = absurd cc
no_empty_body (not_yet h d) e = absurd cc

never_more_body : (t : Token) (ts : List Token) → ((front back : List Token) → ts ≡ front ++ back → BodyBegun t front → ⊥) → IsNeverEnclosed (t ∷ ts)
never_more_body t ts g [] back e c = no_empty_body c refl
never_more_body t ts g (u ∷ front) back e c =
    let a : t ≡ u = cc in let b : ts ≡ front ++ back = cc in
    g front back b (subst (λ v. BodyBegun v front) (sym a) (body_begun c u front refl))

body_at_brace : (t : Token) (ts : List Token) → t.kind ≡ Mark LeftBrace → BraceEnd 0 ts → BodyEnd (t ∷ ts)
unfolding divide_on
body_at_brace t ts h (ends front back e c) = ends_body (t ∷ front) back (ap (λ l. t ∷ l) e) (subst (λ u. IsEnclosed (u ∷ front)) (sym (token_is t LeftBrace h)) (enclosed c))
body_at_brace t ts h (never g m) =
    never_body (never_more_body t ts no) (λ w x last z. ap (λ u. divide_on (BeforeBody w x last) (u ∷ (ts ++ (sign z EndSign ∷ [])))) (token_is t LeftBrace h) ∙ m w x t.span.from z)
  where
    no : (front back : List Token) → ts ≡ front ++ back → BodyBegun t front → ⊥
    no front back e (by_brace k c) = g front back e c
    no front back e (by_none k c) = true≢false (sym (ap is_left_brace h) ∙ k)

body_at_other : (t : Token) (ts : List Token) → is_left_brace t.kind ≡ false → BodyEnd ts → BodyEnd (t ∷ ts)
unfolding divide_on
body_at_other t ts h (ends_body front back e c) = ends_body (t ∷ front) back (ap (λ l. t ∷ l) e) (not_yet h c)
body_at_other t ts h (never_body g m) =
    never_body (never_more_body t ts no) (λ w x last z. ap (λ p. divide_on p (ts ++ (sign z EndSign ∷ []))) (stays w x) ∙ m w x t.span.from z)
  where
    stays : (w : Span) (x : Written) → before_next w x t ≡ BeforeBody w x t.span.from
    stays w x = rw h refl

    no : (front back : List Token) → ts ≡ front ++ back → BodyBegun t front → ⊥
    no front back e (by_brace k c) = true≢false (sym (ap is_left_brace k) ∙ h)
    no front back e (by_none k c) = g front back e c

body_step : (t : Token) (ts : List Token) → BodyEnd ts → BraceKind t → BodyEnd (t ∷ ts)
body_step t ts g (is_left h) = body_at_brace t ts h (brace_end ts 0)
body_step t ts g (is_right h) = body_at_other t ts (ap is_left_brace h) g
body_step t ts g (is_other h) = body_at_other t ts (or_front _ _ h) g

pub body_end : (ts : List Token) → BodyEnd ts
unfolding divide_on
body_end [] = never_body (λ front back e c. nothing front back e c) (λ w x last z. refl)
  where
    nothing : (front back : List Token) → [] ≡ front ++ back → IsEnclosed front → ⊥
    nothing [] back e c = no_empty_body c refl
    nothing (t ∷ front) back e c = absurd cc
body_end (t ∷ ts) = body_step t ts (body_end ts) (brace_kind t)

-- ---- the machine follows the relation

module_goes : (s : Span) (k : Kind) (go : Division) → IsModuleWord k → at_top s k go ≡ go
module_goes s k go sig_word = refl
module_goes s k go view_word = refl

percent_stops : (s : Span) (k : Kind) (go : Division) → IsOtherPercent k → at_top s k go ≡ UnsupportedFault s.from
percent_stops s k go include_word = refl
percent_stops s k go struct_word = refl
percent_stops s k go other_word = refl

other_stops : (s : Span) (k : Kind) (go : Division) → ¬ (IsOtherPercent k) → ¬ (IsModuleWord k) → ¬ (k ≡ Mark EndSign) → at_top s k go ≡ SyntaxFault s.from
other_stops s (Mark SigWord) go p m e = absurd (m sig_word)
other_stops s (Mark ViewWord) go p m e = absurd (m view_word)
other_stops s (Mark IncludeWord) go p m e = absurd (p include_word)
other_stops s (Mark StructWord) go p m e = absurd (p struct_word)
other_stops s (Mark OtherWord) go p m e = absurd (p other_word)
other_stops s (Mark EndSign) go p m e = absurd (e refl)
other_stops s _ go p m e = refl

name_stops : (s : Span) (k : Kind) (go : Written → Division) → ¬ (IsSimple k) → at_name s k go ≡ SyntaxFault s.from
name_stops s (Ident []) go h = refl
name_stops s (Ident (n ∷ [])) go h = absurd (h one_name)
name_stops s (Ident (n ∷ m ∷ ms)) go h = refl
name_stops s (Mark m) go h = refl

dot_stops : (w : Span) (x : Written) (s : Span) (k : Kind) (go : Division) → ¬ (k ≡ Mark DotSign) → at_dot w x s k go ≡ SyntaxFault s.from
dot_stops w x s (Mark DotSign) go h = absurd (h refl)
dot_stops w x s _ go h = refl

-- behind the word and the name of a module
named_goes : (w : Token) (s : Span) (n : List ℕ) (rest : List Token) → IsModuleWord w.kind → divide_on AtTop (w ∷ ident s (n ∷ []) ∷ rest) ≡ divide_on (BeforeBody w.span (simple s n) s.from) rest
unfolding divide_on
named_goes w s n rest h = module_goes w.span w.kind _ h

never_goes : (body : List Token) (w : Span) (x : Written) (last : ℕ) (z : Span) → IsNeverEnclosed body → BodyEnd body → divide_on (BeforeBody w x last) (body ++ (sign z EndSign ∷ [])) ≡ SyntaxFault z.from
never_goes body w x last z h (ends_body front back e c) = absurd (h front back e c)
never_goes body w x last z h (never_body g m) = m w x last z

pub divides_so : {ts : List Token} {d : Division} → Divides ts d → divide_on AtTop ts ≡ d
unfolding divide_on
divides_so no_more = refl
divides_so (other_percent {t = t} h) = percent_stops t.span t.kind _ h
divides_so (no_module {t = t} p m e) = other_stops t.span t.kind _ p m e
divides_so (no_name {w = w} {t = t} m h) = module_goes w.span w.kind _ m ∙ name_stops t.span t.kind _ h
divides_so (never_closed body z {w = w} {s = s} {n = n} m h) = named_goes w s n (body ++ (sign z EndSign ∷ [])) m ∙ never_goes body w.span (simple s n) s.from z h (body_end body)
divides_so (no_dot body rest t {w = w} {s = s} {n = n} m h k) =
    named_goes w s n (body ++ (t ∷ rest)) m ∙ enclosed_goes h w.span (simple s n) s.from (t ∷ rest) ∙ dot_stops w.span (simple s n) t.span t.kind _ k
divides_so (piece body rest d {w = w} {s = s} {n = n} m h f) =
    named_goes w s n (body ++ (sign d DotSign ∷ rest)) m ∙ enclosed_goes h w.span (simple s n) s.from (sign d DotSign ∷ rest)
    ∙ ap (before_division (record { name = simple s n; span = join w.span d })) (divides_so f)
