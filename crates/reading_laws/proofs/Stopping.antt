-- Which tokens stop a reader, by the state in which it comes to them.
use Rattle.std.proofs.Common.{◌≡◌, ℕ, ◌==◌, Bool, true, false, ◌⊎◌, inl, inr, List, [], ◌∷◌, ◌++◌, None, take, length, if◌then◌else◌, refl, sym, ap, subst, ◌∙◌, eqb-true, true≢false}
use Rattle.text_meaning.specs.Tokens.{Span, Sign, Kind, Mark, Token, sign, SigWord, ViewWord, IncludeWord, OtherWord, RightBrace, LeftBrace, BlankSign, EndSign}
use Rattle.text_meaning.specs.Trees.{Binder, Expr}
use Rattle.text_meaning.specs.Grammar.{SpellsBinder, named, blank}
use Rattle.text_meaning.specs.Nesting.{Nesting}
use Rattle.text_meaning.specs.Reading.{Target, Tree, Spells, nesting, Begins, GoesOn, IsLeftOut, other_word, inner_module, bare_binder}
use Rattle.text_meaning.specs.Reading as reading
use Rattle.text_meaning.specs.Parsing.{Atoms, NoAtoms, SomeAtoms, Row, Curly, Square, ClassOf, ValueOf, ValueFor, ObjectOf, FamilyOf, Waiting, Ends, InParens, InDomain, InBody, InCodomain, State, Refused, Whole, Expect, ExpectName, ExpectPath, MoreWords, AtModule, AtDecl, AfterDomain, AtAssign, AtOperand, AtVariable, AfterVariable, code, resume, step, run, levels, is_refused, takes_include, is_bare_binder, is_left_out, start}
use Rattle.reading_laws.proofs.Runs.{run-append, levels-append, length-levels}
use Rattle.reading_laws.proofs.Spelled.{spelled_reads}
use Rattle.reading_laws.proofs.Fits.{Fits}
use Rattle.reading_laws.proofs.Sound.{code_injective, run_fits, read_spelled}
use Rattle.reading_laws.proofs.Completes.{is_whole, expect_ok, Alive, Lives, start_alive, run_lives, refused_run, completes}

-- ---- the end of the input

abbrev EndsWell : State → Type 0
EndsWell u = (is_refused u ≡ true) ⊎ ((t : Tree) × (u ≡ Whole t))

whole_is : (u : State) → is_whole u ≡ true → (t : Tree) × (u ≡ Whole t)
whole_is (Whole t) h = (t, refl)
whole_is u h = absurd (true≢false (sym h))

expect_end : (m : Sign) (next : State) → (next_ok : expect_ok m next ≡ true) → EndsWell (if code m == 20 then next else Refused)
expect_end m next h = go (code m == 20) refl
  where
    go : (t : Bool) → (code m == 20) ≡ t → EndsWell (if t then next else Refused)
    go true e = inr (whole_is next (sym (ap (λ x. expect_ok x next) (code_injective m EndSign (eqb-true (code m) 20 e))) ∙ h))
    go false e = inl refl

end_resumes : (k : Waiting) (s : Span) (e : Expr) (z : Span) → EndsWell (resume k s e (sign z EndSign))
unfolding resume
end_resumes (Ends (ClassOf x ds c)) s e z = inl refl
end_resumes (Ends (ValueOf x ds c a)) s e z = inl refl
end_resumes (Ends (ValueFor o xs t)) s e z = inl refl
end_resumes (Ends ObjectOf) s e z = inl refl
end_resumes (Ends (FamilyOf o)) s e z = inr (_, refl)
end_resumes (InParens l n row xs k) s e z = inl refl
end_resumes (InDomain Curly l x n row xs k) s e z = inl refl
end_resumes (InDomain Square l x n row xs k) s e z = inl refl
end_resumes (InBody l b row xs k) s e z = end_resumes k _ _ z
end_resumes (InCodomain a d k) s e z = end_resumes k _ _ z

pub end_steps : (u : State) (z : Span) → Alive u → EndsWell (step u (sign z EndSign))
unfolding Alive
end_steps Refused z a = inl refl
end_steps (Whole t) z a = inl refl
end_steps (Expect m next) z a = expect_end m next a.0
end_steps (ExpectName f) z a = inl refl
end_steps (ExpectPath f) z a = inl refl
end_steps (MoreWords ws done) z a = inl refl
end_steps AtModule z a = inl refl
end_steps (AtDecl x ds) z a = inl refl
end_steps (AfterDomain x ds y w) z a = inl refl
end_steps (AtAssign o xs) z a = inl refl
end_steps (AtOperand n row NoAtoms k) z a = inl refl
end_steps (AtOperand n row (SomeAtoms s h xs) k) z a = end_resumes k _ _ z
end_steps (AtVariable b l n row xs k) z a = inl refl
end_steps (AfterVariable Curly l x n row xs k) z a = inl refl
end_steps (AfterVariable Square l x n row xs k) z a = inl refl

-- ---- what begins a spelled text

front_taken : {A : Type 0} (a b : List A) (n : ℕ) → length a ≡ n → take n (a ++ b) ≡ a
front_taken [] b n e = rw (sym e) refl
front_taken (x ∷ a) b n e = rw (sym e) (ap (λ l. x ∷ l) (front_taken a b (length a) refl))

-- Where the reader goes on, a spelled text begins with the tokens before it, at the levels of the run.
pub begins_if : (target : Target) (ts : List Token) → Alive (run (start target) ts) → Begins target ts (levels (start target) ts)
begins_if target ts a =
    let c = completes (run (start target) ts) a in
    let whole : run (start target) (ts ++ c.rest) ≡ Whole c.tree = run-append (start target) ts c.rest ∙ c.whole in
    let d = read_spelled target (ts ++ c.rest) c.tree whole in
    record { rest = c.rest; tree = c.tree; spells = d; stands = ap (take (length ts)) (sym (spelled_reads d).at ∙ levels-append (start target) ts c.rest) ∙ front_taken (levels (start target) ts) _ (length ts) (length-levels (start target) ts) }

-- With the tokens of a spelled text the reader goes on, and they stand at the levels of the run.
pub begins_only : (target : Target) (ts : List Token) (ns : List Nesting) → Begins target ts ns → (is_refused (run (start target) ts) ≡ false) × (levels (start target) ts ≡ ns)
begins_only target ts ns b =
    let r = spelled_reads b.spells in
    let whole : run (run (start target) ts) b.rest ≡ Whole b.tree = sym (run-append (start target) ts b.rest) ∙ r.to in
    let lev : levels (start target) ts ≡ ns = sym (front_taken (levels (start target) ts) _ (length ts) (length-levels (start target) ts)) ∙ ap (take (length ts)) (sym (levels-append (start target) ts b.rest) ∙ r.at) ∙ b.stands in
    (go (is_refused (run (start target) ts)) refl whole, lev)
  where
    go : (t : Bool) → is_refused (run (start target) ts) ≡ t → run (run (start target) ts) b.rest ≡ Whole b.tree → is_refused (run (start target) ts) ≡ false
    go false e w = e
    go true e w = absurd (true≢false (sym (refused_run (run (start target) ts) b.rest e) ∙ ap is_refused w))

-- one token more
pub run-snoc : (u : State) (before : List Token) (t : Token) → run u (before ++ (t ∷ [])) ≡ step (run u before) t
unfolding run
run-snoc u before t = run-append u before (t ∷ [])

pub goes_if : (target : Target) (before : List Token) (t : Token) (u : State) → run (start target) before ≡ u → Alive (step u t) → GoesOn target (before ++ (t ∷ []))
goes_if target before t u e a = (levels (start target) (before ++ (t ∷ [])), begins_if target (before ++ (t ∷ [])) (subst Alive (sym (run-snoc (start target) before t ∙ ap (λ x. step x t) e)) a))

pub goes_only : (target : Target) (before : List Token) (t : Token) (u : State) → run (start target) before ≡ u → GoesOn target (before ++ (t ∷ [])) → is_refused (step u t) ≡ false
goes_only target before t u e g = subst (λ x. is_refused x ≡ false) (run-snoc (start target) before t ∙ ap (λ x. step x t) e) (begins_only target (before ++ (t ∷ [])) g.0 g.1).0

pub lives_on : (u : State) → Lives u → is_refused u ≡ false → Alive u
lives_on u (inl h) e = absurd (true≢false (sym h ∙ e))
lives_on u (inr a) e = a

-- ---- where a declaration or an assignment could begin

include_resumes : (k : Waiting) (s : Span) (e : Expr) (z : Span) → is_refused (resume k s e (sign z IncludeWord)) ≡ true
unfolding resume
include_resumes (Ends (ClassOf x ds c)) s e z = refl
include_resumes (Ends (ValueOf x ds c a)) s e z = refl
include_resumes (Ends (ValueFor o xs t)) s e z = refl
include_resumes (Ends ObjectOf) s e z = refl
include_resumes (Ends (FamilyOf o)) s e z = refl
include_resumes (InParens l n row xs k) s e z = refl
include_resumes (InDomain Curly l x n row xs k) s e z = refl
include_resumes (InDomain Square l x n row xs k) s e z = refl
include_resumes (InBody l b row xs k) s e z = include_resumes k _ _ z
include_resumes (InCodomain a d k) s e z = include_resumes k _ _ z

expect_include : (m : Sign) (next : State) → expect_ok m next ≡ true → (t : Bool) → (code m == 2) ≡ t → is_refused (if t then next else Refused) ≡ true
expect_include m next h true e = absurd (true≢false (sym h ∙ ap (λ x. expect_ok x next) (code_injective m IncludeWord (eqb-true (code m) 2 e))))
expect_include m next h false e = refl

include_steps : (u : State) (z : Span) → Alive u → is_refused (step u (sign z IncludeWord)) ≡ false → takes_include u ≡ true
unfolding Alive
include_steps (AtDecl x ds) z a h = refl
include_steps (AtAssign o xs) z a h = refl
include_steps Refused z a h = absurd (true≢false h)
include_steps (Whole t) z a h = absurd (true≢false h)
include_steps (Expect m next) z a h = absurd (true≢false (sym (expect_include m next a.0 (code m == 2) refl) ∙ h))
include_steps (ExpectName f) z a h = absurd (true≢false h)
include_steps (ExpectPath f) z a h = absurd (true≢false h)
include_steps (MoreWords ws done) z a h = absurd (true≢false h)
include_steps AtModule z a h = absurd (true≢false h)
include_steps (AfterDomain x ds y w) z a h = absurd (true≢false h)
include_steps (AtOperand n row NoAtoms k) z a h = absurd (true≢false h)
include_steps (AtOperand n row (SomeAtoms s e xs) k) z a h = absurd (true≢false (sym (include_resumes k _ _ z) ∙ h))
include_steps (AtVariable b l n row xs k) z a h = absurd (true≢false h)
include_steps (AfterVariable Curly l x n row xs k) z a h = absurd (true≢false h)
include_steps (AfterVariable Square l x n row xs k) z a h = absurd (true≢false h)

include_lives : (u : State) (z : Span) → takes_include u ≡ true → Alive (step u (sign z IncludeWord))
unfolding Alive
include_lives (AtDecl x ds) z h = λ y. (refl, tt)
include_lives (AtAssign o xs) z h = λ w vs. tt
include_lives _ z h = absurd (true≢false (sym h))

-- ---- where a binder begins

blank_refused : (next : State) (y : Span) → takes_include next ≡ true → is_refused (step next (sign y BlankSign)) ≡ true
blank_refused (AtDecl x ds) y h = refl
blank_refused (AtAssign o xs) y h = refl
blank_refused _ y h = absurd (true≢false (sym h))

expect_brace : (m : Sign) (next : State) (y : Span) → expect_ok m next ≡ true → (t : Bool) → (code m == 12) ≡ t → is_refused (step (if t then next else Refused) (sign y BlankSign)) ≡ true
expect_brace m next y h true e = blank_refused next y (sym (ap (λ x. expect_ok x next) (code_injective m LeftBrace (eqb-true (code m) 12 e))) ∙ h)
expect_brace m next y h false e = refl

record IsOperand (u : State) : Type 0 where
  n : ℕ
  row : Row
  atoms : Atoms
  waiting : Waiting
  is : u ≡ AtOperand n row atoms waiting

brace_steps : (u : State) (z y : Span) → Alive u → is_refused (step (step u (sign z LeftBrace)) (sign y BlankSign)) ≡ false → IsOperand u
unfolding Alive
brace_steps (AtOperand n row xs k) z y a h = record { n = n; row = row; atoms = xs; waiting = k; is = refl }
brace_steps (AtDecl x ds) z y a h = absurd (true≢false h)
brace_steps (AtAssign o xs) z y a h = absurd (true≢false h)
brace_steps Refused z y a h = absurd (true≢false h)
brace_steps (Whole t) z y a h = absurd (true≢false h)
brace_steps (Expect m next) z y a h = absurd (true≢false (sym (expect_brace m next y a.0 (code m == 12) refl) ∙ h))
brace_steps (ExpectName f) z y a h = absurd (true≢false h)
brace_steps (ExpectPath f) z y a h = absurd (true≢false h)
brace_steps (MoreWords ws done) z y a h = absurd (true≢false h)
brace_steps AtModule z y a h = absurd (true≢false h)
brace_steps (AfterDomain x ds w v) z y a h = absurd (true≢false h)
brace_steps (AtVariable b l n row xs k) z y a h = absurd (true≢false h)
brace_steps (AfterVariable Curly l x n row xs k) z y a h = absurd (true≢false h)
brace_steps (AfterVariable Square l x n row xs k) z y a h = absurd (true≢false h)

-- Behind what fits a state that can be completed a spelled text goes on.
fits_goes : (target : Target) (u : State) (before : List Token) → Fits target u before → Alive u → GoesOn target before
unfolding Fits
fits_goes target u before f a =
    let c = completes u a in
    let d = subst (λ x. Fits target x (before ++ c.rest)) c.whole (run_fits target u before c.rest f) in
    (take (length before) (nesting d), record { rest = c.rest; tree = c.tree; spells = d; stands = refl })

-- ---- what this profile leaves out

bare_binder_if : (target : Target) (before : List Token) (s : Span) (u : State) → Fits target u before → is_bare_binder u ≡ true → IsLeftOut target before (sign s RightBrace)
unfolding Fits Alive
bare_binder_if target before s (AfterVariable Curly l x n row xs k) f h =
    bare_binder f.0 l f.1 x refl f.2 f.3 (fits_goes target (AfterVariable Curly l None n row xs k) _ (f.0, sign f.1.span BlankSign, refl, blank, f.4) tt)
bare_binder_if target before s _ f h = absurd (true≢false (sym h))

pub left_out_if : (target : Target) (before : List Token) (t : Token) (u : State) → run (start target) before ≡ u → Fits target u before → is_left_out u t.kind ≡ true → IsLeftOut target before t
left_out_if target before t u e f h = go t.span t.kind h
  where
    go : (s : Span) (kind : Kind) → is_left_out u kind ≡ true → IsLeftOut target before (record { span = s; kind = kind })
    go s (Mark OtherWord) h = other_word refl
    go s (Mark BlankSign) h = reading.blank refl
    go s (Mark SigWord) h = inner_module (inl refl) (goes_if target before (sign s IncludeWord) u e (include_lives u s h))
    go s (Mark ViewWord) h = inner_module (inr refl) (goes_if target before (sign s IncludeWord) u e (include_lives u s h))
    go s (Mark RightBrace) h = bare_binder_if target before s u f h
    go s _ h = absurd (true≢false (sym h))

variable_steps : {v : Token} {x : Binder} (l : Span) (n : ℕ) (row : Row) (xs : Atoms) (k : Waiting) → SpellsBinder v x → is_bare_binder (step (AtVariable Curly l n row xs k) v) ≡ true
variable_steps l n row xs k named = refl
variable_steps l n row xs k blank = refl

-- a state that is not refused can be completed
pub alive_at : (target : Target) (ts : List Token) → is_refused (run (start target) ts) ≡ false → Alive (run (start target) ts)
alive_at target ts e = lives_on (run (start target) ts) (run_lives (start target) ts (start_alive target)) e

binder_only : (target : Target) (front : List Token) (l : Span) (v : Token) (x : Binder) → SpellsBinder v x → GoesOn target (front ++ (sign l LeftBrace ∷ sign v.span BlankSign ∷ []))
    → is_bare_binder (run (start target) (front ++ (sign l LeftBrace ∷ v ∷ []))) ≡ true
unfolding run
binder_only target front l v x b g =
    let u = run (start target) front in
    let after : (w : Token) → run (start target) (front ++ (sign l LeftBrace ∷ w ∷ [])) ≡ step (step u (sign l LeftBrace)) w = λ w. run-append (start target) front (sign l LeftBrace ∷ w ∷ []) in
    let open' : is_refused (step (step u (sign l LeftBrace)) (sign v.span BlankSign)) ≡ false = subst (λ y. is_refused y ≡ false) (after (sign v.span BlankSign)) (begins_only target _ g.0 g.1).0 in
    let alive = alive_at target front (not_refused u (sign l LeftBrace ∷ sign v.span BlankSign ∷ []) open') in
    let o = brace_steps u l v.span alive open' in
    subst (λ y. is_bare_binder y ≡ true) (sym (after v ∙ ap (λ y. step (step y (sign l LeftBrace)) v) o.is)) (variable_steps l o.n o.row o.atoms o.waiting b)
  where
    not_refused : (u : State) (ts : List Token) → is_refused (run u ts) ≡ false → is_refused u ≡ false
    not_refused u ts h = go (is_refused u) refl
      where
        go : (t : Bool) → is_refused u ≡ t → is_refused u ≡ false
        go false e = e
        go true e = absurd (true≢false (sym (refused_run u ts e) ∙ h))

pub left_out_only : (target : Target) (before : List Token) (t : Token) (u : State) → run (start target) before ≡ u → Alive u → IsLeftOut target before t → is_left_out u t.kind ≡ true
left_out_only target before t u e a (other_word k) = ap (is_left_out u) k
left_out_only target before t u e a (reading.blank k) = ap (is_left_out u) k
left_out_only target before t u e a (inner_module (inl k) g) = ap (is_left_out u) k ∙ include_steps u t.span a (goes_only target before _ u e g)
left_out_only target before t u e a (inner_module (inr k) g) = ap (is_left_out u) k ∙ include_steps u t.span a (goes_only target before _ u e g)
left_out_only target before t u e a (bare_binder front l v x k p b g) =
    ap (is_left_out u) k ∙ subst (λ y. is_bare_binder y ≡ true) (sym (ap (run (start target)) p) ∙ e) (binder_only target front l v x b g)
