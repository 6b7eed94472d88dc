-- Every state that a reader comes to can be completed.
use Rattle.std.proofs.Common.{ne_eqb, ◌≢◌, ◌≡◌, ℕ, ◌+◌, ◌==◌, Bool, true, false, ◌⊎◌, inl, inr, List, [], ◌∷◌, None, if◌then◌else◌, refl, sym, ap, ◌∙◌, eq-eqb, true≢false}
use Rattle.text_meaning.specs.Tokens.{Span, Sign, Kind, Mark, Ident, Token, sign, ident, SigWord, ViewWord, IncludeWord, StructWord, AssignSign, ColonSign, LeftParen, RightParen, LeftBracket, RightBracket, LeftBrace, RightBrace, DotSign, TypeWord, ArrowSign, BackSign, EqualSign, BlankSign, EndSign}
use Rattle.text_meaning.specs.Trees.{Binder, Expr, TypeExpr, ArrowExpr, NoArgs, Written, Assign, Decl}
use Rattle.text_meaning.specs.Grammar.{join, applied}
use Rattle.text_meaning.specs.Reading.{Target, ModuleText, JudgementText, Tree}
use Rattle.text_meaning.specs.Parsing.{Simple, Atoms, NoAtoms, SomeAtoms, Row, Plain, AfterArrow, AfterBack, Brace, Curly, Square, Owner, InStruct, InView, Purpose, ClassOf, ValueOf, ValueFor, ObjectOf, FamilyOf, Waiting, Ends, InParens, InDomain, InBody, InCodomain, State, Refused, Whole, Expect, ExpectName, ExpectPath, MoreWords, AtModule, AtDecl, AfterDomain, AtAssign, AtOperand, AtVariable, AfterVariable, Binding, code, expect, add_atom, bound, typed, right_sign, last_span, last_tree, row_span, row_tree, at_expr, at_module, at_decl, after_domain, close_owner, at_assign, more_words, class_ends, purpose_ends, resume, operand_ends, arrow_move, back_move, at_operand, at_variable, after_variable, expect_name, expect_path, step, run, is_refused, takes_include, start}
use Rattle.reading_laws.proofs.Runs.{IsAfter, right_paren, right_bracket, right_brace, colon, dot, end, IsWhole}
use Rattle.reading_laws.proofs.Spelled.{operand_whole}
use Rattle.reading_laws.proofs.Sound.{code_injective}

abbrev pub is_whole : State → Bool
is_whole (Whole t) = true
is_whole _ = false

-- which signs are waited for, and what they lead to
abbrev pub expect_ok : Sign → State → Bool
expect_ok EqualSign next = true
expect_ok ColonSign next = true
expect_ok ArrowSign next = true
expect_ok DotSign next = true
expect_ok AssignSign next = true
expect_ok LeftBrace next = takes_include next
expect_ok EndSign next = is_whole next
expect_ok m next = false

-- not refused, and nothing that it leads to by what must come is
unfoldable pub Alive : State → Type 0
Alive Refused = ⊥
Alive (Whole t) = Unit {0}
Alive (Expect m next) = (expect_ok m next ≡ true) × Alive next
Alive (ExpectName f) = (x : Simple) → Alive (f x)
Alive (ExpectPath f) = (w : Written) → Alive (f w)
Alive (MoreWords ws done) = (vs : List Written) → Alive (done vs)
Alive AtModule = Unit {0}
Alive (AtDecl x ds) = Unit {0}
Alive (AfterDomain x ds y z) = Unit {0}
Alive (AtAssign o xs) = Unit {0}
Alive (AtOperand n row xs k) = Unit {0}
Alive (AtVariable b l n row xs k) = Unit {0}
Alive (AfterVariable b l x n row xs k) = Unit {0}

abbrev pub Lives : State → Type 0
Lives u = (is_refused u ≡ true) ⊎ Alive u

if_lives : (t : Bool) (next : State) → Alive next → Lives (if t then next else Refused)
if_lives true next a = inr a
if_lives false next a = inl refl

expect_lives : (m : Sign) (kind : Kind) (next : State) → Alive next → Lives (expect m kind next)
expect_lives m (Mark k) next a = if_lives (code m == code k) next a
expect_lives m (Ident p) next a = inl refl

class_lives : (x : Simple) (ds : List Decl) (c : Simple) (e : Expr) (kind : Kind) → Lives (class_ends x ds c e kind)
unfolding Alive
class_lives x ds c e (Mark DotSign) = inr tt
class_lives x ds c e (Mark EqualSign) = inr tt
class_lives x ds c e _ = inl refl

purpose_lives : (p : Purpose) (e : Expr) (kind : Kind) → Lives (purpose_ends p e kind)
unfolding Alive
purpose_lives (ClassOf x ds c) e kind = class_lives x ds c e kind
purpose_lives (ValueOf x ds c a) e kind = expect_lives DotSign kind _ tt
purpose_lives (ValueFor o xs t) e kind = expect_lives DotSign kind _ tt
purpose_lives ObjectOf e kind = expect_lives ColonSign kind _ tt
purpose_lives (FamilyOf o) e kind = expect_lives EndSign kind _ tt

resume_lives : (k : Waiting) (s : Span) (e : Expr) (t : Token) → Lives (resume k s e t)
unfolding Alive resume
resume_lives (Ends p) s e t = purpose_lives p e t.kind
resume_lives (InParens l n row xs k) s e t = expect_lives RightParen t.kind _ tt
resume_lives (InDomain b l x n row xs k) s e t = expect_lives (right_sign b) t.kind _ tt
resume_lives (InBody l b row xs k) s e t = resume_lives k _ _ t
resume_lives (InCodomain a d k) s e t = resume_lives k _ _ t

operand_lives : (row : Row) (xs : Atoms) (k : Waiting) (t : Token) → Lives (operand_ends row xs k t)
operand_lives row NoAtoms k t = inl refl
operand_lives row (SomeAtoms s h xs) k t = resume_lives k _ _ t

arrow_lives : (n : ℕ) (row : Row) (xs : Atoms) (k : Waiting) → Lives (arrow_move n row xs k)
unfolding Alive
arrow_lives n row NoAtoms k = inl refl
arrow_lives n Plain (SomeAtoms s h xs) k = inr tt
arrow_lives n AfterArrow (SomeAtoms s h xs) k = inr tt
arrow_lives n (AfterBack r b) (SomeAtoms s h xs) k = inl refl

back_lives : (n : ℕ) (row : Row) (xs : Atoms) (k : Waiting) → Lives (back_move n row xs k)
unfolding Alive
back_lives n row NoAtoms k = inl refl
back_lives n Plain (SomeAtoms s h xs) k = inr tt
back_lives n AfterArrow (SomeAtoms s h xs) k = inl refl
back_lives n (AfterBack r b) (SomeAtoms s h xs) k = inr tt

at_operand_lives : (n : ℕ) (row : Row) (xs : Atoms) (k : Waiting) (s : Span) (kind : Kind) → Lives (at_operand n row xs k s kind)
unfolding Alive
at_operand_lives n row xs k s (Ident p) = inr tt
at_operand_lives n row xs k s (Mark TypeWord) = inr tt
at_operand_lives n row xs k s (Mark LeftParen) = inr tt
at_operand_lives n row xs k s (Mark LeftBrace) = inr tt
at_operand_lives n row xs k s (Mark LeftBracket) = inr tt
at_operand_lives n row xs k s (Mark ArrowSign) = arrow_lives n row xs k
at_operand_lives n row xs k s (Mark BackSign) = back_lives n row xs k
at_operand_lives n row xs k s (Mark m) = operand_lives row xs k (sign s m)

at_variable_lives : (b : Brace) (l : Span) (n : ℕ) (row : Row) (xs : Atoms) (k : Waiting) (kind : Kind) → Lives (at_variable b l n row xs k kind)
unfolding Alive
at_variable_lives b l n row xs k (Mark BlankSign) = inr tt
at_variable_lives b l n row xs k (Ident (x ∷ [])) = inr tt
at_variable_lives b l n row xs k _ = inl refl

after_variable_lives : (b : Brace) (l : Span) (x : Binder) (n : ℕ) (row : Row) (xs : Atoms) (k : Waiting) (kind : Kind) → Lives (after_variable b l x n row xs k kind)
unfolding Alive
after_variable_lives b l x n row xs k (Mark ColonSign) = inr tt
after_variable_lives Square l x n row xs k (Mark RightBracket) = inr tt
after_variable_lives b l x n row xs k _ = inl refl

at_module_lives : (kind : Kind) → Lives (at_module kind)
unfolding Alive
at_module_lives (Mark SigWord) = inr (λ x. (refl, (refl, tt)))
at_module_lives (Mark ViewWord) = inr (λ x. (refl, λ y. (refl, λ z. (refl, (refl, tt)))))
at_module_lives _ = inl refl

at_decl_lives : (x : Simple) (ds : List Decl) (s : Span) (kind : Kind) → Lives (at_decl x ds s kind)
unfolding Alive
at_decl_lives x ds s (Mark IncludeWord) = inr (λ y. (refl, tt))
at_decl_lives x ds s (Mark StructWord) = inr (λ y. (refl, λ z. tt))
at_decl_lives x ds s (Mark RightBrace) = inr (refl, (refl, tt))
at_decl_lives x ds s (Ident (n ∷ [])) = inr (refl, tt)
at_decl_lives x ds s _ = inl refl

after_domain_lives : (x : Simple) (ds : List Decl) (y z : Simple) (kind : Kind) → Lives (after_domain x ds y z kind)
unfolding Alive
after_domain_lives x ds y z (Mark DotSign) = inr tt
after_domain_lives x ds y z (Mark EqualSign) = inr (refl, tt)
after_domain_lives x ds y z _ = inl refl

close_owner_lives : (o : Owner) (xs : List Assign) → Lives (close_owner o xs)
unfolding Alive
close_owner_lives (InStruct x ds y z) xs = inr (refl, tt)
close_owner_lives (InView x y z) xs = inr (refl, (refl, tt))

at_assign_lives : (o : Owner) (xs : List Assign) (s : Span) (kind : Kind) → Lives (at_assign o xs s kind)
unfolding Alive
at_assign_lives o xs s (Mark IncludeWord) = inr (λ w vs. tt)
at_assign_lives o xs s (Mark StructWord) = inr (λ t. (refl, λ w vs. tt))
at_assign_lives o xs s (Mark RightBrace) = close_owner_lives o xs
at_assign_lives o xs s (Ident p) = inr (refl, tt)
at_assign_lives o xs s _ = inl refl

more_words_lives : (ws : List Written) (done : List Written → State) (s : Span) (kind : Kind) → Alive (MoreWords ws done) → Lives (more_words ws done s kind)
unfolding Alive
more_words_lives ws done s (Mark DotSign) a = inr (a ws)
more_words_lives ws done s (Ident p) a = inr a
more_words_lives ws done s _ a = inl refl

expect_name_lives : (g : Simple → State) (s : Span) (kind : Kind) → Alive (ExpectName g) → Lives (expect_name g s kind)
unfolding Alive
expect_name_lives g s (Ident (n ∷ [])) a = inr (a (record { at = s; name = n }))
expect_name_lives g s _ a = inl refl

expect_path_lives : (g : Written → State) (s : Span) (kind : Kind) → Alive (ExpectPath g) → Lives (expect_path g s kind)
unfolding Alive
expect_path_lives g s (Ident p) a = inr (a (record { path = p; span = s }))
expect_path_lives g s (Mark m) a = inl refl

-- a step refuses its token, or leads to a state that can be completed
pub step_lives : (u : State) (t : Token) → Alive u → Lives (step u t)
unfolding Alive
step_lives Refused t a = inl refl
step_lives (Whole tree) t a = inl refl
step_lives (Expect m next) t a = expect_lives m t.kind next a.1
step_lives (ExpectName g) t a = expect_name_lives g t.span t.kind a
step_lives (ExpectPath g) t a = expect_path_lives g t.span t.kind a
step_lives (MoreWords ws done) t a = more_words_lives ws done t.span t.kind a
step_lives AtModule t a = at_module_lives t.kind
step_lives (AtDecl x ds) t a = at_decl_lives x ds t.span t.kind
step_lives (AfterDomain x ds y z) t a = after_domain_lives x ds y z t.kind
step_lives (AtAssign o xs) t a = at_assign_lives o xs t.span t.kind
step_lives (AtOperand n row xs k) t a = at_operand_lives n row xs k t.span t.kind
step_lives (AtVariable b l n row xs k) t a = at_variable_lives b l n row xs k t.kind
step_lives (AfterVariable b l x n row xs k) t a = after_variable_lives b l x n row xs k t.kind

pub start_alive : (target : Target) → Alive (start target)
unfolding Alive
start_alive ModuleText = tt
start_alive JudgementText = tt

pub refused_run : (u : State) (ts : List Token) → is_refused u ≡ true → is_refused (run u ts) ≡ true
unfolding run
refused_run u [] h = h
refused_run Refused (t ∷ ts) h = refused_run Refused ts h
refused_run u (t ∷ ts) h = absurd (true≢false (sym h))

pub run_lives : (u : State) (ts : List Token) → Alive u → Lives (run u ts)
unfolding run
run_lives u [] a = inr a
run_lives u (t ∷ ts) a =
    elim (step_lives u t a) [
      | inl h ↦ inl (refused_run (step u t) ts h)
      | inr b ↦ run_lives (step u t) ts b
    ]

-- ---- completion

pub record Completes (u : State) : Type 0 where
  pub rest : List Token
  pub tree : Tree
  pub whole : run u rest ≡ Whole tree

step_first : (u v : State) (t : Token) → step u t ≡ v → Completes v → Completes u
unfolding run
step_first u v t e c = record { rest = t ∷ c.rest; tree = c.tree; whole = ap (λ x. run x c.rest) e ∙ c.whole }

here : Span
here = record { from = 0; to = 0 }

sign_first : (u v : State) (m : Sign) → step u (sign here m) ≡ v → Completes v → Completes u
sign_first u v m e c = step_first u v (sign here m) e c

decl_completes : (x : Simple) (ds : List Decl) → Completes (AtDecl x ds)
unfolding run
decl_completes x ds = record { rest = sign here RightBrace ∷ sign here DotSign ∷ sign here EndSign ∷ []; tree = _; whole = refl }

owner_completes : (o : Owner) (xs : List Assign) → Completes (AtAssign o xs)
unfolding run
owner_completes (InStruct x ds y z) xs =
    sign_first _ _ RightBrace refl (sign_first _ (AtDecl x _) DotSign refl (decl_completes x _))
owner_completes (InView x y z) xs = record { rest = sign here RightBrace ∷ sign here DotSign ∷ sign here EndSign ∷ []; tree = _; whole = refl }

purpose_completes : (p : Purpose) (u : State) (s : Span) (e : Expr) → IsWhole u (Ends p) s e → Completes u
unfolding run resume
purpose_completes (ClassOf x ds c) u s e w = sign_first u _ DotSign (w DotSign here dot) (decl_completes x _)
purpose_completes (ValueOf x ds c a) u s e w = sign_first u _ DotSign (w DotSign here dot) (decl_completes x _)
purpose_completes (ValueFor o xs t) u s e w = sign_first u _ DotSign (w DotSign here dot) (owner_completes o _)
purpose_completes ObjectOf u s e w =
    sign_first u (at_expr 1 (Ends (FamilyOf e))) ColonSign (w ColonSign here colon) (record { rest = sign here TypeWord ∷ sign here EndSign ∷ []; tree = _; whole = refl })
purpose_completes (FamilyOf o) u s e w = record { rest = sign here EndSign ∷ []; tree = _; whole = w EndSign here end }

-- whatever waits so can be completed, once an expression is whole
abbrev Finishes : Waiting → Type 0
Finishes k = (u : State) (s : Span) (e : Expr) → IsWhole u k s e → Completes u

atoms_finish : (n : ℕ) (row : Row) (xs : Atoms) (k : Waiting) → Finishes k → Completes (AtOperand n row xs k)
atoms_finish n row NoAtoms k f =
    sign_first (AtOperand n row NoAtoms k) (AtOperand n row (SomeAtoms here (TypeExpr here) NoArgs) k) TypeWord refl
    (f (AtOperand n row (SomeAtoms here (TypeExpr here) NoArgs) k) (row_span row here) (row_tree row here (TypeExpr here)) (operand_whole n row here (TypeExpr here) NoArgs k))
atoms_finish n row (SomeAtoms s h xs) k f = f (AtOperand n row (SomeAtoms s h xs) k) (row_span row s) (row_tree row s (applied s h xs)) (operand_whole n row s h xs k)

body_finishes : (l : Span) (b : Binding) (row : Row) (xs : Atoms) (k : Waiting) → Finishes k → Finishes (InBody l b row xs k)
unfolding resume
body_finishes l b row xs k f u s e w =
    f u (row_span row (last_span xs (join l s))) (row_tree row (last_span xs (join l s)) (last_tree xs (join l s) (bound (join l s) b e))) w

right_after : (b : Brace) → IsAfter (right_sign b)
right_after Curly = right_brace
right_after Square = right_bracket

domain_goes : (b : Brace) (l : Span) (x : Binder) (n : ℕ) (row : Row) (xs : Atoms) (k : Waiting) (s : Span) (e : Expr)
    → resume (InDomain b l x n row xs k) s e (sign here (right_sign b)) ≡ at_expr (n + 1) (InBody l (typed b x e) row xs k)
unfolding resume
domain_goes Curly l x n row xs k s e = refl
domain_goes Square l x n row xs k s e = refl

-- an expression that is whole
waiting_completes : (k : Waiting) → Finishes k
unfolding resume
waiting_completes (Ends p) u s e w = purpose_completes p u s e w
waiting_completes (InParens l n row xs k) u s e w =
    sign_first u (AtOperand n row (add_atom xs (join l here) e) k) RightParen (w RightParen here right_paren) (atoms_finish n row (add_atom xs (join l here) e) k (waiting_completes k))
waiting_completes (InDomain b l x n row xs k) u s e w =
    sign_first u (at_expr (n + 1) (InBody l (typed b x e) row xs k)) (right_sign b) (w (right_sign b) here (right_after b) ∙ domain_goes b l x n row xs k s e)
    (atoms_finish (n + 1) Plain NoAtoms (InBody l (typed b x e) row xs k) (body_finishes l (typed b x e) row xs k (waiting_completes k)))
waiting_completes (InBody l b row xs k) u s e w = body_finishes l b row xs k (waiting_completes k) u s e w
waiting_completes (InCodomain a d k) u s e w = waiting_completes k u (join a s) (ArrowExpr (join a s) d e) w

operand_completes : (n : ℕ) (row : Row) (xs : Atoms) (k : Waiting) → Completes (AtOperand n row xs k)
operand_completes n row xs k = atoms_finish n row xs k (waiting_completes k)

after_variable_completes : (b : Brace) (l : Span) (x : Binder) (n : ℕ) (row : Row) (xs : Atoms) (k : Waiting) → Completes (AfterVariable b l x n row xs k)
after_variable_completes b l x n row xs k = sign_first _ _ ColonSign refl (operand_completes (n + 1) Plain NoAtoms (InDomain b l x n row xs k))

-- the sign that must come, and any other
pub expect_here : (m : Sign) (next : State) → expect m (Mark m) next ≡ next
expect_here m next = rw (same (code m)) refl
  where
    same : (n : ℕ) → (n == n) ≡ true
    same n = eq-eqb n n refl

pub expect_refuses : (m k : Sign) (next : State) → m ≢ k → expect m (Mark k) next ≡ Refused
expect_refuses m k next h = rw (ne_eqb (code m) (code k) (λ e. h (code_injective m k e))) refl

pub completes : (u : State) → Alive u → Completes u
unfolding Alive run
completes Refused a = absurd a
completes (Whole tree) a = record { rest = []; tree = tree; whole = refl }
completes (Expect m next) a = sign_first _ next m (expect_here m next) (completes next a.1)
completes (ExpectName f) a = let x : Simple = record { at = here; name = [] } in step_first _ (f x) (ident here ([] ∷ [])) refl (completes (f x) (a x))
completes (ExpectPath f) a = let w : Written = record { path = []; span = here } in step_first _ (f w) (ident here []) refl (completes (f w) (a w))
completes (MoreWords ws done) a = sign_first _ (done ws) DotSign refl (completes (done ws) (a ws))
completes AtModule a = record { rest = sign here SigWord ∷ ident here ([] ∷ []) ∷ sign here EqualSign ∷ sign here LeftBrace ∷ sign here RightBrace ∷ sign here DotSign ∷ sign here EndSign ∷ []; tree = _; whole = refl }
completes (AtDecl x ds) a = decl_completes x ds
completes (AfterDomain x ds y z) a = sign_first _ _ DotSign refl (decl_completes x _)
completes (AtAssign o xs) a = owner_completes o xs
completes (AtOperand n row xs k) a = operand_completes n row xs k
completes (AtVariable b l n row xs k) a = sign_first _ _ BlankSign refl (after_variable_completes b l None n row xs k)
completes (AfterVariable b l x n row xs k) a = after_variable_completes b l x n row xs k
