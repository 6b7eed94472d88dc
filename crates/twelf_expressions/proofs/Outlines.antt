-- Expressions that are passed over: operands, and the brackets that are open before them.
use Rattle.std.specs.Prelude.{Result, Ok, Err, IsErrAnd, not, reverse}
use Rattle.std.proofs.Common.{◌≡◌, ℕ, ◌+◌, Bool, true, false, List, [], ◌∷◌, ◌++◌, length, arith, refl, sym, ap, ap₂, subst, ◌∙◌, true≢false}
use Rattle.std.proofs.lemmas.List.{reverse-append}
use Rattle.text_meaning.specs.Tokens.{Span, Kind, Mark, Ident, Token, ident, RightParen, RightBracket, ColonSign, TypeWord}
use Rattle.text_meaning.specs.Trees.{Binder, Expr, NameExpr, TypeExpr, Written}
use Rattle.text_meaning.specs.Grammar.{applied, join}
use Rattle.text_meaning.specs.Reading.{Answer}
use Rattle.text_meaning.specs.Parsing.{Atoms, NoAtoms, SomeAtoms, Row, Plain, AfterArrow, AfterBack, Purpose, Simple, Waiting, Curly, Square, Ends, InParens, InDomain, InBody, InCodomain, State, AtOperand, add_atom, after_variable, at_operand, arrow_move, at_expr, back_move, expect, is_refused, operand_ends, purpose_ends, resume, right_sign, row_span, row_tree, typed}
use Rattle.twelf_expressions.specs.Going.{Fails, answer_with}
use Rattle.twelf_expressions.specs.Left.{left, next_token}
use Rattle.twelf_expressions.specs.Outlines.{IsBehind, Passes, Resumes, Stands, Waits, behind_operand, has_atoms, inward, is_atom, stand_of, takes_arrow, takes_back_arrow}
use Rattle.twelf_expressions.specs.Signs.{is_name, is_path, is_sign}
use Rattle.twelf_expressions.specs.Frames.{read_brace}
use Rattle.twelf_expressions.specs.declared.fault.ReadFault.{ReadFault}
use Rattle.twelf_expressions.specs.declared.level.Level.{Level}
use Rattle.twelf_expressions.specs.declared.frame.Brace.{Brace}
use Rattle.twelf_expressions.specs.declared.reader.Reader.{Reader}
use Rattle.twelf_expressions.specs.declared.outline.Bracket.{Bracket}
use Rattle.twelf_expressions.specs.declared.outline.Bracket.TheVariants as brackets
use Rattle.twelf_expressions.specs.declared.outline.Stand.{Stand}
use Rattle.twelf_expressions.specs.declared.outline.Stand.TheVariants as stands
use Rattle.twelf_expressions.specs.declared.outline.Open.{Open}
use Rattle.twelf_expressions.proofs.Frames.{back_row, codomain_of}
use Rattle.twelf_expressions.proofs.Moves.{behind_next, has_next, with_same}

-- ---- tokens

pub name_here : (s : Span) (k : Kind) → is_name k ≡ true → (x : Simple) × (record { span = s; kind = k } ≡ ident x.at (x.name ∷ []))
name_here s (Ident []) h = absurd (true≢false (sym h))
name_here s (Ident (n ∷ [])) h = (record { at = s; name = n }, refl)
name_here s (Ident (n ∷ m ∷ ns)) h = absurd (true≢false (sym h))
name_here s (Mark m) h = absurd (true≢false (sym h))

pub path_here : (s : Span) (k : Kind) → is_path k ≡ true → (w : Written) × (record { span = s; kind = k } ≡ ident w.span w.path)
path_here s (Ident p) h = (record { path = p; span = s }, refl)
path_here s (Mark m) h = absurd (true≢false (sym h))

pub atom_taken : (n : ℕ) (row : Row) (xs : Atoms) (w : Waiting) (s : Span) (k : Kind) → is_atom k ≡ true → (e : Expr) × (at_operand n row xs w s k ≡ AtOperand n row (add_atom xs s e) w)
atom_taken n row xs w s (Ident p) h = (NameExpr s p, refl)
atom_taken n row xs w s (Mark TypeWord) h = (TypeExpr s, refl)
atom_taken n row xs w s _ h = absurd (true≢false (sym h))

-- what may not stand behind the variable of a binder
pub pi_refuses : (l : Span) (x : Binder) (n : ℕ) (row : Row) (xs : Atoms) (w : Waiting) (k : Kind) → is_sign ColonSign k ≡ false → is_refused (after_variable Curly l x n row xs w k) ≡ true
pi_refuses l x n row xs w (Mark ColonSign) h = absurd (true≢false h)
pi_refuses l x n row xs w _ h = refl

pub lam_refuses : (l : Span) (x : Binder) (n : ℕ) (row : Row) (xs : Atoms) (w : Waiting) (k : Kind) → is_sign ColonSign k ≡ false → is_sign RightBracket k ≡ false → is_refused (after_variable Square l x n row xs w k) ≡ true
lam_refuses l x n row xs w (Mark ColonSign) h g = absurd (true≢false h)
lam_refuses l x n row xs w (Mark RightBracket) h g = absurd (true≢false g)
lam_refuses l x n row xs w _ h g = refl

-- ---- operands

pub arrow_follows : (n : ℕ) (row : Row) (xs : Atoms) (k : Waiting) → is_refused (arrow_move n row xs k) ≡ not (takes_arrow (has_atoms xs) (stand_of row))
arrow_follows n row NoAtoms k = refl
arrow_follows n Plain (SomeAtoms s e xs) k = refl
arrow_follows n AfterArrow (SomeAtoms s e xs) k = refl
arrow_follows n (AfterBack r b) (SomeAtoms s e xs) k = refl

pub back_arrow_follows : (n : ℕ) (row : Row) (xs : Atoms) (k : Waiting) → is_refused (back_move n row xs k) ≡ not (takes_back_arrow (has_atoms xs) (stand_of row))
back_arrow_follows n row NoAtoms k = refl
back_arrow_follows n Plain (SomeAtoms s e xs) k = refl
back_arrow_follows n AfterArrow (SomeAtoms s e xs) k = refl
back_arrow_follows n (AfterBack r b) (SomeAtoms s e xs) k = refl

-- a back arrow puts its operand into a row of back arrows
pub back_row_stands : (row : Row) (xs : Atoms) → has_atoms xs ≡ true → stand_of (back_row row xs) ≡ stands.AfterBack
back_row_stands row NoAtoms h = absurd (true≢false (sym h))
back_row_stands row (SomeAtoms s e xs) h = refl

pub begun_there : (b : Bool) (s : Stand) → true ≡ takes_back_arrow b s → b ≡ true
begun_there true s h = refl
begun_there false s h = absurd (true≢false h)

pub one_atom_at_least : (xs : Atoms) (s : Span) (e : Expr) → has_atoms (add_atom xs s e) ≡ true
one_atom_at_least NoAtoms s e = refl
one_atom_at_least (SomeAtoms t h xs) s e = refl

-- an operand without atoms does not end
pub empty_ends : (row : Row) (xs : Atoms) (k : Waiting) (t : Token) → has_atoms xs ≡ false → is_refused (operand_ends row xs k t) ≡ true
empty_ends row NoAtoms k t h = refl
empty_ends row (SomeAtoms s e xs) k t h = absurd (true≢false h)

-- ---- what waits

pub nothing_waits : (p : Purpose) (bs : List Bracket) → bs ≡ [] → Waits p (reverse bs) (Ends p)
unfolding Waits
nothing_waits p bs e = (refl, ap reverse e)

pub codomain_waits : (p : Purpose) (bs : List Bracket) (xs : Atoms) (k : Waiting) → Waits p bs k → Waits p bs (codomain_of xs k)
unfolding Waits
codomain_waits p bs NoAtoms k w = w
codomain_waits p bs (SomeAtoms s h xs) k w = w

pub body_waits : (p : Purpose) (bs : List Bracket) (l : Span) (b : _) (row : Row) (xs : Atoms) (k : Waiting) → Waits p bs k → Waits p bs (InBody l b row xs k)
unfolding Waits
body_waits p bs l b row xs k w = w

pub parens_wait : (p : Purpose) (bs : List Bracket) (level : Level) (l : Span) (row : Row) (xs : Atoms) (k : Waiting) → Waits p bs k → Waits p (brackets.Parens level (stand_of row) ∷ bs) (InParens l level.n row xs k)
unfolding Waits
parens_wait p bs level l row xs k w = (level, bs, refl, refl, w)

pub domain_waits : (p : Purpose) (bs : List Bracket) (brace : Brace) (level : Level) (l : Span) (x : Binder) (row : Row) (xs : Atoms) (k : Waiting) → Waits p bs k → Waits p (brackets.Domain brace level ∷ bs) (InDomain (read_brace brace) l x level.n row xs k)
unfolding Waits
domain_waits p bs brace level l x row xs k w = (brace, level, bs, refl, refl, refl, w)

-- ---- whole expressions

resumes : (p : Purpose) (k : Waiting) (s : Span) (e : Expr) (bs : List Bracket) → Waits p bs k → Resumes p (λ t. resume k s e t) bs
unfolding Waits resume
resumes p (Ends q) s e bs (same, none) = subst (Resumes p (λ t. purpose_ends q e t.kind)) (sym none) (e, λ t. ap (λ r. purpose_ends r e t.kind) same)
resumes p (InParens l n row xs k) s e bs (level, rest, is, n_is, w) =
    subst (Resumes p (λ t. expect RightParen t.kind (AtOperand n row (add_atom xs (join l t.span) e) k))) (sym is)
    (row, xs, k, l, e, (λ t. ap (λ m. expect RightParen t.kind (AtOperand m row (add_atom xs (join l t.span) e) k)) n_is), refl, w)
resumes p (InDomain b l x n row xs k) s e bs (brace, level, rest, is, b_is, n_is, w) =
    subst (Resumes p (λ t. expect (right_sign b) t.kind (at_expr (n + 1) (InBody l (typed b x e) row xs k)))) (sym is)
    (InBody l (typed b x e) row xs k, (λ t. ap₂ (λ c m. expect (right_sign c) t.kind (at_expr (m + 1) (InBody l (typed b x e) row xs k))) b_is n_is), w)
resumes p (InBody l b row xs k) s e bs w = resumes p k _ _ bs w
resumes p (InCodomain a d k) s e bs w = resumes p k _ _ bs w

-- an operand ends before a token, which leads to a state by a function
pub record Ended (p : Purpose) (answer : Answer) (bs : List Bracket) (ts : List Token) : Type 0 where
  pub leads : Token → State
  pub goes : answer ≡ answer_with leads ts
  pub resumes : Resumes p leads bs

operand_ended : (p : Purpose) (answer : Answer) (bs : List Bracket) (ts : List Token) (row : Row) (xs : Atoms) (k : Waiting) → has_atoms xs ≡ true → Waits p bs k → answer ≡ answer_with (λ t. operand_ends row xs k t) ts → Ended p answer bs ts
operand_ended p answer bs ts row NoAtoms k h w g = absurd (true≢false (sym h))
operand_ended p answer bs ts row (SomeAtoms s e xs) k h w g = record { leads = λ t. resume k (row_span row s) (row_tree row s (applied s e xs)) t; goes = g; resumes = resumes p k _ _ bs w }

pub ended : (p : Purpose) (answer : Answer) (stack : Open) (ts : List Token) → Stands p behind_operand answer stack ts → stack.operand.begun ≡ true → Ended p answer (inward stack) ts
ended p answer stack ts h b = operand_ended p answer (inward stack) ts h.row h.atoms h.waiting (h.atoms_is ∙ b) h.waits h.goes

-- ---- brackets

-- the brackets behind one that is taken from the end
pub innermost : (bs rest : List Bracket) (b : Bracket) → bs ≡ rest ++ (b ∷ []) → reverse bs ≡ b ∷ reverse rest
innermost bs rest b e = ap reverse e ∙ reverse-append rest (b ∷ [])

pub none_open : (bs : List Bracket) → length bs ≡ 0 → reverse bs ≡ []
none_open [] h = refl
none_open (b ∷ bs) h = absurd (omega arith)

-- ---- what a part of a reader promises

-- only where the next token leads counts
pub leads_same : (r : Reader) (f g : Token → State) → ((t : Token) → f t ≡ g t) → answer_with f (left r) ≡ answer_with g (left r)
leads_same r f g e = ap (answer_with f) (has_next r) ∙ with_same f g (next_token (left r)) (behind_next (left r)) (e (next_token (left r))) ∙ ap (answer_with g) (sym (has_next r))

-- the exit of a `?`
pub passing_stopped : {X : Type 0} (r : Result X ReadFault) (f : ReadFault) (a : Answer) (holds : X → Type 0) → IsErrAnd r (λ e. e ≡ f) → Fails f a → Passes a r holds
passing_stopped (Ok x) f a holds h g = absurd h
passing_stopped (Err e) f a holds h g = subst (λ y. Fails y a) (sym h) g

-- the same operand, where its state has moved on
pub stands_on : (p : Purpose) (f g : ℕ → Row → Atoms → Waiting → List Token → Answer) (answer : Answer) (stack : Open) (ts us : List Token) (h : Stands p f answer stack ts)
    → f stack.operand.level.n h.row h.atoms h.waiting ts ≡ g stack.operand.level.n h.row h.atoms h.waiting us → Stands p g answer stack us
stands_on p f g answer stack ts us h e = record { row = h.row; atoms = h.atoms; waiting = h.waiting; row_is = h.row_is; atoms_is = h.atoms_is; waits = h.waits; goes = h.goes ∙ e }

-- ---- the innermost bracket

pub whole : (p : Purpose) (answer : Answer) (bs : List Bracket) (r : Reader) → Ended p answer bs (left r) → bs ≡ [] → IsBehind p answer (left r)
whole p answer bs r e none =
    let end = subst (Resumes p e.leads) none e.resumes in
    record { tree = end.0; goes = e.goes ∙ leads_same r e.leads (λ t. purpose_ends p end.0 t.kind) end.1 }

-- behind an expression in parentheses
pub record InsideParens (p : Purpose) (answer : Answer) (level : Level) (stand : Stand) (bs : List Bracket) (ts : List Token) : Type 0 where
  pub row : Row
  pub atoms : Atoms
  pub waiting : Waiting
  pub left : Span
  pub inner : Expr
  pub row_is : stand_of row ≡ stand
  pub waits : Waits p bs waiting
  pub goes : answer ≡ answer_with (λ t. expect RightParen t.kind (AtOperand level.n row (add_atom atoms (join left t.span) inner) waiting)) ts

pub inside_parens : (p : Purpose) (answer : Answer) (bs rest : List Bracket) (r : Reader) (level : Level) (stand : Stand) → Ended p answer bs (left r) → bs ≡ brackets.Parens level stand ∷ rest → InsideParens p answer level stand rest (left r)
inside_parens p answer bs rest r level stand e is =
    let (row, xs, k, l, inner, same, row_is, w) = subst (Resumes p e.leads) is e.resumes in
    record {
      row = row;
      atoms = xs;
      waiting = k;
      left = l;
      inner = inner;
      row_is = row_is;
      waits = w;
      goes = e.goes ∙ leads_same r e.leads (λ t. expect RightParen t.kind (AtOperand level.n row (add_atom xs (join l t.span) inner) k)) same;
    }

-- behind the domain of a binder
pub record InsideDomain (p : Purpose) (answer : Answer) (brace : Brace) (level : Level) (bs : List Bracket) (ts : List Token) : Type 0 where
  pub waiting : Waiting
  pub waits : Waits p bs waiting
  pub goes : answer ≡ answer_with (λ t. expect (right_sign (read_brace brace)) t.kind (at_expr (level.n + 1) waiting)) ts

pub inside_domain : (p : Purpose) (answer : Answer) (bs rest : List Bracket) (r : Reader) (brace : Brace) (level : Level) → Ended p answer bs (left r) → bs ≡ brackets.Domain brace level ∷ rest → InsideDomain p answer brace level rest (left r)
inside_domain p answer bs rest r brace level e is =
    let (k, same, w) = subst (Resumes p e.leads) is e.resumes in
    record { waiting = k; waits = w; goes = e.goes ∙ leads_same r e.leads (λ t. expect (right_sign (read_brace brace)) t.kind (at_expr (level.n + 1) k)) same }
