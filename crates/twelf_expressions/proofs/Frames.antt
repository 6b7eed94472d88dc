-- Expressions that are whole, and the frames that wait for them.
use Rattle.std.specs.Prelude.{Option, Result, Ok, Err, IsErrAnd}
use Rattle.std.proofs.Common.{◌≡◌, ℕ, ◌+◌, true, false, List, [], ◌∷◌, ◌++◌, length, arith, Some, refl, sym, ap, ap₂, subst, ◌∙◌, true≢false}
use Rattle.text_meaning.specs.Tokens.{Span, Token, Mark, sign, RightParen}
use Rattle.text_meaning.specs.Trees.{Expr, ArrowExpr}
use Rattle.text_meaning.specs.Grammar.{join, applied}
use Rattle.text_meaning.specs.Reading.{Answer}
use Rattle.text_meaning.specs.Parsing.{Atoms, NoAtoms, SomeAtoms, Row, Plain, AfterArrow, AfterBack, Waiting, InParens, InDomain, InBody, InCodomain, Brace, Curly, Square, Binding, State, AtOperand, add_atom, arrow_move, at_operand, back_move, expect, is_refused, at_expr, operand_ends, resume, row_span, row_tree, typed, right_sign, answer_on}
use Rattle.text_meaning.specs.Trees as trees
use Rattle.mmt_syntax.specs.Readings.{read_span, read_expr, read_arguments, expressions_of}
use Rattle.twelf_expressions.specs.Signs.{is_sign}
use Rattle.twelf_expressions.specs.Left.{left, next_kind, next_token}
use Rattle.twelf_expressions.specs.Going.{Fails, answer_with}
use Rattle.twelf_expressions.specs.Frames.{IsSpelled, IsBody, Turned, waiting, answer_resumed, of_operand, of_stack, opened, read_row, read_atoms, stands}
use Rattle.twelf_expressions.specs.declared.fault.ReadFault.{ReadFault}
use Rattle.twelf_expressions.specs.declared.frame.Spelled.{Spelled}
use Rattle.twelf_expressions.specs.declared.frame.Operand.{Operand}
use Rattle.twelf_expressions.specs.declared.frame.Atoms as frame
use Rattle.twelf_expressions.specs.declared.frame.Row as frames
use Rattle.twelf_expressions.specs.declared.frame.Stack.{Stack}
use Rattle.twelf_expressions.specs.declared.frame.Opening.{Opening}
use Rattle.twelf_expressions.specs.declared.frame.Frame.{Frame}
use Rattle.twelf_expressions.specs.declared.frame.Frame.TheVariants as frame_kinds
use Rattle.twelf_expressions.specs.declared.reader.Reader.{Reader}
use Rattle.twelf_expressions.proofs.SignCases.{expect_other}
use Rattle.twelf_expressions.proofs.Moves.{failed, one_more_waits, took_behind, took_operand}

-- ---- arrows

-- what waits for the codomain of these atoms
abbrev pub codomain_of : Atoms → Waiting → Waiting
codomain_of NoAtoms k = k
codomain_of (SomeAtoms s h xs) k = InCodomain s (applied s h xs) k

pub arrow_moves : (n : ℕ) (row : Row) (xs : Atoms) (k : Waiting) → is_refused (arrow_move n row xs k) ≡ false → arrow_move n row xs k ≡ AtOperand (n + 1) AfterArrow NoAtoms (codomain_of xs k)
arrow_moves n row NoAtoms k h = absurd (true≢false h)
arrow_moves n Plain (SomeAtoms s e xs) k h = refl
arrow_moves n AfterArrow (SomeAtoms s e xs) k h = refl
arrow_moves n (AfterBack r b) (SomeAtoms s e xs) k h = absurd (true≢false h)

-- the row with these atoms as its next operand
abbrev pub back_row : Row → Atoms → Row
back_row row NoAtoms = row
back_row row (SomeAtoms s h xs) = AfterBack (row_span row s) (row_tree row s (applied s h xs))

pub back_moves : (n : ℕ) (row : Row) (xs : Atoms) (k : Waiting) → is_refused (back_move n row xs k) ≡ false → back_move n row xs k ≡ AtOperand (n + 1) (back_row row xs) NoAtoms k
back_moves n row NoAtoms k h = absurd (true≢false h)
back_moves n Plain (SomeAtoms s e xs) k h = refl
back_moves n AfterArrow (SomeAtoms s e xs) k h = absurd (true≢false h)
back_moves n (AfterBack r b) (SomeAtoms s e xs) k h = refl

-- ---- whole expressions

pub resumed_codomain : (k : Waiting) (s : Span) (d : Expr) (w v : Spelled) (ts : List Token) → IsSpelled v (join s (read_span w.span)) (ArrowExpr (join s (read_span w.span)) d (read_expr w.tree))
    → answer_resumed (InCodomain s d k) w ts ≡ answer_resumed k v ts
unfolding resume
resumed_codomain k s d w v ts h = ap₂ (λ u e. answer_with (λ t. resume k u e t) ts) (sym h.span) (sym h.tree)

pub resumed_body : (k : Waiting) (l : Span) (b : Binding) (o : Operand) (w v : Spelled) (ts : List Token) → IsBody l b o w v
    → answer_resumed (InBody l b (read_row o.row) (read_atoms o.atoms) k) w ts ≡ answer_resumed k v ts
unfolding resume
resumed_body k l b o w v ts h = ap₂ (λ u e. answer_with (λ t. resume k u e t) ts) (sym h.span) (sym h.tree)

-- an operand that ends
pub resumed_operand : (k : Waiting) (row : Row) (s : Span) (h : Expr) (xs : trees.Exprs) (w : Spelled) (ts : List Token) → IsSpelled w (row_span row s) (row_tree row s (applied s h xs))
    → answer_with (λ t. operand_ends row (SomeAtoms s h xs) k t) ts ≡ answer_resumed k w ts
resumed_operand k row s h xs w ts e = ap₂ (λ u x. answer_with (λ t. resume k u x t) ts) (sym e.span) (sym e.tree)

-- ---- brackets that close

pub parens_refuse : (r : Reader) (l : Span) (n : ℕ) (row : Row) (xs : Atoms) (k : Waiting) (s : Span) (e : Expr) → is_sign RightParen (next_kind (left r)) ≡ false → is_refused (resume (InParens l n row xs k) s e (next_token (left r))) ≡ true
unfolding resume
parens_refuse r l n row xs k s e h = expect_other RightParen (AtOperand n row (add_atom xs (join l (next_token (left r)).span) e) k) (next_kind (left r)) h

pub parens_close : (l : Span) (n : ℕ) (row : Row) (xs : Atoms) (k : Waiting) (w : Spelled) (r : Span) (u : State) (before after : List Token) → before ≡ sign r RightParen ∷ after → AtOperand n row (add_atom xs (join l r) (read_expr w.tree)) k ≡ u → is_refused u ≡ false
    → answer_resumed (InParens l n row xs k) w before ≡ answer_on u after
unfolding resume
parens_close l n row xs k w r u before after h g a = took_behind (λ t. resume (InParens l n row xs k) (read_span w.span) (read_expr w.tree) t) u h g a

pub domain_refuses : (r : Reader) (b : Brace) (l : Span) (x : trees.Binder) (n : ℕ) (row : Row) (xs : Atoms) (k : Waiting) (s : Span) (e : Expr) → is_sign (right_sign b) (next_kind (left r)) ≡ false → is_refused (resume (InDomain b l x n row xs k) s e (next_token (left r))) ≡ true
unfolding resume
domain_refuses r b l x n row xs k s e h = expect_other (right_sign b) (at_expr (n + 1) (InBody l (typed b x e) row xs k)) (next_kind (left r)) h

bracket_here : (b : Brace) (next : State) → expect (right_sign b) (Mark (right_sign b)) next ≡ next
bracket_here Curly next = refl
bracket_here Square next = refl

pub domain_closes : (b : Brace) (l : Span) (x : trees.Binder) (n : ℕ) (row : Row) (xs : Atoms) (k : Waiting) (w : Spelled) (r : Span) (before after : List Token) → before ≡ sign r (right_sign b) ∷ after
    → answer_resumed (InDomain b l x n row xs k) w before ≡ answer_on (at_expr (n + 1) (InBody l (typed b x (read_expr w.tree)) row xs k)) after
unfolding resume
domain_closes b l x n row xs k w r before after h =
    let u = at_expr (n + 1) (InBody l (typed b x (read_expr w.tree)) row xs k) in
    took_behind (λ t. resume (InDomain b l x n row xs k) (read_span w.span) (read_expr w.tree) t) u h (bracket_here b u) refl

-- ---- parts of the code's steps

-- the state at an operand, of its parts
pub same_state : (n m : ℕ) (r q : Row) (xs ys : Atoms) (k j : Waiting) → n ≡ m → r ≡ q → xs ≡ ys → k ≡ j → AtOperand n r xs k ≡ AtOperand m q ys j
same_state n m r q xs ys k j a b c d = cc

-- an operand with one more atom
pub one_atom_more : (o p : Operand) (s : Span) (e : Expr) (k : Waiting) → read_atoms p.atoms ≡ add_atom (read_atoms o.atoms) s e → p.row ≡ o.row → p.level.n ≡ o.level.n
    → AtOperand o.level.n (read_row o.row) (add_atom (read_atoms o.atoms) s e) k ≡ of_operand AtOperand p k
one_atom_more o p s e k a b c = same_state o.level.n p.level.n (read_row o.row) (read_row p.row) (add_atom (read_atoms o.atoms) s e) (read_atoms p.atoms) k k (sym c) (ap read_row (sym b)) (sym a) refl

-- a token that the operand of a stack takes
pub took_in : (s : Stack) (k : Waiting) (u : State) {t : Token} {before after : List Token} → before ≡ t ∷ after → of_stack (λ n row xs w. at_operand n row xs w t.span t.kind) s k ≡ u → is_refused u ≡ false → answer_on (stands s k) before ≡ answer_on u after
took_in s k u e h a = took_operand s.operand.level.n (read_row s.operand.row) (read_atoms s.operand.atoms) (waiting k s.frames.items) u s.operand.level.within e h a

-- what opened waits for an expression once its operand is the stack's again
pub popped : (k : Waiting) (w : Spelled) (ts : List Token) (fs gs : List Frame) (p : Opening) (o u : Operand) → fs ≡ gs ++ (frame_kinds.Open p o ∷ []) → u ≡ o
    → answer_resumed (waiting k fs) w ts ≡ answer_resumed (of_operand (opened p) u (waiting k gs)) w ts
popped k w ts fs gs p o u e h = ap (λ j. answer_resumed j w ts) (one_more_waits k gs fs (frame_kinds.Open p o) e) ∙ ap (λ x. answer_resumed (of_operand (opened p) x (waiting k gs)) w ts) (sym h)

-- what waits for a codomain
pub codomain_is : (o : Option frame.Atoms) (a : frame.Atoms) (d : Spelled) (k : Waiting) → o ≡ Some a → IsSpelled d (read_span a.span) (applied (read_span a.span) (read_expr a.head) (read_arguments (expressions_of a.args)))
    → codomain_of (read_atoms o) k ≡ InCodomain (read_span d.span) (read_expr d.tree) k
codomain_is o a d k e h = ap (λ x. codomain_of (read_atoms x) k) e ∙ ap₂ (λ s t. InCodomain s t k) (sym h.span) (sym h.tree)

-- an operand of these atoms, in its row
pub spelled_in_row : (taken row : frames.Row) (a : frame.Atoms) (p w : Spelled) → taken ≡ row → IsSpelled p (read_span a.span) (applied (read_span a.span) (read_expr a.head) (read_arguments (expressions_of a.args)))
    → IsSpelled w (row_span (read_row taken) (read_span p.span)) (row_tree (read_row taken) (read_span p.span) (read_expr p.tree))
    → IsSpelled w (row_span (read_row row) (read_span a.span)) (row_tree (read_row row) (read_span a.span) (applied (read_span a.span) (read_expr a.head) (read_arguments (expressions_of a.args))))
spelled_in_row taken row a p w e h g =
    record {
      span = g.span ∙ ap₂ (λ x s. row_span (read_row x) s) e h.span;
      tree = g.tree ∙ ap (λ x. row_tree (read_row x) (read_span p.span) (read_expr p.tree)) e ∙ ap₂ (λ s t. row_tree (read_row row) s t) h.span h.tree;
    }

pub back_row_is : (row : frames.Row) (o : Option frame.Atoms) (a : frame.Atoms) (w : Spelled) → o ≡ Some a
    → IsSpelled w (row_span (read_row row) (read_span a.span)) (row_tree (read_row row) (read_span a.span) (applied (read_span a.span) (read_expr a.head) (read_arguments (expressions_of a.args))))
    → back_row (read_row row) (read_atoms o) ≡ AfterBack (read_span w.span) (read_expr w.tree)
back_row_is row o a w e h = ap (λ x. back_row (read_row row) (read_atoms x)) e ∙ ap₂ AfterBack (sym h.span) (sym h.tree)

pub operand_is : (row : frames.Row) (o : Option frame.Atoms) (a : frame.Atoms) (w : Spelled) (k : Waiting) (ts : List Token) → o ≡ Some a
    → IsSpelled w (row_span (read_row row) (read_span a.span)) (row_tree (read_row row) (read_span a.span) (applied (read_span a.span) (read_expr a.head) (read_arguments (expressions_of a.args))))
    → answer_with (λ t. operand_ends (read_row row) (read_atoms o) k t) ts ≡ answer_resumed k w ts
operand_is row o a w k ts e h =
    ap (λ x. answer_with (λ t. operand_ends (read_row row) (read_atoms x) k t) ts) e
    ∙ resumed_operand k (read_row row) (read_span a.span) (read_expr a.head) (read_arguments (expressions_of a.args)) w ts h

pub turned_from : (r : Result (Option Spelled) ReadFault) (a b : Answer) (k : Waiting) (s : Stack) (ts : List Token) → a ≡ b → Turned b r k s ts → Turned a r k s ts
turned_from r a b k s ts e h = subst (λ x. Turned x r k s ts) (sym e) h

-- the exit of a `?` in a turn
pub turn_stopped : {a b : Answer} (r : Result (Option Spelled) ReadFault) (f : ReadFault) (k : Waiting) (s : Stack) (ts : List Token) → IsErrAnd r (λ e. e ≡ f) → a ≡ b → Fails f b → Turned a r k s ts
turn_stopped (Ok x) f k s ts h came g = absurd h
turn_stopped {a = a} (Err e) f k s ts h came g = subst (λ y. Fails y a) (sym h) (failed f came g)

pub none_wait : (k : Waiting) (fs : List Frame) → length fs ≡ 0 → waiting k fs ≡ k
none_wait k [] h = refl
none_wait k (f ∷ fs) h = absurd (omega arith)
