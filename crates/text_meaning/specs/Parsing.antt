-- The reader of tokens xs a function: a machine with a stack, one token a step.
use Rattle.std.specs.Prelude.{ℕ, ◌+◌, Bool, true, false, ◌==◌, List, [], ◌∷◌, ◌++◌, Some, None, if◌then◌else◌}
use Rattle.text_meaning.specs.Tokens.{Span, Sign, Kind, Mark, Ident, Token, SigWord, ViewWord, IncludeWord, StructWord, OtherWord, Stray, AssignSign, ColonSign, LeftParen, RightParen, LeftBracket, RightBracket, LeftBrace, RightBrace, DotSign, TypeWord, ArrowSign, BackSign, EqualSign, BlankSign, EndSign}
use Rattle.name_meaning.specs.Names.{Name}
use Rattle.text_meaning.specs.Trees.{Binder, Expr, TypeExpr, NameExpr, AppExpr, PiExpr, LamExpr, TypedLamExpr, ArrowExpr, BackExpr, Exprs, NoArgs, ThenArg, Written, Assign, IncludeAssign, StructAssign, ConstAssign, Decl, IncludeDecl, StructDecl, ConstDecl, SigModule, ViewModule}
use Rattle.text_meaning.specs.Grammar.{join, applied, simple, written}
use Rattle.text_meaning.specs.Nesting.{Nesting}
use Rattle.text_meaning.specs.Reading.{Target, ModuleText, JudgementText, Tree, ModuleTree, JudgementTree, is_too_deep, Answer, Read, Syntax, TooDeep, Unsupported}

-- ---- states

-- a simple identifier, where it stands
pub record Simple : Type 0 where
  pub at : Span
  pub name : Name

abbrev pub as_written : Simple → Written
as_written x = simple x.at x.name

-- the atoms so far of an operand: the first one and the others
pub data Atoms : Type 0 where
  NoAtoms : Atoms
  SomeAtoms : Span → Expr → Exprs → Atoms

-- where an operand stands: first, after `->`, or after `<-` behind a row that has a span and a tree
pub data Row : Type 0 where
  Plain : Row
  AfterArrow : Row
  AfterBack : Span → Expr → Row

pub data Brace : Type 0 where
  Curly : Brace
  Square : Brace

-- a binder without its body
pub data Binding : Type 0 where
  PiOf : Binder → Expr → Binding
  LamOf : Binder → Binding
  TypedLamOf : Binder → Expr → Binding

-- whose assignments are read: a structure of a theory, behind these declarations, or a view
pub data Owner : Type 0 where
  InStruct : (sig : Simple) → List Decl → (name domain : Simple) → Owner
  InView : (name domain codomain : Simple) → Owner

-- what an expression is for
pub data Purpose : Type 0 where
  ClassOf : (sig : Simple) → List Decl → (name : Simple) → Purpose
  ValueOf : (sig : Simple) → List Decl → (name : Simple) → (class : Expr) → Purpose
  ValueFor : Owner → List Assign → (target : Written) → Purpose
  ObjectOf : Purpose
  FamilyOf : (object : Expr) → Purpose

-- what waits for an expression: its purpose, or an operand at a nesting, in a row, behind atoms
pub data Waiting : Type 0 where
  Ends : Purpose → Waiting
  InParens : (left : Span) → ℕ → Row → Atoms → Waiting → Waiting
  InDomain : Brace → (left : Span) → Binder → ℕ → Row → Atoms → Waiting → Waiting
  InBody : (left : Span) → Binding → Row → Atoms → Waiting → Waiting
  InCodomain : (domain_span : Span) → (domain : Expr) → Waiting → Waiting

pub data State : Type 0 where
  Refused : State
  Whole : Tree → State
  -- a token that must come, and what follows it
  Expect : Sign → State → State
  ExpectName : (Simple → State) → State
  ExpectPath : (Written → State) → State
  -- further words of a morphism, or the dot that ends it
  MoreWords : List Written → (List Written → State) → State
  AtModule : State
  AtDecl : (sig : Simple) → List Decl → State
  AfterDomain : (sig : Simple) → List Decl → (name domain : Simple) → State
  AtAssign : Owner → List Assign → State
  AtOperand : ℕ → Row → Atoms → Waiting → State
  AtVariable : Brace → (left : Span) → ℕ → Row → Atoms → Waiting → State
  AfterVariable : Brace → (left : Span) → Binder → ℕ → Row → Atoms → Waiting → State

-- ---- signs

-- the number of a sign
abbrev pub code : Sign → ℕ
code SigWord = 0
code ViewWord = 1
code IncludeWord = 2
code StructWord = 3
code OtherWord = 4
code Stray = 5
code AssignSign = 6
code ColonSign = 7
code LeftParen = 8
code RightParen = 9
code LeftBracket = 10
code RightBracket = 11
code LeftBrace = 12
code RightBrace = 13
code DotSign = 14
code TypeWord = 15
code ArrowSign = 16
code BackSign = 17
code EqualSign = 18
code BlankSign = 19
code EndSign = 20

-- the sign that must come
abbrev pub expect : Sign → Kind → State → State
expect m (Mark k) next = if code m == code k then next else Refused
expect m (Ident p) next = Refused

-- ---- trees

abbrev pub add_atom : Atoms → Span → Expr → Atoms
add_atom NoAtoms s e = SomeAtoms s e NoArgs
add_atom (SomeAtoms t h xs) s e = SomeAtoms (join t s) h (ThenArg xs e)

abbrev pub bound : Span → Binding → Expr → Expr
bound s (PiOf x a) b = PiExpr s x a b
bound s (LamOf x) b = LamExpr s x b
bound s (TypedLamOf x a) b = TypedLamExpr s x a b

abbrev pub typed : Brace → Binder → Expr → Binding
typed Curly x a = PiOf x a
typed Square x a = TypedLamOf x a

abbrev pub left_sign : Brace → Sign
left_sign Curly = LeftBrace
left_sign Square = LeftBracket

abbrev pub right_sign : Brace → Sign
right_sign Curly = RightBrace
right_sign Square = RightBracket

-- an operand that is a binder behind atoms
abbrev pub last_span : Atoms → Span → Span
last_span NoAtoms s = s
last_span (SomeAtoms t h xs) s = join t s

abbrev pub last_tree : Atoms → Span → Expr → Expr
last_tree NoAtoms s e = e
last_tree (SomeAtoms t h xs) s e = AppExpr (join t s) h (ThenArg xs e)

-- a row with one more operand
abbrev pub row_span : Row → Span → Span
row_span Plain s = s
row_span AfterArrow s = s
row_span (AfterBack t r) s = join t s

abbrev pub row_tree : Row → Span → Expr → Expr
row_tree Plain s e = e
row_tree AfterArrow s e = e
row_tree (AfterBack t r) s e = BackExpr (join t s) r e

-- ---- steps

-- an expression begins
abbrev pub at_expr : ℕ → Waiting → State
at_expr n k = AtOperand n Plain NoAtoms k

abbrev pub at_module : Kind → State
at_module (Mark SigWord) = ExpectName (λ x. Expect EqualSign (Expect LeftBrace (AtDecl x [])))
at_module (Mark ViewWord) =
    ExpectName (λ x. Expect ColonSign (ExpectName (λ y. Expect ArrowSign (ExpectName (λ z. Expect EqualSign (Expect LeftBrace (AtAssign (InView x y z) [])))))))
at_module _ = Refused

abbrev pub at_decl : Simple → List Decl → Span → Kind → State
at_decl x ds s (Mark IncludeWord) = ExpectName (λ y. Expect DotSign (AtDecl x (ds ++ (IncludeDecl (as_written y) ∷ []))))
at_decl x ds s (Mark StructWord) = ExpectName (λ y. Expect ColonSign (ExpectName (λ z. AfterDomain x ds y z)))
at_decl x ds s (Mark RightBrace) = Expect DotSign (Expect EndSign (Whole (ModuleTree (SigModule (as_written x) ds))))
at_decl x ds s (Ident (n ∷ [])) = Expect ColonSign (at_expr 1 (Ends (ClassOf x ds (record { at = s; name = n }))))
at_decl x ds s _ = Refused

abbrev pub after_domain : Simple → List Decl → Simple → Simple → Kind → State
after_domain x ds y z (Mark DotSign) = AtDecl x (ds ++ (StructDecl (as_written y) (as_written z) [] ∷ []))
after_domain x ds y z (Mark EqualSign) = Expect LeftBrace (AtAssign (InStruct x ds y z) [])
after_domain x ds y z _ = Refused

-- behind the brace that ends the assignments
abbrev pub close_owner : Owner → List Assign → State
close_owner (InStruct x ds y z) xs = Expect DotSign (AtDecl x (ds ++ (StructDecl (as_written y) (as_written z) xs ∷ [])))
close_owner (InView x y z) xs = Expect DotSign (Expect EndSign (Whole (ModuleTree (ViewModule (as_written x) (as_written y) (as_written z) xs))))

abbrev pub at_morph : (List Written → State) → State
at_morph done = ExpectPath (λ w. MoreWords (w ∷ []) done)

abbrev pub at_assign : Owner → List Assign → Span → Kind → State
at_assign o xs s (Mark IncludeWord) = at_morph (λ ws. AtAssign o (xs ++ (IncludeAssign ws ∷ [])))
at_assign o xs s (Mark StructWord) = ExpectPath (λ t. Expect AssignSign (at_morph (λ ws. AtAssign o (xs ++ (StructAssign t ws ∷ [])))))
at_assign o xs s (Mark RightBrace) = close_owner o xs
at_assign o xs s (Ident p) = Expect AssignSign (at_expr 1 (Ends (ValueFor o xs (written s p))))
at_assign o xs s _ = Refused

abbrev pub more_words : List Written → (List Written → State) → Span → Kind → State
more_words ws done s (Mark DotSign) = done ws
more_words ws done s (Ident p) = MoreWords (ws ++ (written s p ∷ [])) done
more_words ws done s _ = Refused

-- behind a whole expression that has a purpose
abbrev pub class_ends : Simple → List Decl → Simple → Expr → Kind → State
class_ends x ds c e (Mark DotSign) = AtDecl x (ds ++ (ConstDecl (as_written c) e None ∷ []))
class_ends x ds c e (Mark EqualSign) = at_expr 1 (Ends (ValueOf x ds c e))
class_ends x ds c e _ = Refused

abbrev pub purpose_ends : Purpose → Expr → Kind → State
purpose_ends (ClassOf x ds c) e kind = class_ends x ds c e kind
purpose_ends (ValueOf x ds c a) e kind = expect DotSign kind (AtDecl x (ds ++ (ConstDecl (as_written c) a (Some e) ∷ [])))
purpose_ends (ValueFor o xs t) e kind = expect DotSign kind (AtAssign o (xs ++ (ConstAssign t e ∷ [])))
purpose_ends ObjectOf e kind = expect ColonSign kind (at_expr 1 (Ends (FamilyOf e)))
purpose_ends (FamilyOf o) e kind = expect EndSign kind (Whole (JudgementTree (record { object = o; family = e })))

-- an expression that is whole, and the token behind it
unfoldable pub resume : Waiting → Span → Expr → Token → State
resume (Ends p) s e t = purpose_ends p e t.kind
resume (InParens l n row xs k) s e t = expect RightParen t.kind (AtOperand n row (add_atom xs (join l t.span) e) k)
resume (InDomain b l x n row xs k) s e t = expect (right_sign b) t.kind (at_expr (n + 1) (InBody l (typed b x e) row xs k))
resume (InBody l b row xs k) s e t =
    resume k (row_span row (last_span xs (join l s))) (row_tree row (last_span xs (join l s)) (last_tree xs (join l s) (bound (join l s) b e))) t
resume (InCodomain a d k) s e t = resume k (join a s) (ArrowExpr (join a s) d e) t

-- an operand that is whole, and the token behind it
abbrev pub operand_ends : Row → Atoms → Waiting → Token → State
operand_ends row NoAtoms k t = Refused
operand_ends row (SomeAtoms s h xs) k t = resume k (row_span row s) (row_tree row s (applied s h xs)) t

abbrev pub arrow_move : ℕ → Row → Atoms → Waiting → State
arrow_move n row NoAtoms k = Refused
arrow_move n Plain (SomeAtoms s h xs) k = AtOperand (n + 1) AfterArrow NoAtoms (InCodomain s (applied s h xs) k)
arrow_move n AfterArrow (SomeAtoms s h xs) k = AtOperand (n + 1) AfterArrow NoAtoms (InCodomain s (applied s h xs) k)
arrow_move n (AfterBack r b) (SomeAtoms s h xs) k = Refused

abbrev pub back_move : ℕ → Row → Atoms → Waiting → State
back_move n row NoAtoms k = Refused
back_move n Plain (SomeAtoms s h xs) k = AtOperand (n + 1) (AfterBack s (applied s h xs)) NoAtoms k
back_move n AfterArrow (SomeAtoms s h xs) k = Refused
back_move n (AfterBack r b) (SomeAtoms s h xs) k = AtOperand (n + 1) (AfterBack (join r s) (BackExpr (join r s) b (applied s h xs))) NoAtoms k

abbrev pub at_operand : ℕ → Row → Atoms → Waiting → Span → Kind → State
at_operand n row xs k s (Ident p) = AtOperand n row (add_atom xs s (NameExpr s p)) k
at_operand n row xs k s (Mark TypeWord) = AtOperand n row (add_atom xs s (TypeExpr s)) k
at_operand n row xs k s (Mark LeftParen) = at_expr (n + 1) (InParens s n row xs k)
at_operand n row xs k s (Mark LeftBrace) = AtVariable Curly s n row xs k
at_operand n row xs k s (Mark LeftBracket) = AtVariable Square s n row xs k
at_operand n row xs k s (Mark ArrowSign) = arrow_move n row xs k
at_operand n row xs k s (Mark BackSign) = back_move n row xs k
at_operand n row xs k s (Mark m) = operand_ends row xs k (record { span = s; kind = Mark m })

abbrev pub at_variable : Brace → Span → ℕ → Row → Atoms → Waiting → Kind → State
at_variable b l n row xs k (Mark BlankSign) = AfterVariable b l None n row xs k
at_variable b l n row xs k (Ident (x ∷ [])) = AfterVariable b l (Some x) n row xs k
at_variable b l n row xs k _ = Refused

abbrev pub after_variable : Brace → Span → Binder → ℕ → Row → Atoms → Waiting → Kind → State
after_variable b l x n row xs k (Mark ColonSign) = at_expr (n + 1) (InDomain b l x n row xs k)
after_variable Square l x n row xs k (Mark RightBracket) = at_expr (n + 1) (InBody l (LamOf x) row xs k)
after_variable b l x n row xs k _ = Refused

abbrev pub expect_name : (Simple → State) → Span → Kind → State
expect_name f s (Ident (n ∷ [])) = f (record { at = s; name = n })
expect_name f s _ = Refused

abbrev pub expect_path : (Written → State) → Span → Kind → State
expect_path f s (Ident p) = f (written s p)
expect_path f s (Mark m) = Refused

abbrev pub step : State → Token → State
step Refused t = Refused
step (Whole tree) t = Refused
step (Expect m next) t = expect m t.kind next
step (ExpectName f) t = expect_name f t.span t.kind
step (ExpectPath f) t = expect_path f t.span t.kind
step (MoreWords ws done) t = more_words ws done t.span t.kind
step AtModule t = at_module t.kind
step (AtDecl x ds) t = at_decl x ds t.span t.kind
step (AfterDomain x ds y z) t = after_domain x ds y z t.kind
step (AtAssign o xs) t = at_assign o xs t.span t.kind
step (AtOperand n row xs k) t = at_operand n row xs k t.span t.kind
step (AtVariable b l n row xs k) t = at_variable b l n row xs k t.kind
step (AfterVariable b l x n row xs k) t = after_variable b l x n row xs k t.kind

-- ---- nestings

-- the token begins an atom or a binder
abbrev pub begins_operand : Kind → Bool
begins_operand (Ident p) = true
begins_operand (Mark TypeWord) = true
begins_operand (Mark LeftParen) = true
begins_operand (Mark LeftBrace) = true
begins_operand (Mark LeftBracket) = true
begins_operand (Mark m) = false

-- the nesting at which a token stands
abbrev pub level : State → Kind → Nesting
level (AtOperand n row xs k) kind = if begins_operand kind then Some n else None
level _ kind = None

-- ---- runs

unfoldable pub run : State → List Token → State
run s [] = s
run s (t ∷ ts) = run (step s t) ts

unfoldable pub levels : State → List Token → List Nesting
levels s [] = []
levels s (t ∷ ts) = level s t.kind ∷ levels (step s t) ts

abbrev pub is_refused : State → Bool
is_refused Refused = true
is_refused _ = false

-- a declaration or an assignment could begin
abbrev pub takes_include : State → Bool
takes_include (AtDecl x ds) = true
takes_include (AtAssign o xs) = true
takes_include _ = false

-- a `{` and a variable stand directly before
abbrev pub is_bare_binder : State → Bool
is_bare_binder (AfterVariable Curly l x n row xs k) = true
is_bare_binder _ = false

-- a token that is refused is one that this profile leaves out
abbrev pub is_left_out : State → Kind → Bool
is_left_out s (Mark OtherWord) = true
is_left_out s (Mark BlankSign) = true
is_left_out s (Mark SigWord) = takes_include s
is_left_out s (Mark ViewWord) = takes_include s
is_left_out s (Mark RightBrace) = is_bare_binder s
is_left_out s _ = false

abbrev pub fault : State → Token → Answer
fault s t = if is_left_out s t.kind then Unsupported t.span.from else Syntax t.span.from

-- the answer to the tokens that follow
abbrev pub answer_at_end : State → Answer
answer_at_end (Whole tree) = Read tree
answer_at_end _ = Syntax 0

unfoldable pub answer_on : State → List Token → Answer
answer_on s [] = answer_at_end s
answer_on s (t ∷ ts) = elim (is_refused (step s t)) [
  | true ↦ fault s t
  | false ↦ elim (is_too_deep (level s t.kind)) [
    | true ↦ TooDeep t.span.from
    | false ↦ answer_on (step s t) ts
  ]
]

abbrev pub start : Target → State
start ModuleText = AtModule
start JudgementText = at_expr 1 (Ends ObjectOf)

-- the answer to tokens with the end of the input behind them
unfoldable pub parse : Target → List Token → Answer
parse target ts = answer_on (start target) ts
