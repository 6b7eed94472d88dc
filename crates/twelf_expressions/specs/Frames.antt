-- What the stack of a reader stands for: an operand of the machine, and what waits for it.
use Rattle.std.specs.Prelude.{◌≡◌, ℕ, ◌+◌, Option, Some, None, Result, Ok, Err, List, fold}
use Rattle.text_meaning.specs.Tokens.{Token}
use Rattle.text_meaning.specs.Tokens as tokens
use Rattle.text_meaning.specs.Trees as trees
use Rattle.text_meaning.specs.Grammar.{join}
use Rattle.text_meaning.specs.Reading.{Answer}
use Rattle.text_meaning.specs.Parsing.{Waiting, InParens, InDomain, InBody, InCodomain, State, AtOperand, PiOf, LamOf, TypedLamOf, answer_on, at_expr, resume}
use Rattle.text_meaning.specs.Parsing as parsing
use Rattle.mmt_syntax.specs.Readings.{read_span, read_binder, read_expr, read_arguments, expressions_of}
use Rattle.twelf_expressions.specs.Going.{Fails, answer_with}
use Rattle.twelf_expressions.specs.declared.fault.ReadFault.{ReadFault}
use Rattle.twelf_expressions.specs.declared.frame.Spelled.{Spelled}
use Rattle.twelf_expressions.specs.declared.frame.Row.{Row}
use Rattle.twelf_expressions.specs.declared.frame.Row.TheVariants as rows
use Rattle.twelf_expressions.specs.declared.frame.Atoms.{Atoms}
use Rattle.twelf_expressions.specs.declared.frame.Operand.{Operand}
use Rattle.twelf_expressions.specs.declared.frame.Brace.{Brace}
use Rattle.twelf_expressions.specs.declared.frame.Brace.TheVariants as braces
use Rattle.twelf_expressions.specs.declared.frame.Binding.{Binding}
use Rattle.twelf_expressions.specs.declared.frame.Binding.TheVariants as bindings
use Rattle.twelf_expressions.specs.declared.frame.Opening.{Opening}
use Rattle.twelf_expressions.specs.declared.frame.Opening.TheVariants as openings
use Rattle.twelf_expressions.specs.declared.frame.Frame.{Frame}
use Rattle.twelf_expressions.specs.declared.frame.Frame.TheVariants as frames
use Rattle.twelf_expressions.specs.declared.frame.Stack.{Stack}

-- An expression takes this span and has this tree.
pub record IsSpelled (w : Spelled) (s : tokens.Span) (e : trees.Expr) : Type 0 where
  pub span : read_span w.span ≡ s
  pub tree : read_expr w.tree ≡ e

abbrev pub read_row : Row → parsing.Row
read_row rows.Plain = parsing.Plain
read_row rows.AfterArrow = parsing.AfterArrow
read_row (rows.AfterBack w) = parsing.AfterBack (read_span w.span) (read_expr w.tree)

abbrev pub read_some_atoms : Atoms → parsing.Atoms
read_some_atoms a = parsing.SomeAtoms (read_span a.span) (read_expr a.head) (read_arguments (expressions_of a.args))

abbrev pub read_atoms : Option Atoms → parsing.Atoms
read_atoms None = parsing.NoAtoms
read_atoms (Some a) = read_some_atoms a

abbrev pub read_brace : Brace → parsing.Brace
read_brace braces.Curly = parsing.Curly
read_brace braces.Square = parsing.Square

abbrev pub read_binding : Binding → parsing.Binding
read_binding (bindings.Pi x a) = PiOf (read_binder x) (read_expr a.value)
read_binding (bindings.Lam x) = LamOf (read_binder x)
read_binding (bindings.TypedLam x a) = TypedLamOf (read_binder x) (read_expr a.value)

-- What an operand is to the machine, its nesting, its row and its atoms, with what waits for it.
abbrev pub of_operand : {A : Type 0} → (ℕ → parsing.Row → parsing.Atoms → Waiting → A) → Operand → Waiting → A
of_operand f o k = f o.level.n (read_row o.row) (read_atoms o.atoms) k

-- What opens before an expression waits for it, in an operand.
abbrev pub opened : Opening → ℕ → parsing.Row → parsing.Atoms → Waiting → Waiting
opened (openings.Parens l) n row xs k = InParens (read_span l) n row xs k
opened (openings.Domain b l x) n row xs k = InDomain (read_brace b) (read_span l) (read_binder x) n row xs k
opened (openings.Body l b) n row xs k = InBody (read_span l) (read_binding b) row xs k

-- that expression begins, one nesting deeper
abbrev pub inside : Opening → ℕ → parsing.Row → parsing.Atoms → Waiting → State
inside p n row xs k = at_expr (n + 1) (opened p n row xs k)

-- A frame waits for an expression, in front of what waits behind it.
abbrev pub waits : Waiting → Frame → Waiting
waits k (frames.Open p o) = of_operand (opened p) o k
waits k (frames.Codomain w) = InCodomain (read_span w.span) (read_expr w.tree) k

-- Frames wait in front of what waits behind them all, the last one first.
abbrev pub waiting : Waiting → List Frame → Waiting
waiting k fs = fold waits k fs

-- The same of the operand of a stack.
abbrev pub of_stack : {A : Type 0} → (ℕ → parsing.Row → parsing.Atoms → Waiting → A) → Stack → Waiting → A
of_stack f s k = of_operand f s.operand (waiting k s.frames.items)

-- the state before the next token of the operand
abbrev pub stands : Stack → Waiting → State
stands s k = of_stack AtOperand s k

-- the answer where an expression is whole and the next token resumes what waits for it
abbrev pub answer_resumed : Waiting → Spelled → List Token → Answer
answer_resumed k w ts = answer_with (λ t. resume k (read_span w.span) (read_expr w.tree) t) ts

-- What a turn of the reader comes to: another operand, or a whole expression that nothing in the stack waits for.
abbrev pub Turned : Answer → Result (Option Spelled) ReadFault → Waiting → Stack → List Token → Type 0
Turned answer (Ok None) k s ts = answer ≡ answer_on (stands s k) ts
Turned answer (Ok (Some w)) k s ts = answer ≡ answer_resumed k w ts
Turned answer (Err f) k s ts = Fails f answer

-- A binder with its body, behind the atoms of its operand, in its row.
abbrev pub IsBody : tokens.Span → parsing.Binding → Operand → Spelled → Spelled → Type 0
IsBody left binding o body w =
    let s = parsing.last_span (read_atoms o.atoms) (join left (read_span body.span)) in
    let e = parsing.last_tree (read_atoms o.atoms) (join left (read_span body.span)) (parsing.bound (join left (read_span body.span)) binding (read_expr body.tree)) in
    IsSpelled w (parsing.row_span (read_row o.row) s) (parsing.row_tree (read_row o.row) s e)
