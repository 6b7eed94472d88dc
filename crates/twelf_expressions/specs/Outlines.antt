-- What a reader that passes over an expression keeps of it, and what this says of the machine.
use Rattle.std.specs.Prelude.{◌≡◌, ℕ, ◌+◌, Bool, true, false, List, [], ◌∷◌, reverse, Result, Ok, Err}
use Rattle.text_meaning.specs.Tokens.{Kind, Mark, Ident, Token, RightParen, TypeWord}
use Rattle.text_meaning.specs.Tokens as tokens
use Rattle.text_meaning.specs.Trees.{Expr}
use Rattle.text_meaning.specs.Grammar.{join}
use Rattle.text_meaning.specs.Reading.{Answer}
use Rattle.text_meaning.specs.Parsing.{Atoms, NoAtoms, SomeAtoms, Row, Plain, AfterArrow, AfterBack, Purpose, Waiting, Ends, InParens, InDomain, InBody, InCodomain, State, AtOperand, add_atom, answer_on, at_expr, expect, operand_ends, purpose_ends, right_sign}
use Rattle.twelf_expressions.specs.Going.{Fails, answer_with}
use Rattle.twelf_expressions.specs.Frames.{read_brace}
use Rattle.twelf_expressions.specs.declared.fault.ReadFault.{ReadFault}
use Rattle.twelf_expressions.specs.declared.level.Level.{Level}
use Rattle.twelf_expressions.specs.declared.frame.Brace.{Brace}
use Rattle.twelf_expressions.specs.declared.outline.Stand.{Stand}
use Rattle.twelf_expressions.specs.declared.outline.Stand.TheVariants as stands
use Rattle.twelf_expressions.specs.declared.outline.Bracket.{Bracket}
use Rattle.twelf_expressions.specs.declared.outline.Bracket.TheVariants as brackets
use Rattle.twelf_expressions.specs.declared.outline.Open.{Open}

-- an arrow may follow an operand; a back arrow may
abbrev pub takes_arrow : (begun : Bool) → Stand → Bool
takes_arrow false stand = false
takes_arrow true stands.Plain = true
takes_arrow true stands.AfterArrow = true
takes_arrow true stands.AfterBack = false

abbrev pub takes_back_arrow : (begun : Bool) → Stand → Bool
takes_back_arrow false stand = false
takes_back_arrow true stands.Plain = true
takes_back_arrow true stands.AfterArrow = false
takes_back_arrow true stands.AfterBack = true

-- a token that is an atom by itself
abbrev pub is_atom : Kind → Bool
is_atom (Ident p) = true
is_atom (Mark TypeWord) = true
is_atom (Mark m) = false

-- what is kept of a row and of atoms
abbrev pub stand_of : Row → Stand
stand_of Plain = stands.Plain
stand_of AfterArrow = stands.AfterArrow
stand_of (AfterBack s e) = stands.AfterBack

abbrev pub has_atoms : Atoms → Bool
has_atoms NoAtoms = false
has_atoms (SomeAtoms s h xs) = true

-- What waits for an expression that has this purpose: these brackets are open before it, the innermost first.
unfoldable pub Waits : Purpose → List Bracket → Waiting → Type 0
Waits p bs (Ends q) = (q ≡ p) × (bs ≡ [])
Waits p bs (InParens l n row xs k) = (level : Level) × (rest : List Bracket) × (bs ≡ brackets.Parens level (stand_of row) ∷ rest) × (n ≡ level.n) × Waits p rest k
Waits p bs (InDomain b l x n row xs k) = (brace : Brace) × (level : Level) × (rest : List Bracket) × (bs ≡ brackets.Domain brace level ∷ rest) × (b ≡ read_brace brace) × (n ≡ level.n) × Waits p rest k
Waits p bs (InBody l b row xs k) = Waits p bs k
Waits p bs (InCodomain a d k) = Waits p bs k

-- the brackets of a stack, the innermost first
abbrev pub inward : Open → List Bracket
inward stack = reverse stack.brackets.items

-- An answer is that at an operand which is passed over, or behind it, as a function of it says.
pub record Stands (p : Purpose) (f : ℕ → Row → Atoms → Waiting → List Token → Answer) (answer : Answer) (stack : Open) (ts : List Token) : Type 0 where
  pub row : Row
  pub atoms : Atoms
  pub waiting : Waiting
  pub row_is : stand_of row ≡ stack.operand.stand
  pub atoms_is : has_atoms atoms ≡ stack.operand.begun
  pub waits : Waits p (inward stack) waiting
  pub goes : answer ≡ f stack.operand.level.n row atoms waiting ts

-- the answer at the operand; behind it, where it ends; at the variable of a binder
abbrev pub at_operand : ℕ → Row → Atoms → Waiting → List Token → Answer
at_operand n row xs k ts = answer_on (AtOperand n row xs k) ts

abbrev pub behind_operand : ℕ → Row → Atoms → Waiting → List Token → Answer
behind_operand n row xs k ts = answer_with (λ t. operand_ends row xs k t) ts

-- What is said of the value holds, or the fault is this answer.
abbrev pub Passes : {X : Type 0} → Answer → Result X ReadFault → (X → Type 0) → Type 0
Passes answer (Ok x) Holds = Holds x
Passes answer (Err f) Holds = Fails f answer

-- The machine goes on as behind an expression for this purpose.
pub record IsBehind (p : Purpose) (answer : Answer) (ts : List Token) : Type 0 where
  pub tree : Expr
  pub goes : answer ≡ answer_with (λ t. purpose_ends p tree t.kind) ts

-- The same, where it is whole, or at an operand that is passed over.
abbrev pub Turns : Purpose → Answer → Open → List Token → Bool → Type 0
Turns p answer stack ts true = IsBehind p answer ts
Turns p answer stack ts false = Stands p at_operand answer stack ts

-- A token of a whole expression leads to a state: behind the expression, or behind the innermost bracket.
abbrev pub Resumes : Purpose → (Token → State) → List Bracket → Type 0
Resumes p f [] = (e : Expr) × ((t : Token) → f t ≡ purpose_ends p e t.kind)
Resumes p f (brackets.Parens level stand ∷ bs) =
    (row : Row) × (xs : Atoms) × (k : Waiting) × (l : tokens.Span) × (e : Expr) × ((t : Token) → f t ≡ expect RightParen t.kind (AtOperand level.n row (add_atom xs (join l t.span) e) k)) × (stand_of row ≡ stand) × Waits p bs k
Resumes p f (brackets.Domain brace level ∷ bs) =
    (k : Waiting) × ((t : Token) → f t ≡ expect (right_sign (read_brace brace)) t.kind (at_expr (level.n + 1) k)) × Waits p bs k
