-- What a reader answers to the tokens of a text, the end of the input behind them: the one tree that they spell,
-- or the place where reading stops (this profile).
use Rattle.std.specs.Prelude.{◌≡◌, ℕ, ◌==◌, Bool, false, List, [], ◌∷◌, ◌++◌, length, take, Some, None, ◌⊎◌}
use Rattle.std.specs.List.{list_any}
use Rattle.text_meaning.specs.Tokens.{Span, Mark, Token, sign, SigWord, ViewWord, IncludeWord, OtherWord, LeftBrace, RightBrace, BlankSign, EndSign}
use Rattle.text_meaning.specs.Cut.{Lexed, Tokens, NotUtf8, OpenComment, IsLexed}
use Rattle.text_meaning.specs.Trees.{Binder, Expr, Module, Judgement}
use Rattle.text_meaning.specs.Grammar.{SpellsBinder, SpellsExpr, SpellsModule, SpellsJudgement}
use Rattle.text_meaning.specs.Nesting.{Nesting, module_nesting, judgement_nesting}

-- what a text is read as
pub data Target : Type 0 where
  ModuleText : Target
  JudgementText : Target

pub data Tree : Type 0 where
  ModuleTree : Module → Tree
  JudgementTree : Judgement → Tree

pub data Spells : Target → List Token → Tree → Type 0 where
  spells_module : {ts : List Token} {m : Module} → SpellsModule ts m → Spells ModuleText ts (ModuleTree m)
  spells_judgement : {ts : List Token} {j : Judgement} → SpellsJudgement ts j → Spells JudgementText ts (JudgementTree j)

unfoldable pub nesting : {target : Target} {ts : List Token} {t : Tree} → Spells target ts t → List Nesting
nesting (spells_module d) = module_nesting d
nesting (spells_judgement d) = judgement_nesting d

-- Some spelled text begins with these tokens, and there they stand at these nestings.
pub record Begins (target : Target) (ts : List Token) (ns : List Nesting) : Type 0 where
  pub rest : List Token
  pub tree : Tree
  pub spells : Spells target (ts ++ rest) tree
  pub stands : take (length ts) (nesting spells) ≡ ns

-- Some spelled text begins with these tokens.
abbrev pub GoesOn : Target → List Token → Type 0
GoesOn target ts = (ns : List Nesting) × Begins target ts ns

-- An expression may stand at nesting 500, and no deeper.
abbrev pub is_too_deep : Nesting → Bool
is_too_deep None = false
is_too_deep (Some n) = n == 501

abbrev pub any_too_deep : List Nesting → Bool
any_too_deep ns = list_any is_too_deep ns

-- Reading stops at this token: it is the first that no spelled text has after the tokens before it,
-- and none of these stands too deep.
pub record StopsAt (target : Target) (input before : List Token) (t : Token) : Type 0 where
  pub rest : List Token
  pub parts : input ≡ before ++ (t ∷ rest)
  pub nestings : List Nesting
  pub begins : Begins target before nestings
  pub shallow : any_too_deep nestings ≡ false
  pub stops : ¬ (GoesOn target (before ++ (t ∷ [])))

-- A token at which reading stops is one that this profile leaves out, where it is
-- a percent word that no module has; `_`;
-- `%sig` or `%view` where a declaration or an assignment could begin, that is where `%include` could stand;
-- `}` directly after a `{` and a variable, where that brace begins a binder, that is where `_` could follow it.
pub data IsLeftOut (target : Target) (before : List Token) (t : Token) : Type 0 where
  other_word : t.kind ≡ Mark OtherWord → IsLeftOut target before t
  blank : t.kind ≡ Mark BlankSign → IsLeftOut target before t
  inner_module : (t.kind ≡ Mark SigWord) ⊎ (t.kind ≡ Mark ViewWord) → GoesOn target (before ++ (sign t.span IncludeWord ∷ []))
      → IsLeftOut target before t
  bare_binder : (front : List Token) (l : Span) (v : Token) (x : Binder) → t.kind ≡ Mark RightBrace
      → before ≡ front ++ (sign l LeftBrace ∷ v ∷ []) → SpellsBinder v x → GoesOn target (front ++ (sign l LeftBrace ∷ sign v.span BlankSign ∷ []))
      → IsLeftOut target before t

-- This token is the first at nesting 501, and a spelled text goes on with it.
pub record IsTooDeepAt (target : Target) (input before : List Token) (t : Token) : Type 0 where
  pub rest : List Token
  pub parts : input ≡ before ++ (t ∷ rest)
  pub nestings : List Nesting
  pub begins : Begins target (before ++ (t ∷ [])) (nestings ++ (Some 501 ∷ []))
  pub shallow : any_too_deep nestings ≡ false

pub data Answer : Type 0 where
  Read : Tree → Answer
  Syntax : (at : ℕ) → Answer
  TooDeep : (at : ℕ) → Answer
  Unsupported : (at : ℕ) → Answer

-- The answer to these tokens.
abbrev pub IsAnswer : Target → List Token → Answer → Type 0
IsAnswer target input (Read tree) = (d : Spells target input tree) × (any_too_deep (nesting d) ≡ false)
IsAnswer target input (Syntax at) = (before : List Token) × (t : Token) × StopsAt target input before t × (¬ (IsLeftOut target before t)) × (at ≡ t.span.from)
IsAnswer target input (TooDeep at) = (before : List Token) × (t : Token) × IsTooDeepAt target input before t × (at ≡ t.span.from)
IsAnswer target input (Unsupported at) = (before : List Token) × (t : Token) × StopsAt target input before t × IsLeftOut target before t × (at ≡ t.span.from)

-- the tokens of a text, and behind them the end of the input
abbrev pub with_end : List Token → ℕ → List Token
with_end ts end = ts ++ (sign (record { from = end; to = end }) EndSign ∷ [])

-- The answer to what a text is cut into: its faults are those of syntax, and nothing else in such a text is tested.
abbrev pub IsAnswerTo : Target → Lexed → Answer → Type 0
IsAnswerTo target (Tokens ts end) answer = IsAnswer target (with_end ts end) answer
IsAnswerTo target (NotUtf8 at) answer = answer ≡ Syntax at
IsAnswerTo target (OpenComment at) answer = answer ≡ Syntax at

-- The answer to a text.
abbrev pub Reads : Target → List ℕ → Answer → Type 0
Reads target text answer = (lexed : Lexed) × IsLexed text lexed × IsAnswerTo target lexed answer

-- The text spells this module; the text spells this expression and nothing else.
abbrev pub TextSpellsModule : List ℕ → Module → Type 0
TextSpellsModule text m = (ts : List Token) × (end : ℕ) × IsLexed text (Tokens ts end) × SpellsModule (with_end ts end) m

abbrev pub TextSpellsExpr : List ℕ → Expr → Type 0
TextSpellsExpr text e = (ts : List Token) × (end : ℕ) × (s : Span) × IsLexed text (Tokens ts end) × SpellsExpr ts s e
