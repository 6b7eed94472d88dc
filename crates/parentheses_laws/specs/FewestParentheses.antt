-- How many parentheses a text has, and that no text which spells the same has fewer than the printed one (this profile).
use Rattle.std.specs.Prelude.{ℕ, ◌+◌, ◌≤◌, Bool, true, false, if◌then◌else◌, List, [], ◌∷◌}
use Rattle.text_meaning.specs.Tokens.{Span, Kind, Mark, Token, LeftParen, RightParen}
use Rattle.text_meaning.specs.Cut.{Tokens, IsLexed}
use Rattle.text_meaning.specs.Trees.{Expr, Module, Judgement}
use Rattle.text_meaning.specs.Grammar.{SpellsExpr, SpellsModule, SpellsJudgement}
use Rattle.text_meaning.specs.UpToSpans.{IsSameModule, IsSameExpr}
use Rattle.print_meaning.specs.PrintedModules.{module_text, expr_text}
use Rattle.print_meaning.specs.PrintedJudgements.{judgement_text}
use Rattle.print_laws.specs.PrintLaws.{IsSpelledModule, IsSpelledExpr, IsSameJudgement}

-- `(` or `)`
abbrev pub is_parenthesis : Kind → Bool
is_parenthesis (Mark LeftParen) = true
is_parenthesis (Mark RightParen) = true
is_parenthesis kind = false

-- how many parentheses stand among these tokens
unfoldable pub parentheses : List Token → ℕ
parentheses [] = 0
parentheses (t ∷ ts) = if is_parenthesis t.kind then 1 + parentheses ts else parentheses ts

-- The text is cut into tokens, and has no more parentheses than these other tokens.
pub record HasNoMoreParentheses (text : List ℕ) (others : List Token) : Type 0 where
  pub tokens : List Token
  pub end : ℕ
  pub lexed : IsLexed text (Tokens tokens end)
  pub no_more : parentheses tokens ≤ parentheses others

-- No tokens that spell the module, up to spans, have fewer parentheses than this text. So no text that spells it has fewer: its
-- tokens and the end of the input behind them are such tokens. The same of an expression and of a judgement.
abbrev pub HasFewestOfModule : List ℕ → Module → Type 0
HasFewestOfModule text m = (ts : List Token) (tree : Module) → SpellsModule ts tree → IsSameModule tree m → HasNoMoreParentheses text ts

abbrev pub HasFewestOfExpr : List ℕ → Expr → Type 0
HasFewestOfExpr text e = (ts : List Token) (s : Span) (tree : Expr) → SpellsExpr ts s tree → IsSameExpr tree e → HasNoMoreParentheses text ts

abbrev pub HasFewestOfJudgement : List ℕ → Judgement → Type 0
HasFewestOfJudgement text j = (ts : List Token) (tree : Judgement) → SpellsJudgement ts tree → IsSameJudgement tree j → HasNoMoreParentheses text ts

-- A module or an expression that some text spells has the fewest parentheses as it is printed; so have two such expressions
-- with a colon between them.
abbrev pub PrintedModulesHaveFewest : Type 0
PrintedModulesHaveFewest = (m : Module) → IsSpelledModule m → HasFewestOfModule (module_text m) m

abbrev pub PrintedExpressionsHaveFewest : Type 0
PrintedExpressionsHaveFewest = (e : Expr) → IsSpelledExpr e → HasFewestOfExpr (expr_text e) e

abbrev pub PrintedJudgementsHaveFewest : Type 0
PrintedJudgementsHaveFewest = (j : Judgement) → IsSpelledExpr j.object → IsSpelledExpr j.family → HasFewestOfJudgement (judgement_text j) j
