-- What is printed spells the tree (this profile).
use Rattle.std.specs.Prelude.{◌≡◌, false, List, ◌++◌, ℕ, codes}
use Rattle.text_meaning.specs.Tokens.{Token}
use Rattle.text_meaning.specs.Cut.{Tokens, IsLexed}
use Rattle.text_meaning.specs.Trees.{Expr, Module, Judgement}
use Rattle.text_meaning.specs.Grammar.{SpellsModule, SpellsJudgement}
use Rattle.text_meaning.specs.Nesting.{module_nesting, judgement_nesting}
use Rattle.text_meaning.specs.Reading.{ModuleText, JudgementText, ModuleTree, JudgementTree, Read, any_too_deep, with_end, Reads, TextSpellsModule, TextSpellsExpr}
use Rattle.text_meaning.specs.UpToSpans.{IsSameModule, IsSameExpr}
use Rattle.print_meaning.specs.PrintedModules.{module_text, expr_text}
use Rattle.print_meaning.specs.PrintedJudgements.{judgement_text}

-- Some text spells the module, up to spans; some text spells the expression, up to spans.
pub record IsSpelledModule (m : Module) : Type 0 where
  pub text : List ℕ
  pub tree : Module
  pub spells : TextSpellsModule text tree
  pub same : IsSameModule tree m

pub record IsSpelledExpr (e : Expr) : Type 0 where
  pub text : List ℕ
  pub tree : Expr
  pub spells : TextSpellsExpr text tree
  pub same : IsSameExpr tree e

-- Two judgements are one up to spans.
pub record IsSameJudgement (j k : Judgement) : Type 0 where
  pub object : IsSameExpr j.object k.object
  pub family : IsSameExpr j.family k.family

-- Some text spells the judgement, up to spans.
pub record IsSpelledJudgement (j : Judgement) : Type 0 where
  pub text : List ℕ
  pub tokens : List Token
  pub end : ℕ
  pub tree : Judgement
  pub lexed : IsLexed text (Tokens tokens end)
  pub spells : SpellsJudgement (with_end tokens end) tree
  pub same : IsSameJudgement tree j

-- This text spells the module, up to spans; and where nothing in it stands deeper than 500, it is read as that tree.
pub record SpellsBack (text : List ℕ) (m : Module) : Type 0 where
  pub tokens : List Token
  pub end : ℕ
  pub tree : Module
  pub lexed : IsLexed text (Tokens tokens end)
  pub spells : SpellsModule (with_end tokens end) tree
  pub same : IsSameModule tree m
  pub reads : any_too_deep (module_nesting spells) ≡ false → Reads ModuleText text (Read (ModuleTree tree))

-- This text spells the expression and nothing else, up to spans.
pub record SpellsBackExpr (text : List ℕ) (e : Expr) : Type 0 where
  pub tree : Expr
  pub spells : TextSpellsExpr text tree
  pub same : IsSameExpr tree e

-- This text spells the judgement, up to spans; and where nothing in it stands deeper than 500, it is read as that judgement.
pub record SpellsBackJudgement (text : List ℕ) (j : Judgement) : Type 0 where
  pub tokens : List Token
  pub end : ℕ
  pub tree : Judgement
  pub lexed : IsLexed text (Tokens tokens end)
  pub spells : SpellsJudgement (with_end tokens end) tree
  pub same : IsSameJudgement tree j
  pub reads : any_too_deep (judgement_nesting spells) ≡ false → Reads JudgementText text (Read (JudgementTree tree))

-- Before a colon and the printed text of another expression, or behind them, this text spells the expression as a part of the
-- judgement, and where nothing in the judgement stands deeper than 500 it is read as that judgement.
pub record SpellsBackWithin (text : List ℕ) (e : Expr) : Type 0 where
  pub object : (f : Expr) → IsSpelledExpr f → SpellsBackJudgement (text ++ (codes " : " ++ expr_text f)) (record { object = e; family = f })
  pub family : (f : Expr) → IsSpelledExpr f → SpellsBackJudgement (expr_text f ++ (codes " : " ++ text)) (record { object = f; family = e })

-- A module that some text spells is printed as a text that spells it, and that is read again as that module where nothing in it
-- stands deeper than 500.
abbrev pub PrintedModulesAreRead : Type 0
PrintedModulesAreRead = (m : Module) → IsSpelledModule m → SpellsBack (module_text m) m

-- An expression that some text spells is printed as a text that spells it.
abbrev pub PrintedExpressionsSpell : Type 0
PrintedExpressionsSpell = (e : Expr) → IsSpelledExpr e → SpellsBackExpr (expr_text e) e

-- An expression that some text spells is printed as a text that is read again as that expression within a judgement, where
-- nothing in the judgement stands deeper than 500.
abbrev pub PrintedExpressionsAreReadWithin : Type 0
PrintedExpressionsAreReadWithin = (e : Expr) → IsSpelledExpr e → SpellsBackWithin (expr_text e) e

-- Two expressions that texts spell, printed with a colon between them, are a text that spells this judgement, and that is read
-- again as that judgement where nothing in it stands deeper than 500.
abbrev pub PrintedJudgementsAreRead : Type 0
PrintedJudgementsAreRead = (j : Judgement) → IsSpelledExpr j.object → IsSpelledExpr j.family → SpellsBackJudgement (judgement_text j) j

-- The two expressions of a judgement that some text spells are spelled by texts of their own.
abbrev pub JudgedExpressionsAreSpelled : Type 0
JudgedExpressionsAreSpelled = (j : Judgement) → IsSpelledJudgement j → IsSpelledExpr j.object × IsSpelledExpr j.family
