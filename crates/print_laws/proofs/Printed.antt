-- What is printed spells what was printed.
use Rattle.std.proofs.Common.{◌≡◌, ℕ, true, List, [], length, refl, sym, ap, ◌∙◌, subst}
use Rattle.text_meaning.specs.Tokens.{Token}
use Rattle.text_meaning.specs.Cut.{Tokens, IsLexed}
use Rattle.text_meaning.specs.Trees.{Expr, Module}
use Rattle.text_meaning.specs.Reading.{spells_module, nesting}
use Rattle.text_meaning.specs.UpToSpans.{IsSameModule, IsSameExpr}
use Rattle.print_meaning.specs.PrintedItems.{tight, text_of, tokens_of}
use Rattle.print_meaning.specs.PrintedExpressions.{expr_items}
use Rattle.print_meaning.specs.PrintedModules.{module_items, module_text, expr_text}
use Rattle.print_laws.specs.PrintLaws.{IsSpelledModule, IsSpelledExpr, SpellsBack, SpellsBackExpr}
use Rattle.print_laws.proofs.LaidOut.{laid_whole, laid_utf8}
use Rattle.print_laws.proofs.Writable.{AreValid, cut_valid}
use Rattle.print_laws.proofs.WellWritten.{IsWellWritten, IsWrittenModule, expr_written, module_written, end_valid}
use Rattle.print_laws.proofs.LaidExpressions.{expr_laid, no_gap}
use Rattle.print_laws.proofs.LaidModules.{module_laid}
use Rattle.print_laws.proofs.SpelledExpressions.{forms}
use Rattle.print_laws.proofs.SpelledModules.{module_at}
use Rattle.print_laws.proofs.BareItems.{bare_items, bare_module_items}

-- the tokens of a text that spells something are writable
pub valid_tokens : (text : List ℕ) (ts : List Token) (end : ℕ) → IsLexed text (Tokens ts end) → AreValid ts
valid_tokens text ts end l = cut_valid text l.1 l.0

-- the text of a well-written module is cut into its items, and that of a well-written expression
lexed_module : (m : Module) → IsWrittenModule m → IsLexed (text_of (module_items m)) (Tokens (tokens_of 0 (module_items m)) (length (text_of (module_items m))))
lexed_module m w = let laid = module_laid m w in (laid_utf8 (module_items m) [] laid, laid_whole (module_items m) laid)

lexed_expression : (e : Expr) → IsWellWritten e → IsLexed (text_of (expr_items true e tight)) (Tokens (tokens_of 0 (expr_items true e tight)) (length (text_of (expr_items true e tight))))
lexed_expression e w =
    let laid = expr_laid true e tight [] w no_gap refl in
    (laid_utf8 (expr_items true e tight) [] laid, laid_whole (expr_items true e tight) laid)

-- items do not depend on spans
pub same_module_items : (m k : Module) → IsSameModule m k → module_items m ≡ module_items k
same_module_items m k h = sym (bare_module_items m) ∙ ap module_items h ∙ bare_module_items k

pub same_items : (e f : Expr) → IsSameExpr e f → expr_items true e tight ≡ expr_items true f tight
same_items e f h = sym (bare_items true e tight) ∙ ap (λ t. expr_items true t tight) h ∙ bare_items true f tight

-- the trees that texts spell are well written
tree_written : {m : Module} (s : IsSpelledModule m) → IsWrittenModule s.tree
tree_written s = module_written s.spells.3 (end_valid s.spells.0 s.spells.1 (valid_tokens s.text s.spells.0 s.spells.1 s.spells.2))

pub spelled_written : {e : Expr} (s : IsSpelledExpr e) → IsWellWritten s.tree
spelled_written s = expr_written s.spells.4 (valid_tokens s.text s.spells.0 s.spells.1 s.spells.3)

-- what is printed is cut into its items
pub module_lexed : (m : Module) → IsSpelledModule m → IsLexed (module_text m) (Tokens (tokens_of 0 (module_items m)) (length (text_of (module_items m))))
unfolding module_text
module_lexed m s =
    subst (λ is. IsLexed (text_of is) (Tokens (tokens_of 0 is) (length (text_of is)))) (same_module_items s.tree m s.same) (lexed_module s.tree (tree_written s))

pub expression_lexed : (e : Expr) → IsSpelledExpr e → IsLexed (expr_text e) (Tokens (tokens_of 0 (expr_items true e tight)) (length (text_of (expr_items true e tight))))
unfolding expr_text
expression_lexed e s =
    subst (λ is. IsLexed (text_of is) (Tokens (tokens_of 0 is) (length (text_of is)))) (same_items s.tree e s.same) (lexed_expression s.tree (spelled_written s))

-- ---- modules

spelled_back : (m : Module) → IsWrittenModule m → SpellsBack (module_text m) m
unfolding module_text nesting
spelled_back m w =
    let last : ℕ = length (text_of (module_items m)) in
    let at = module_at 0 last m w in
    let lexed = lexed_module m w in
    record {
      tokens = tokens_of 0 (module_items m);
      end = last;
      tree = at.tree;
      lexed = lexed;
      spells = at.spells;
      same = at.same;
      reads = λ shallow. (Tokens (tokens_of 0 (module_items m)) last, lexed, (spells_module at.spells, shallow));
    }

pub printed_modules : (m : Module) → IsSpelledModule m → SpellsBack (module_text m) m
unfolding module_text
printed_modules m s =
    let back = spelled_back s.tree (tree_written s) in
    subst (λ is. SpellsBack (text_of is) m) (same_module_items s.tree m s.same)
    (record { tokens = back.tokens; end = back.end; tree = back.tree; lexed = back.lexed; spells = back.spells; same = back.same ∙ s.same; reads = back.reads })

-- ---- expressions

-- a well-written expression
pub expression_back : (e : Expr) → IsWellWritten e → SpellsBackExpr (expr_text e) e
unfolding expr_text
expression_back e w =
    let at = (forms e w).whole 0 tight in
    record {
      tree = at.tree;
      spells = (tokens_of 0 (expr_items true e tight), length (text_of (expr_items true e tight)), at.span, lexed_expression e w, at.spells);
      same = at.same;
    }

pub printed_expressions : (e : Expr) → IsSpelledExpr e → SpellsBackExpr (expr_text e) e
unfolding expr_text
printed_expressions e s =
    let back = expression_back s.tree (spelled_written s) in
    subst (λ is. SpellsBackExpr (text_of is) e) (same_items s.tree e s.same) (record { tree = back.tree; spells = back.spells; same = back.same ∙ s.same })
