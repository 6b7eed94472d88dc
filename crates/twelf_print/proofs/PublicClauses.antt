-- What the laws of printed texts say of a text that is such a one.
use Rattle.std.proofs.Common.{◌≡◌, ℕ, List, sym, subst}
use Rattle.text_meaning.specs.Trees.{Expr, Module}
use Rattle.print_meaning.specs.PrintedModules.{module_text, expr_text}
use Rattle.print_laws.specs.PrintLaws.{IsSpelledModule, IsSpelledExpr, SpellsBack, SpellsBackExpr, SpellsBackWithin}
use Rattle.print_laws.proofs.Printed.{printed_modules, printed_expressions}
use Rattle.print_laws.proofs.PrintedJudged.{printed_within}
use Rattle.parentheses_laws.specs.FewestParentheses.{HasFewestOfModule, HasFewestOfExpr}
use Rattle.parentheses_laws.proofs.Fewest.{fewest_in_modules, fewest_in_expressions}

pub module_spells : {text : List ℕ} {m : Module} → text ≡ module_text m → IsSpelledModule m → SpellsBack text m
module_spells {m = m} h s = subst (λ t. SpellsBack t m) (sym h) (printed_modules m s)

pub module_fewest : {text : List ℕ} {m : Module} → text ≡ module_text m → IsSpelledModule m → HasFewestOfModule text m
module_fewest {m = m} h s = subst (λ t. HasFewestOfModule t m) (sym h) (fewest_in_modules m s)

pub expr_spells : {text : List ℕ} {e : Expr} → text ≡ expr_text e → IsSpelledExpr e → SpellsBackExpr text e
expr_spells {e = e} h s = subst (λ t. SpellsBackExpr t e) (sym h) (printed_expressions e s)

pub expr_within : {text : List ℕ} {e : Expr} → text ≡ expr_text e → IsSpelledExpr e → SpellsBackWithin text e
expr_within {e = e} h s = subst (λ t. SpellsBackWithin t e) (sym h) (printed_within e s)

pub expr_fewest : {text : List ℕ} {e : Expr} → text ≡ expr_text e → IsSpelledExpr e → HasFewestOfExpr text e
expr_fewest {e = e} h s = subst (λ t. HasFewestOfExpr t e) (sym h) (fewest_in_expressions e s)
