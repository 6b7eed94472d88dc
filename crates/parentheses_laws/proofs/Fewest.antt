-- What is printed has the fewest parentheses.
use Rattle.std.proofs.Common.{◌≡◌, ◌+◌, true, ◌∷◌, length, sym, ap, ◌∙◌, arith}
use Rattle.text_meaning.specs.Trees.{Expr, Module, Judgement}
use Rattle.text_meaning.specs.UpToSpans.{IsSameModule, IsSameExpr}
use Rattle.print_meaning.specs.PrintedItems.{tight, space, colon_item, text_of, tokens_of}
use Rattle.print_meaning.specs.PrintedExpressions.{expr_items}
use Rattle.print_meaning.specs.PrintedModules.{module_items, module_text, expr_text}
use Rattle.print_meaning.specs.PrintedJudgements.{judgement_text}
use Rattle.print_laws.specs.PrintLaws.{IsSpelledModule, IsSpelledExpr}
use Rattle.print_laws.proofs.Printed.{same_items, same_module_items, module_lexed, expression_lexed}
use Rattle.print_laws.proofs.PrintedJudged.{judged_items, judgement_lexed}
use Rattle.parentheses_laws.specs.FewestParentheses.{HasFewestOfModule, HasFewestOfExpr, HasFewestOfJudgement}
use Rattle.parentheses_laws.proofs.Costs.{cost, module_cost}
use Rattle.parentheses_laws.proofs.CostsOfItems.{item_parentheses, item_parentheses_append, token_parentheses, expr_items_cost, module_items_cost}
use Rattle.parentheses_laws.proofs.CheapestSpelling.{expr_costs}
use Rattle.parentheses_laws.proofs.CheapestModules.{module_costs, judgement_costs}

-- the cost does not depend on spans
same_cost : (e f : Expr) → IsSameExpr e f → cost true e ≡ cost true f
same_cost e f h = sym (expr_items_cost true e tight) ∙ ap item_parentheses (same_items e f h) ∙ expr_items_cost true f tight

same_module_cost : (m k : Module) → IsSameModule m k → module_cost m ≡ module_cost k
same_module_cost m k h = sym (module_items_cost m) ∙ ap item_parentheses (same_module_items m k h) ∙ module_items_cost k

pub fewest_in_modules : (m : Module) → IsSpelledModule m → HasFewestOfModule (module_text m) m
fewest_in_modules m s = λ ts tree d h. record {
  tokens = tokens_of 0 (module_items m);
  end = length (text_of (module_items m));
  lexed = module_lexed m s;
  no_more = omega (arith, token_parentheses 0 (module_items m), module_items_cost m, same_module_cost tree m h, module_costs d);
}

pub fewest_in_expressions : (e : Expr) → IsSpelledExpr e → HasFewestOfExpr (expr_text e) e
fewest_in_expressions e s = λ ts u tree d h. record {
  tokens = tokens_of 0 (expr_items true e tight);
  end = length (text_of (expr_items true e tight));
  lexed = expression_lexed e s;
  no_more = omega (arith, token_parentheses 0 (expr_items true e tight), expr_items_cost true e tight, same_cost tree e h, expr_costs d);
}

judged_items_cost : (e f : Expr) → item_parentheses (judged_items e f) ≡ cost true e + cost true f
unfolding item_parentheses
judged_items_cost e f =
    omega (arith, item_parentheses_append (expr_items true e space) (colon_item ∷ expr_items true f tight), expr_items_cost true e space, expr_items_cost true f tight)

pub fewest_in_judgements : (j : Judgement) → IsSpelledExpr j.object → IsSpelledExpr j.family → HasFewestOfJudgement (judgement_text j) j
fewest_in_judgements j s r = λ ts tree d h. record {
  tokens = tokens_of 0 (judged_items s.tree r.tree);
  end = length (text_of (judged_items s.tree r.tree));
  lexed = judgement_lexed j s r;
  no_more = omega (
    arith,
    token_parentheses 0 (judged_items s.tree r.tree),
    judged_items_cost s.tree r.tree,
    same_cost s.tree j.object s.same,
    same_cost r.tree j.family r.same,
    same_cost tree.object j.object h.object,
    same_cost tree.family j.family h.family,
    judgement_costs d,
  );
}
