use Rattle.std.specs.Prelude.{◌||◌, IfOk}
use Rattle.std.proofs.Common.{◌≡◌, sym, ap, ap₂, ◌∙◌, subst}
use Rattle.printing_meaning.specs.PrintedTerms.{object_uses}
use Rattle.term_trees.specs.Readings.{read_arguments, read_object}
use Rattle.term_text.specs.Arguments.{arguments_use}
use Rattle.term_text.proofs.Standing.{lambda_uses, spine_uses}
use Rattle.term_text.proofs.uses.+uses.Goals as goal

pub object_uses-returns-then-is_variable : goal.object_uses-returns-then-is_variable
object_uses-returns-then-is_variable t c =
    let at = c.in-At in
    sym (spine_uses c.args.variable c.args.object.now at.head at.spine at.is ∙ ap (λ b. b || arguments_use c.args.variable (read_arguments at.spine)) (sym c.is_variable.ensures ∙ c.if-is_variable.true))

pub object_uses-returns-else-is_variable : goal.object_uses-returns-else-is_variable
object_uses-returns-else-is_variable t c =
    let at = c.in-At in
    let same = spine_uses c.args.variable c.args.object.now at.head at.spine at.is ∙ ap (λ b. b || arguments_use c.args.variable (read_arguments at.spine)) (sym c.is_variable.ensures ∙ c.if-is_variable.false) in
    subst (λ z. IfOk c.spine_uses.result (λ uses. uses ≡ z)) (sym same) c.spine_uses.ensures

pub object_uses-returns-in_ok-under-in-Lam : goal.object_uses-returns-in_ok-under-in-Lam
object_uses-returns-in_ok-under-in-Lam t c =
    let body = c.in-Lam.body in
    let same = ap₂ (λ n o. object_uses n (read_object o)) c.in_ok-under-in-Lam.ensures c.deref.ensures ∙ sym (lambda_uses c.args.variable c.args.object.now body c.in-Lam.is) in
    subst (λ z. IfOk c.object_uses.result (λ uses. uses ≡ z)) same c.object_uses.ensures
