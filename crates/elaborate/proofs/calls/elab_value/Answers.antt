use Rattle.std.proofs.Common.{ap, ap₂, subst, ◌∙◌}
use Rattle.lf_meaning.specs.Judgements.{Fits, IsClass}
use Rattle.elaborate_meaning.specs.Values.{expand_value}
use Rattle.elaborate_meaning.specs.Stands.{StandsValue}
use Rattle.elaborate_laws.proofs.ValuesStand.{value_sound, value_complete}
use Rattle.constant_laws.specs.ExpansionHolds.{scope_signature}
use Rattle.elaborate_typing.specs.TypingOfExpansion.{IsTypedScope}
use Rattle.elaborate_typing.proofs.Expanding.{standing_value_fits}
use Rattle.term_trees.specs.Readings.{read_class, read_value}
use Rattle.mmt_syntax.specs.Readings.{read_expr}
use Rattle.names.specs.Readings.{read_locals, read_scope}
use Rattle.elaborate.specs.Steps.{value_answer}
use Rattle.elaborate.specs.Answers.{Expands}
use Rattle.elaborate.proofs.PublicAnswers.{stands_by, only_by, value_alone}
use Rattle.elaborate.proofs.calls.elab_value.Goals as goal

pub returns-clause-answer : goal.returns-clause-answer
returns-clause-answer c =
    let scope = read_scope c.args.scope.now in
    let locals = c.in_ok-new.ensures.locals ∙ ap read_locals c.new-no_vars.ensures in
    let same = ap₂ (λ s l. value_answer s l (read_expr c.args.expr.now) (read_class c.args.class.now)) (c.in_ok-new.ensures.scope ∙ c.new-tabled.ensures) locals ∙ value_alone scope (read_expr c.args.expr.now) (read_class c.args.class.now) in
    let answered = subst (Expands read_value c.value.result) same c.value.ensures in
    answered

pub returns-clause-stands : goal.returns-clause-stands
returns-clause-stands c =
    let scope = read_scope c.args.scope.now in
    let locals = c.in_ok-new.ensures.locals ∙ ap read_locals c.new-no_vars.ensures in
    let same = ap₂ (λ s l. value_answer s l (read_expr c.args.expr.now) (read_class c.args.class.now)) (c.in_ok-new.ensures.scope ∙ c.new-tabled.ensures) locals ∙ value_alone scope (read_expr c.args.expr.now) (read_class c.args.class.now) in
    let answered = subst (Expands read_value c.value.result) same c.value.ensures in
    stands_by read_value (StandsValue scope (read_expr c.args.expr.now) (read_class c.args.class.now)) (expand_value scope (read_expr c.args.expr.now) (read_class c.args.class.now)) (value_sound scope (read_expr c.args.expr.now) (read_class c.args.class.now)) c.value.result answered

pub returns-clause-only : goal.returns-clause-only
returns-clause-only c =
    let scope = read_scope c.args.scope.now in
    let locals = c.in_ok-new.ensures.locals ∙ ap read_locals c.new-no_vars.ensures in
    let same = ap₂ (λ s l. value_answer s l (read_expr c.args.expr.now) (read_class c.args.class.now)) (c.in_ok-new.ensures.scope ∙ c.new-tabled.ensures) locals ∙ value_alone scope (read_expr c.args.expr.now) (read_class c.args.class.now) in
    let answered = subst (Expands read_value c.value.result) same c.value.ensures in
    only_by read_value (StandsValue scope (read_expr c.args.expr.now) (read_class c.args.class.now)) (expand_value scope (read_expr c.args.expr.now) (read_class c.args.class.now)) (value_complete scope (read_expr c.args.expr.now) (read_class c.args.class.now)) c.value.result answered

pub returns-clause-typed : goal.returns-clause-typed
returns-clause-typed c =
    let scope = read_scope c.args.scope.now in
    let expression = read_expr c.args.expr.now in
    let class = read_class c.args.class.now in
    let locals = c.in_ok-new.ensures.locals ∙ ap read_locals c.new-no_vars.ensures in
    let same = ap₂ (λ s l. value_answer s l expression class) (c.in_ok-new.ensures.scope ∙ c.new-tabled.ensures) locals ∙ value_alone scope expression class in
    let answered = subst (Expands read_value c.value.result) same c.value.ensures in
    stands_by read_value (λ value. IsTypedScope scope → IsClass (scope_signature scope) class → Fits (scope_signature scope) value class) (expand_value scope expression class)
    (λ value is typed is_class. standing_value_fits scope expression class value typed is_class (value_sound scope expression class value is)) c.value.result answered
