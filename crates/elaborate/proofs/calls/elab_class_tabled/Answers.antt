use Rattle.std.proofs.Common.{ap, ap₂, subst, ◌∙◌}
use Rattle.lf_meaning.specs.Judgements.{IsClass}
use Rattle.elaborate_meaning.specs.Values.{expand_class}
use Rattle.elaborate_meaning.specs.Stands.{StandsClass}
use Rattle.elaborate_laws.proofs.ValuesStand.{class_sound, class_complete}
use Rattle.constant_laws.specs.ExpansionHolds.{scope_signature}
use Rattle.elaborate_typing.specs.TypingOfExpansion.{IsTypedScope}
use Rattle.elaborate_typing.proofs.Expanding.{standing_class_is_class}
use Rattle.term_trees.specs.Readings.{read_class}
use Rattle.mmt_syntax.specs.Readings.{read_expr}
use Rattle.names.specs.Readings.{read_locals, read_tabled}
use Rattle.elaborate.specs.Steps.{class_answer}
use Rattle.elaborate.specs.Answers.{Expands}
use Rattle.elaborate.proofs.PublicAnswers.{stands_by, only_by, class_alone}
use Rattle.elaborate.proofs.calls.elab_class_tabled.Goals as goal

pub returns-clause-answer : goal.returns-clause-answer
returns-clause-answer c =
    let scope = read_tabled c.args.scope.now in
    let locals = c.in_ok-new.ensures.locals ∙ ap read_locals c.new-no_vars.ensures in
    let same = ap₂ (λ s l. class_answer s l (read_expr c.args.expr.now)) c.in_ok-new.ensures.scope locals ∙ class_alone scope (read_expr c.args.expr.now) in
    let answered = subst (Expands read_class c.class.result) same c.class.ensures in
    answered

pub returns-clause-stands : goal.returns-clause-stands
returns-clause-stands c =
    let scope = read_tabled c.args.scope.now in
    let locals = c.in_ok-new.ensures.locals ∙ ap read_locals c.new-no_vars.ensures in
    let same = ap₂ (λ s l. class_answer s l (read_expr c.args.expr.now)) c.in_ok-new.ensures.scope locals ∙ class_alone scope (read_expr c.args.expr.now) in
    let answered = subst (Expands read_class c.class.result) same c.class.ensures in
    stands_by read_class (StandsClass scope (read_expr c.args.expr.now)) (expand_class scope (read_expr c.args.expr.now)) (class_sound scope (read_expr c.args.expr.now)) c.class.result answered

pub returns-clause-only : goal.returns-clause-only
returns-clause-only c =
    let scope = read_tabled c.args.scope.now in
    let locals = c.in_ok-new.ensures.locals ∙ ap read_locals c.new-no_vars.ensures in
    let same = ap₂ (λ s l. class_answer s l (read_expr c.args.expr.now)) c.in_ok-new.ensures.scope locals ∙ class_alone scope (read_expr c.args.expr.now) in
    let answered = subst (Expands read_class c.class.result) same c.class.ensures in
    only_by read_class (StandsClass scope (read_expr c.args.expr.now)) (expand_class scope (read_expr c.args.expr.now)) (class_complete scope (read_expr c.args.expr.now)) c.class.result answered

pub returns-clause-typed : goal.returns-clause-typed
returns-clause-typed c =
    let scope = read_tabled c.args.scope.now in
    let expression = read_expr c.args.expr.now in
    let locals = c.in_ok-new.ensures.locals ∙ ap read_locals c.new-no_vars.ensures in
    let same = ap₂ (λ s l. class_answer s l expression) c.in_ok-new.ensures.scope locals ∙ class_alone scope expression in
    let answered = subst (Expands read_class c.class.result) same c.class.ensures in
    stands_by read_class (λ class. IsTypedScope scope → IsClass (scope_signature scope) class) (expand_class scope expression)
    (λ class is typed. standing_class_is_class scope expression class typed (class_sound scope expression class is)) c.class.result answered
