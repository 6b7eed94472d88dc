use Rattle.std.proofs.Common.{ap₂, subst, ◌∙◌}
use Rattle.lf_meaning.specs.Judgements.{IsContext, IsFamily}
use Rattle.elaborate_meaning.specs.Expansion.{expand_family}
use Rattle.elaborate_meaning.specs.Locals.{context_of}
use Rattle.elaborate_meaning.specs.Stands.{StandsFamily}
use Rattle.elaborate_laws.proofs.Sound.{family_sound}
use Rattle.elaborate_laws.proofs.Complete.{family_complete}
use Rattle.constant_laws.specs.ExpansionHolds.{scope_signature}
use Rattle.elaborate_typing.specs.TypingOfExpansion.{IsTypedScope}
use Rattle.elaborate_typing.proofs.Expanding.{standing_family_is_family}
use Rattle.term_trees.specs.Readings.{read_family}
use Rattle.mmt_syntax.specs.Readings.{read_expr}
use Rattle.names.specs.Readings.{read_locals, read_scope}
use Rattle.elaborate.specs.Answers.{Expands}
use Rattle.elaborate.proofs.PublicAnswers.{stands_by, only_by}
use Rattle.elaborate.proofs.calls.elab_fam.Goals as goal

pub returns-clause-stands : goal.returns-clause-stands
returns-clause-stands c =
    stands_by read_family (StandsFamily (read_scope c.args.scope.now) (read_locals c.args.vars.now) (read_expr c.args.expr.now)) (expand_family (read_scope c.args.scope.now) (read_locals c.args.vars.now) (read_expr c.args.expr.now)) (family_sound (read_expr c.args.expr.now) (read_scope c.args.scope.now) (read_locals c.args.vars.now)) c.family.result
    (subst (Expands read_family c.family.result) (ap₂ (λ s l. expand_family s l (read_expr c.args.expr.now)) (c.in_ok-new.ensures.scope ∙ c.new-tabled.ensures) c.in_ok-new.ensures.locals) c.family.ensures)

pub returns-clause-only : goal.returns-clause-only
returns-clause-only c =
    only_by read_family (StandsFamily (read_scope c.args.scope.now) (read_locals c.args.vars.now) (read_expr c.args.expr.now)) (expand_family (read_scope c.args.scope.now) (read_locals c.args.vars.now) (read_expr c.args.expr.now)) (family_complete (read_expr c.args.expr.now) (read_scope c.args.scope.now) (read_locals c.args.vars.now)) c.family.result
    (subst (Expands read_family c.family.result) (ap₂ (λ s l. expand_family s l (read_expr c.args.expr.now)) (c.in_ok-new.ensures.scope ∙ c.new-tabled.ensures) c.in_ok-new.ensures.locals) c.family.ensures)

pub returns-clause-typed : goal.returns-clause-typed
returns-clause-typed c =
    let scope = read_scope c.args.scope.now in
    let locals = read_locals c.args.vars.now in
    let expression = read_expr c.args.expr.now in
    let signature = scope_signature scope in
    let context = context_of locals in
    stands_by read_family (λ family. IsTypedScope scope → IsContext signature context → IsFamily signature context family) (expand_family scope locals expression)
    (λ family answered typed within. standing_family_is_family scope locals expression family typed within (family_sound expression scope locals family answered)) c.family.result
    (subst (Expands read_family c.family.result) (ap₂ (λ s l. expand_family s l expression) (c.in_ok-new.ensures.scope ∙ c.new-tabled.ensures) c.in_ok-new.ensures.locals) c.family.ensures)
