use Rattle.std.proofs.Common.{ap₂, subst, ◌∙◌}
use Rattle.lf_meaning.specs.Judgements.{Checks, IsContext, IsFamily}
use Rattle.elaborate_meaning.specs.Expansion.{expand_object}
use Rattle.elaborate_meaning.specs.Locals.{context_of}
use Rattle.elaborate_meaning.specs.Stands.{StandsObject}
use Rattle.elaborate_laws.proofs.Sound.{object_sound}
use Rattle.elaborate_laws.proofs.Complete.{object_complete}
use Rattle.constant_laws.specs.ExpansionHolds.{scope_signature}
use Rattle.elaborate_typing.specs.TypingOfExpansion.{IsTypedScope}
use Rattle.elaborate_typing.proofs.Expanding.{standing_object_checks}
use Rattle.term_trees.specs.Readings.{read_family, read_object}
use Rattle.mmt_syntax.specs.Readings.{read_expr}
use Rattle.names.specs.Readings.{read_locals, read_scope}
use Rattle.elaborate.specs.Answers.{Expands}
use Rattle.elaborate.proofs.PublicAnswers.{stands_by, only_by}
use Rattle.elaborate.proofs.calls.elab_obj.Goals as goal

pub returns-clause-stands : goal.returns-clause-stands
returns-clause-stands c =
    stands_by read_object (StandsObject (read_scope c.args.scope.now) (read_locals c.args.vars.now) (read_expr c.args.expr.now) (read_family c.args.fam.now)) (expand_object (read_scope c.args.scope.now) (read_locals c.args.vars.now) (read_expr c.args.expr.now) (read_family c.args.fam.now)) (object_sound (read_expr c.args.expr.now) (read_scope c.args.scope.now) (read_locals c.args.vars.now) (read_family c.args.fam.now)) c.object.result
    (subst (Expands read_object c.object.result) (ap₂ (λ s l. expand_object s l (read_expr c.args.expr.now) (read_family c.args.fam.now)) (c.in_ok-new.ensures.scope ∙ c.new-tabled.ensures) c.in_ok-new.ensures.locals) c.object.ensures)

pub returns-clause-only : goal.returns-clause-only
returns-clause-only c =
    only_by read_object (StandsObject (read_scope c.args.scope.now) (read_locals c.args.vars.now) (read_expr c.args.expr.now) (read_family c.args.fam.now)) (expand_object (read_scope c.args.scope.now) (read_locals c.args.vars.now) (read_expr c.args.expr.now) (read_family c.args.fam.now)) (object_complete (read_expr c.args.expr.now) (read_scope c.args.scope.now) (read_locals c.args.vars.now) (read_family c.args.fam.now)) c.object.result
    (subst (Expands read_object c.object.result) (ap₂ (λ s l. expand_object s l (read_expr c.args.expr.now) (read_family c.args.fam.now)) (c.in_ok-new.ensures.scope ∙ c.new-tabled.ensures) c.in_ok-new.ensures.locals) c.object.ensures)

pub returns-clause-typed : goal.returns-clause-typed
returns-clause-typed c =
    let scope = read_scope c.args.scope.now in
    let locals = read_locals c.args.vars.now in
    let expression = read_expr c.args.expr.now in
    let family = read_family c.args.fam.now in
    let signature = scope_signature scope in
    let context = context_of locals in
    stands_by read_object (λ object. IsTypedScope scope → IsContext signature context → IsFamily signature context family → Checks signature context object family) (expand_object scope locals expression family)
    (λ object answered typed within is_family. standing_object_checks scope locals expression family object typed within is_family (object_sound expression scope locals family object answered)) c.object.result
    (subst (Expands read_object c.object.result) (ap₂ (λ s l. expand_object s l expression family) (c.in_ok-new.ensures.scope ∙ c.new-tabled.ensures) c.in_ok-new.ensures.locals) c.object.ensures)
