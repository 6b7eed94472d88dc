use Rattle.std.proofs.Common.{ap₂, subst, ◌∙◌}
use Rattle.lf_meaning.specs.Judgements.{IsContext, IsKind}
use Rattle.elaborate_meaning.specs.Expansion.{expand_kind}
use Rattle.elaborate_meaning.specs.Locals.{context_of}
use Rattle.elaborate_meaning.specs.Stands.{StandsKind}
use Rattle.elaborate_laws.proofs.Sound.{kind_sound}
use Rattle.elaborate_laws.proofs.Complete.{kind_complete}
use Rattle.constant_laws.specs.ExpansionHolds.{scope_signature}
use Rattle.elaborate_typing.specs.TypingOfExpansion.{IsTypedScope}
use Rattle.elaborate_typing.proofs.Expanding.{standing_kind_is_kind}
use Rattle.term_trees.specs.Readings.{read_kind}
use Rattle.mmt_syntax.specs.Readings.{read_expr}
use Rattle.names.specs.Readings.{read_locals, read_scope}
use Rattle.elaborate.specs.Answers.{Expands}
use Rattle.elaborate.proofs.PublicAnswers.{stands_by, only_by}
use Rattle.elaborate.proofs.calls.elab_kind.Goals as goal

pub returns-clause-stands : goal.returns-clause-stands
returns-clause-stands c =
    stands_by read_kind (StandsKind (read_scope c.args.scope.now) (read_locals c.args.vars.now) (read_expr c.args.expr.now)) (expand_kind (read_scope c.args.scope.now) (read_locals c.args.vars.now) (read_expr c.args.expr.now)) (kind_sound (read_expr c.args.expr.now) (read_scope c.args.scope.now) (read_locals c.args.vars.now)) c.kind.result
    (subst (Expands read_kind c.kind.result) (ap₂ (λ s l. expand_kind s l (read_expr c.args.expr.now)) (c.in_ok-new.ensures.scope ∙ c.new-tabled.ensures) c.in_ok-new.ensures.locals) c.kind.ensures)

pub returns-clause-only : goal.returns-clause-only
returns-clause-only c =
    only_by read_kind (StandsKind (read_scope c.args.scope.now) (read_locals c.args.vars.now) (read_expr c.args.expr.now)) (expand_kind (read_scope c.args.scope.now) (read_locals c.args.vars.now) (read_expr c.args.expr.now)) (kind_complete (read_expr c.args.expr.now) (read_scope c.args.scope.now) (read_locals c.args.vars.now)) c.kind.result
    (subst (Expands read_kind c.kind.result) (ap₂ (λ s l. expand_kind s l (read_expr c.args.expr.now)) (c.in_ok-new.ensures.scope ∙ c.new-tabled.ensures) c.in_ok-new.ensures.locals) c.kind.ensures)

pub returns-clause-typed : goal.returns-clause-typed
returns-clause-typed c =
    let scope = read_scope c.args.scope.now in
    let locals = read_locals c.args.vars.now in
    let expression = read_expr c.args.expr.now in
    let signature = scope_signature scope in
    let context = context_of locals in
    stands_by read_kind (λ kind. IsTypedScope scope → IsContext signature context → IsKind signature context kind) (expand_kind scope locals expression)
    (λ kind answered typed within. standing_kind_is_kind scope locals expression kind typed within (kind_sound expression scope locals kind answered)) c.kind.result
    (subst (Expands read_kind c.kind.result) (ap₂ (λ s l. expand_kind s l expression) (c.in_ok-new.ensures.scope ∙ c.new-tabled.ensures) c.in_ok-new.ensures.locals) c.kind.ensures)
