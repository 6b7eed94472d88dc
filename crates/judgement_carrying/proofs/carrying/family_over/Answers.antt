use Rattle.std.proofs.Common.{◌≡◌, [], Ok, ap, sym, subst}
use Rattle.elaborate_meaning.specs.Expansion.{expand_family}
use Rattle.term_trees.specs.Readings.{read_family}
use Rattle.mmt_syntax.specs.Readings.{read_expr}
use Rattle.names.specs.Readings.{read_locals, read_scope}
use Rattle.elaborate.specs.Answers.{IsFirstFault}
use Rattle.judgement_carrying.specs.Expanded.{IsFirstIll}
use Rattle.judgement_carrying.proofs.CarriedJudgements.{ill_stays}
use Rattle.judgement_carrying.proofs.carrying.family_over.Goals as goal

pub returns-in-Ok : goal.returns-in-Ok
returns-in-Ok c =
    subst (λ l. expand_family (read_scope c.args.scope.now) l (read_expr c.args.expr.now) ≡ Ok (read_family c.in-Ok.family)) (ap read_locals c.new-no_vars.ensures) c.in-Ok.ensures.answer

pub returns : goal.returns
returns c =
    let scope = read_scope c.args.scope.now in
    let expr = read_expr c.args.expr.now in
    let first = subst (λ l. IsFirstFault c.in-Err.fault (expand_family scope l expr)) (ap read_locals c.new-no_vars.ensures) c.in-Err.ensures.answer in
    subst (λ z. IsFirstIll z (expand_family scope [] expr)) (sym c.ill.ensures) (ill_stays c.in-Err.fault (expand_family scope [] expr) first)
