use Rattle.std.proofs.lemmas.Result.{err_from_is_err_and}
use Rattle.mmt_interface.specs.Readings.{environment_of, read_theory}
use Rattle.module_verdicts.proofs.Built.{all_next, all_refused, all_done}
use Rattle.module_verdicts.proofs.declarations.declare_each.Goals as goal

pub returns-in_err-declare : goal.returns-in_err-declare
returns-in_err-declare c =
    let p = err_from_is_err_and c.from_residual.result c.from_residual.ensures.1 in
    rw (p.1, p.2) (all_refused (environment_of c.args.faces.now) (read_theory c.args.here.now) (read_theory c.loop-decl.here) c.args.decls.now c.loop-decl.decl-index c.loop-decl.invariant.1 c.decl-item.result c.in_err-declare.field-0.0 c.loop-decl-test.true c.decl-item.is c.in_err-declare.ensures.answer)

pub loop-decl-preserved : goal.loop-decl-preserved
loop-decl-preserved c =
    (c.in_ok-declare.ensures.here, all_next (environment_of c.args.faces.now) (read_theory c.args.here.now) (read_theory c.loop-decl.here) c.args.decls.now c.loop-decl.decl-index c.loop-decl.invariant.1 c.decl-item.result (read_theory c.declare.new.here) c.loop-decl-test.true c.decl-item.is c.in_ok-declare.ensures.answer, c.in_ok-declare.ensures.fits, c.in_ok-declare.ensures.known)

pub returns : goal.returns
returns c = all_done (environment_of c.args.faces.now) (read_theory c.args.here.now) (read_theory c.loop-decl.here) c.args.decls.now c.loop-decl.decl-index c.loop-decl.invariant.1 c.loop-decl-test.false
