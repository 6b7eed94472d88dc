use Rattle.std.proofs.Common.{subst}
use Rattle.twelf_expressions.specs.Left.{left}
use Rattle.twelf_expressions.specs.Outlines.{Turns}
use Rattle.twelf_expressions.proofs.Outlines.{passing_stopped}
use Rattle.twelf_expressions.proofs.reader.Reader.pass_operands.Goals as goal

pub returns-in_err-pass_turn-clause-goes : goal.returns-in_err-pass_turn-clause-goes
returns-in_err-pass_turn-clause-goes c = λ p answer h.
    passing_stopped c.from_residual.result _ _ _ c.from_residual.ensures.1 (c.in_err-pass_turn.ensures.goes p answer (c.loop.invariant.goes p answer h))

pub returns-clause-goes : goal.returns-clause-goes
returns-clause-goes c = λ p answer h.
    subst (Turns p answer c.pass_turn.new.stack (left c.pass_turn.new.self)) c.if-not-branch.false (c.in_ok-pass_turn.ensures.goes p answer (c.loop.invariant.goes p answer h))
