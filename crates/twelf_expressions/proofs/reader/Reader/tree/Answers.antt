use Rattle.std.proofs.Common.{subst, ◌∙◌, arith}
use Rattle.std.specs.Prelude.{Ok}
use Rattle.text_meaning.specs.Parsing.{Ends, answer_on, resume}
use Rattle.twelf_expressions.specs.Left.{left}
use Rattle.twelf_expressions.specs.Frames.{Turned, stands}
use Rattle.twelf_expressions.proofs.reader.Reader.tree.Goals as goal

pub returns-in-Some-clause-goes : goal.returns-in-Some-clause-goes
unfolding resume
returns-in-Some-clause-goes c = λ p.
    let turned = subst (λ r. Turned (answer_on (stands c.turns.stack (Ends p)) (left c.turns.self)) (Ok r) (Ends p) c.turn.new.stack (left c.turn.new.self)) c.in-Some.is (c.in_ok-whole.ensures.goes (Ends p)) in
    c.turns.invariant.goes (Ends p) ∙ turned

pub turns-preserved : goal.turns-preserved
turns-preserved c =
    record {
      goes = λ k. c.turns.invariant.goes k ∙ subst (λ r. Turned (answer_on (stands c.turns.stack k) (left c.turns.self)) (Ok r) k c.turn.new.stack (left c.turn.new.self)) c.in_default.is (c.in_ok-whole.ensures.goes k);
      less = omega (arith, c.turns.invariant.less, c.in_ok-whole.ensures.within);
    }
