use Rattle.std.proofs.Common.{arith, ap, ◌∙◌}
use Rattle.text_meaning.specs.Dividing.{divide_on}
use Rattle.twelf_expressions.specs.Left.{left, next_token}
use Rattle.twelf_expressions.proofs.Moves.{behind_next}
use Rattle.twelf_reader.specs.Division.{in_body}
use Rattle.twelf_reader.proofs.Dividing.{any_last}
use Rattle.twelf_reader.proofs.pieces.close_braces.Goals as goal

pub tokens-init : goal.tokens-init
tokens-init c =
    let ts = left c.args.reader.now in
    record {
      goes = λ w x last. any_last w x 0 last 0 (next_token ts) (behind_next ts);
      within = omega arith;
      less = omega arith;
    }

pub returns-in-None-clause-goes : goal.returns-in-None-clause-goes
returns-in-None-clause-goes c = λ w x last.
    c.tokens.invariant.goes w x last ∙ c.in_ok-next.ensures.goes w x 0 ∙ ap (λ n. divide_on (in_body w x n) (left c.brace.new.reader)) c.in-None.is

pub tokens-preserved : goal.tokens-preserved
tokens-preserved c = record {
  goes = λ w x last. c.tokens.invariant.goes w x last ∙ c.in_ok-next.ensures.goes w x 0 ∙ ap (λ n. divide_on (in_body w x n) (left c.brace.new.reader)) c.in-Some.is;
  within = c.in_ok-next.ensures.within c.in-Some.next c.in-Some.is;
  less = omega (arith, c.tokens.invariant.less, c.in_ok-next.ensures.less);
}
