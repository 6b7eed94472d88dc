use Rattle.std.proofs.Common.{sym, ap, arith, ◌∙◌}
use Rattle.text_meaning.specs.Splitting.{SyntaxFault}
use Rattle.text_meaning.specs.Dividing.{BeforeBody, divide_on}
use Rattle.twelf_expressions.specs.Left.{left, next_token}
use Rattle.twelf_expressions.proofs.Moves.{behind_next}
use Rattle.twelf_reader.proofs.Dividing.{any_last, any_last_before, before_last, before_opens, before_passes}
use Rattle.twelf_reader.proofs.pieces.open_braces.Goals as goal

pub tokens-init : goal.tokens-init
tokens-init c =
    let ts = left c.args.reader.now in
    record {
      goes = λ w x last other. any_last_before w x last other (next_token ts) (behind_next ts);
      less = omega arith;
    }

pub returns-then-not-pass-clause-goes : goal.returns-then-not-pass-clause-goes
returns-then-not-pass-clause-goes c = λ w x last.
    let end = c.pass.ensures.last c.if-not-pass.true in
    c.tokens.invariant.goes w x last 0 ∙ ap (divide_on (BeforeBody w x 0)) end.1 ∙ before_last w x 0 end.0
    ∙ ap SyntaxFault (sym (c.place-at.ensures.place ∙ ap (λ ts. (next_token ts).span.from) end.1))

pub returns-then-opens-clause-goes : goal.returns-then-opens-clause-goes
returns-then-opens-clause-goes c = λ w x last.
    let t = next_token (left c.tokens.reader) in
    let after = left c.pass.new.self in
    c.tokens.invariant.goes w x last 0 ∙ ap (divide_on (BeforeBody w x 0)) (c.pass.ensures.passes c.if-not-pass.false)
    ∙ before_opens w x 0 t after (sym c.sees-opens.ensures ∙ c.if-opens.true) ∙ any_last w x 0 t.span.from 0 (next_token after) (behind_next after)

pub tokens-preserved : goal.tokens-preserved
tokens-preserved c =
    let t = next_token (left c.tokens.reader) in
    let after = left c.pass.new.self in
    record {
      goes = λ w x last other.
          c.tokens.invariant.goes w x last 0 ∙ ap (divide_on (BeforeBody w x 0)) (c.pass.ensures.passes c.if-not-pass.false)
          ∙ before_passes w x 0 t after (sym c.sees-opens.ensures ∙ c.if-opens.false) ∙ any_last_before w x t.span.from other (next_token after) (behind_next after);
      less = omega (arith, c.tokens.invariant.less, c.pass.ensures.less c.if-not-pass.false);
    }
