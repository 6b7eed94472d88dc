use Rattle.std.proofs.Common.{sym, ◌∙◌}
use Rattle.board_front.proofs.Histories.{keeps_on}
use Rattle.list_laws.proofs.Answers.{on_err}
use Rattle.generator_front.proofs.SettledEdits.{more_settled_by}
use Rattle.generator_front.proofs.GivenEdits.{begun_later, gave_next}
use Rattle.generator_front.proofs.edits.edit_modules.Goals as goal

pub returns-in_err-settle-clause-begun : goal.returns-in_err-settle-clause-begun
returns-in_err-settle-clause-begun g c =
    let first = c.args.generator.now in
    let gave = gave_next first.start first.modules c.loop.counter c.loop.generator c.make_next.new.generator c.in_ok-make_next.ensures.gave c.loop.invariant.2 in
    on_err c.from_residual-in_err-settle.result
    (begun_later first.start first.modules c.loop.counter c.args.edits c.make_next.new.generator c.make_next.new.log c.settle.new.pass.seen gave c.in_ok-make_next.ensures.given c.loop-test.true
    (c.settle.ensures.stays.logged ∙ c.in_ok-make_next.ensures.goes_on.logged))

pub loop-preserved : goal.loop-preserved
loop-preserved g c =
    let first = c.args.generator.now in
    let gave = gave_next first.start first.modules c.loop.counter c.loop.generator c.make_next.new.generator c.in_ok-make_next.ensures.gave c.loop.invariant.2 in
    let on = c.in_ok-make_next.ensures.goes_on in
    let stays = c.settle.ensures.stays in (
      keeps_on c.args.pass.now c.make_next.new.pass c.settle.new.pass (keeps_on c.args.pass.now c.loop.pass c.make_next.new.pass c.loop.invariant.0 c.make_next.ensures.keeps) c.settle.ensures.keeps,
      record { legal = stays.legal; logged = sym (stays.logged ∙ on.logged) },
      gave,
      c.in_ok-make_next.ensures.given,
      more_settled_by first.start first.modules c.loop.counter c.make_next.new.generator c.make_next.new.log c.loop.pass.seen c.make_next.new.pass.seen c.settle.new.pass.seen
          gave c.in_ok-make_next.ensures.given c.loop.invariant.4 on stays c.in_ok-settle.ensures.stand,
    )
