use Rattle.std.proofs.Common.{refl, ap}
use Rattle.board_meaning.specs.Turns.{is_open_still}
use Rattle.worker_loop.specs.declared.one_turn.TurnEnd.{TurnEnd}
use Rattle.worker_loop.specs.Ends.{read_end}
use Rattle.worker_loop.proofs.Works.{at_first, goes_on}
use Rattle.worker_loop.proofs.all_turns.work.Goals as goal
use Rattle.worker_loop.proofs.all_turns.work.Goals.{in-Worked, in-Idle}

pub loop-init : goal.loop-init
loop-init g c = (refl, at_first g.S.Subject.subject c.args.pass.now.number c.args.pass.now.seen c.args.steps.now)

pub loop-preserved-after-branch-2 : goal.loop-preserved-after-branch-2
loop-preserved-after-branch-2 g c =
    goes_on g.S.Subject.subject c.args.pass.now c.loop.pass c.turn.new.pass c.args.steps.now c.loop.steps c.turn.new.steps (read_end c.in_ok-turn.field-0) c.loop.invariant
    (elim c.match-branch-2.branch [
      | in-Worked w ↦ ap (λ (end : TurnEnd). is_open_still (read_end end)) w.in-Worked.is
      | in-Idle w ↦ ap (λ (end : TurnEnd). is_open_still (read_end end)) w.in-Idle.is
    ]) c.in_ok-turn.ensures.keeps c.in_ok-turn.ensures.ends c.in_ok-turn.ensures.judged

pub loop-preserved-after-branch-2-2 : goal.loop-preserved-after-branch-2-2
loop-preserved-after-branch-2-2 g c =
    goes_on g.S.Subject.subject c.args.pass.now c.loop.pass c.turn.new.pass c.args.steps.now c.loop.steps c.turn.new.steps (read_end c.in_ok-turn.field-0) c.loop.invariant
    (elim c.match-branch-2.branch [
      | in-Worked w ↦ ap (λ (end : TurnEnd). is_open_still (read_end end)) w.in-Worked.is
      | in-Idle w ↦ ap (λ (end : TurnEnd). is_open_still (read_end end)) w.in-Idle.is
    ]) c.in_ok-turn.ensures.keeps c.in_ok-turn.ensures.ends c.in_ok-turn.ensures.judged

pub loop-preserved-after-branch-2-3 : goal.loop-preserved-after-branch-2-3
loop-preserved-after-branch-2-3 g c =
    goes_on g.S.Subject.subject c.args.pass.now c.loop.pass c.turn.new.pass c.args.steps.now c.loop.steps c.turn.new.steps (read_end c.in_ok-turn.field-0) c.loop.invariant
    (elim c.match-branch-2.branch [
      | in-Worked w ↦ ap (λ (end : TurnEnd). is_open_still (read_end end)) w.in-Worked.is
      | in-Idle w ↦ ap (λ (end : TurnEnd). is_open_still (read_end end)) w.in-Idle.is
    ]) c.in_ok-turn.ensures.keeps c.in_ok-turn.ensures.ends c.in_ok-turn.ensures.judged

pub loop-preserved : goal.loop-preserved
loop-preserved g c =
    goes_on g.S.Subject.subject c.args.pass.now c.loop.pass c.turn.new.pass c.args.steps.now c.loop.steps c.turn.new.steps (read_end c.in_ok-turn.field-0) c.loop.invariant
    (elim c.match-branch-2.branch [
      | in-Worked w ↦ ap (λ (end : TurnEnd). is_open_still (read_end end)) w.in-Worked.is
      | in-Idle w ↦ ap (λ (end : TurnEnd). is_open_still (read_end end)) w.in-Idle.is
    ]) c.in_ok-turn.ensures.keeps c.in_ok-turn.ensures.ends c.in_ok-turn.ensures.judged
