use Rattle.std.proofs.Common.{◌≤◌, ℕ, option_copied, length, sym, ap, ◌∙◌, arith}
use Rattle.edit_log_meaning.specs.Log.{library_of, names_of}
use Rattle.board_front.proofs.Checked.{past_end, within_limit}
use Rattle.board_front.proofs.Histories.{keeps_on}
use Rattle.generator_front.proofs.SettledEdits.{grounded_stand}
use Rattle.generator_front.proofs.Tallies.{counted, next_counted, stand_all}
use Rattle.generator_front.proofs.verdicts.verdicts.Goals as goal

none_left : (names place : ℕ) → names ≤ 4096 → 4096 ≤ place → names ≤ place
none_left names place few past = omega (arith, few, past)

pub loop-place-preserved : goal.loop-place-preserved
loop-place-preserved g c = (
  keeps_on c.args.pass.now c.loop-place.pass c.told.new.pass c.loop-place.invariant.0 c.told.ensures.keeps,
  next_counted c.args.log.now c.args.pass.now.seen c.loop-place.pass.seen c.told.new.pass.seen c.loop-place.place c.in-Some.name.now c.in_ok-told.told c.loop-place.counts
      (sym c.name_at.ensures ∙ ap option_copied c.in-Some.is) c.loop-place.invariant.1 c.requires.front.logged c.told.ensures.stays c.in_ok-told.ensures.told c.in_ok-told.ensures.stands
      c.count.new.self c.in_ok-count.ensures,
)

pub returns-after-loop-place-clause-stand : goal.returns-after-loop-place-clause-stand
returns-after-loop-place-clause-stand g c =
    grounded_stand c.args.log.now c.loop-place.pass.seen (c.loop-place.invariant.1.stays.logged ∙ sym c.requires.front.logged)
    (stand_all c.args.log.now c.args.pass.now.seen c.loop-place.pass.seen c.loop-place.place c.loop-place.counts c.loop-place.invariant.1
    (none_left (length (names_of (library_of c.args.log.now))) c.loop-place.place (within_limit c.args.log.now c.version.ensures.limits) c.loop-place-test.false))

pub returns-in_default-clause-counted : goal.returns-in_default-clause-counted
returns-in_default-clause-counted g c =
    counted c.args.log.now c.args.pass.now.seen c.loop-place.pass.seen c.loop-place.place c.loop-place.counts c.loop-place.invariant.1
    (past_end c.args.log.now c.loop-place.place (sym c.name_at.ensures ∙ ap option_copied c.in_default.is))

pub returns-in_default-clause-stand : goal.returns-in_default-clause-stand
returns-in_default-clause-stand g c =
    grounded_stand c.args.log.now c.loop-place.pass.seen (c.loop-place.invariant.1.stays.logged ∙ sym c.requires.front.logged)
    (stand_all c.args.log.now c.args.pass.now.seen c.loop-place.pass.seen c.loop-place.place c.loop-place.counts c.loop-place.invariant.1
    (past_end c.args.log.now c.loop-place.place (sym c.name_at.ensures ∙ ap option_copied c.in_default.is)))
