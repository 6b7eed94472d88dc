use Rattle.std.proofs.Common.{◌≤◌, ℕ, option_copied, length, refl, sym, ap, ◌∙◌, subst, arith}
use denote.Exit.{yes}
use denote.Param.Send.{arg_send, arg_sync, param_send, param_sync}
use Rattle.edit_log_meaning.specs.Log.{library_of, names_of}
use Rattle.board_meaning.specs.Events.{log_of}
use Rattle.text_meaning.specs.Dependencies.{dependencies}
use Rattle.verdict_board.specs.FirstPending.{IsFirstPending}
use Rattle.board_front.proofs.Checked.{past_end}
use Rattle.board_front.proofs.Histories.{keeps_on, stays_on, stays_same}
use Rattle.board_front.proofs.Subject.{verdict_row_send, verdict_row_sync}
use Rattle.generator_front.proofs.Settling.{all_below, all_settled, found_within, look_stays, next_settled, none_below}
use Rattle.generator_front.proofs.settle.settle.Goals as goal

none_left : (names end counter from : ℕ) → names ≤ end → end ≤ counter → counter ≤ from → names ≤ from
none_left names end counter from most past least = omega (arith, most, past, least)

pub first_pending-requires-send-S-Answer : goal.first_pending-requires-send-S-Answer
first_pending-requires-send-S-Answer g c κs within = param_send _ _ (arg_send _ yes _ verdict_row_send)

pub first_pending-requires-sync-S-Answer : goal.first_pending-requires-sync-S-Answer
first_pending-requires-sync-S-Answer g c κs within = param_sync _ _ (arg_sync _ yes _ verdict_row_sync)

pub loop-init : goal.loop-init
loop-init g c = (refl, stays_same c.args.pass.now.seen c.requires.front.legal, none_below c.args.log.now c.args.pass.now.seen, omega arith)

pub loop-preserved : goal.loop-preserved
loop-preserved g c =
    let first = c.args.pass.now in
    let look = look_stays first c.loop.pass c.first_pending.new.pass c.requires.at_front.first c.loop.invariant.0 c.first_pending.ensures.looks in
    let looked = stays_on (log_of first.seen) first.seen c.loop.pass.seen c.first_pending.new.pass.seen c.loop.invariant.1 look in
    let pending = subst (IsFirstPending dependencies c.first_pending.new.pass.seen c.loop.from) c.in-Some.is c.first_pending.ensures.pending in (
      keeps_on first c.first_pending.new.pass c.told.new.pass (keeps_on first c.loop.pass c.first_pending.new.pass c.loop.invariant.0 c.first_pending.ensures.looks.keeps) c.told.ensures.keeps,
      stays_on (log_of first.seen) first.seen c.first_pending.new.pass.seen c.told.new.pass.seen looked c.told.ensures.stays,
      next_settled c.args.log.now c.loop.pass.seen c.first_pending.new.pass.seen c.loop.from (looked.logged ∙ sym c.requires.front.logged) look c.loop.invariant.2
          c.told.new.pass.seen c.in-Some.place c.in-Some-name_at.name.now pending (sym c.name_at.ensures ∙ ap option_copied c.in-Some-name_at.is)
          c.told.ensures.stays c.in_ok-told.ensures.stands,
      (let behind = pending.within.0 in let least = c.loop.invariant.3 in omega (arith, behind, least)),
    )

pub overflow_add-from : goal.overflow_add-from
overflow_add-from g c =
    let first = c.args.pass.now in
    let look = look_stays first c.loop.pass c.first_pending.new.pass c.requires.at_front.first c.loop.invariant.0 c.first_pending.ensures.looks in
    let looked = stays_on (log_of first.seen) first.seen c.loop.pass.seen c.first_pending.new.pass.seen c.loop.invariant.1 look in
    let within = found_within c.args.log.now c.loop.pass.seen c.first_pending.new.pass.seen c.loop.from (looked.logged ∙ sym c.requires.front.logged) look c.loop.invariant.2 c.in-Some.place
    (subst (IsFirstPending dependencies c.first_pending.new.pass.seen c.loop.from) c.in-Some.is c.first_pending.ensures.pending) in
    let most = c.most_modules-end.ensures in
    let fits = c.most_modules-end.type_inv in
    omega (arith, within, most, fits)

pub returns-in_err-told-clause-stays : goal.returns-in_err-told-clause-stays
returns-in_err-told-clause-stays g c =
    let first = c.args.pass.now in
    let look = look_stays first c.loop.pass c.first_pending.new.pass c.requires.at_front.first c.loop.invariant.0 c.first_pending.ensures.looks in
    stays_on (log_of first.seen) first.seen c.first_pending.new.pass.seen c.told.new.pass.seen (stays_on (log_of first.seen) first.seen c.loop.pass.seen c.first_pending.new.pass.seen c.loop.invariant.1 look) c.told.ensures.stays

pub returns-after-loop-clause-stand : goal.returns-after-loop-clause-stand
returns-after-loop-clause-stand g c =
    all_below c.args.log.now c.loop.pass.seen c.loop.from (c.loop.invariant.1.logged ∙ sym c.requires.front.logged)
    (none_left (length (names_of (library_of c.args.log.now))) c.most_modules-end.result c.loop.counter c.loop.from c.most_modules-end.ensures c.loop-test.false c.loop.invariant.3)
    c.loop.invariant.2

pub returns-in_default-clause-stays : goal.returns-in_default-clause-stays
returns-in_default-clause-stays g c =
    let first = c.args.pass.now in
    stays_on (log_of first.seen) first.seen c.loop.pass.seen c.first_pending.new.pass.seen c.loop.invariant.1
    (look_stays first c.loop.pass c.first_pending.new.pass c.requires.at_front.first c.loop.invariant.0 c.first_pending.ensures.looks)

pub returns-in_default-clause-stand : goal.returns-in_default-clause-stand
returns-in_default-clause-stand g c =
    let first = c.args.pass.now in
    let look = look_stays first c.loop.pass c.first_pending.new.pass c.requires.at_front.first c.loop.invariant.0 c.first_pending.ensures.looks in
    let looked = stays_on (log_of first.seen) first.seen c.loop.pass.seen c.first_pending.new.pass.seen c.loop.invariant.1 look in
    all_settled c.args.log.now c.loop.pass.seen c.first_pending.new.pass.seen c.loop.from (looked.logged ∙ sym c.requires.front.logged) look c.loop.invariant.2
    (subst (IsFirstPending dependencies c.first_pending.new.pass.seen c.loop.from) c.in_default.is c.first_pending.ensures.pending)

pub returns-in_default-name_at-clause-stays : goal.returns-in_default-name_at-clause-stays
returns-in_default-name_at-clause-stays g c =
    let first = c.args.pass.now in
    stays_on (log_of first.seen) first.seen c.loop.pass.seen c.first_pending.new.pass.seen c.loop.invariant.1
    (look_stays first c.loop.pass c.first_pending.new.pass c.requires.at_front.first c.loop.invariant.0 c.first_pending.ensures.looks)

pub returns-in_default-name_at-clause-stand : goal.returns-in_default-name_at-clause-stand
returns-in_default-name_at-clause-stand g c =
    let first = c.args.pass.now in
    let look = look_stays first c.loop.pass c.first_pending.new.pass c.requires.at_front.first c.loop.invariant.0 c.first_pending.ensures.looks in
    let looked = stays_on (log_of first.seen) first.seen c.loop.pass.seen c.first_pending.new.pass.seen c.loop.invariant.1 look in
    let within = found_within c.args.log.now c.loop.pass.seen c.first_pending.new.pass.seen c.loop.from (looked.logged ∙ sym c.requires.front.logged) look c.loop.invariant.2 c.in-Some.place
    (subst (IsFirstPending dependencies c.first_pending.new.pass.seen c.loop.from) c.in-Some.is c.first_pending.ensures.pending) in
    let past = past_end c.args.log.now c.in-Some.place (sym c.name_at.ensures ∙ ap option_copied c.in_default-name_at.is) in
    absurd (omega (arith, within, past))
