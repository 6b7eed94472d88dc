use Rattle.std.proofs.Common.{◌≡◌, ◌+◌, ℕ, suc, option_copied, sym, ap, ◌∙◌, subst, arith}
use Rattle.std.proofs.lemmas.Result.{err_from_is_err_and}
use Rattle.board_front.proofs.Checked.{past_end}
use Rattle.board_front.proofs.Histories.{keeps_on}
use Rattle.folder_front.proofs.Counting.{LinesSoFar, all_counted, all_wrote, next_line, stopped_line}
use Rattle.folder_front.proofs.Results.{writes_error}
use Rattle.folder_front.proofs.verdicts.write_verdicts.Goals as goal

pub returns-in_err-is_accepted-clause-writes : goal.returns-in_err-is_accepted-clause-writes
returns-in_err-is_accepted-clause-writes g c =
    let before = g.K.Sink.taken c.args.sink.now in
    let now = g.K.Sink.taken c.loop-place.sink in
    let new = g.K.Sink.taken c.write_verdict.new.sink in
    let p = err_from_is_err_and c.from_residual.result c.from_residual.ensures.1 in
    writes_error c.from_residual.result p.0 before new _ c.write_verdict.new.pass.seen p.1
    (stopped_line c.args.sheet.now before now c.args.pass.now.seen c.loop-place.pass.seen c.loop-place.place c.loop-place.tally c.loop-place.invariant.lines
    new c.write_verdict.new.pass.seen c.in-Some.name.now (sym c.name_at.ensures ∙ ap option_copied c.in-Some.is) c.write_verdict.ensures.stays c.in_err-is_accepted.ensures.writes)

pub loop-place-preserved : goal.loop-place-preserved
loop-place-preserved g c =
    let before = g.K.Sink.taken c.args.sink.now in
    let now = g.K.Sink.taken c.loop-place.sink in
    let new = g.K.Sink.taken c.write_verdict.new.sink in
    let place = c.loop-place.place in
    let plus : suc place ≡ place + 1 = omega arith in
    record {
      keeps = keeps_on c.args.pass.now c.loop-place.pass c.write_verdict.new.pass c.loop-place.invariant.keeps c.write_verdict.ensures.keeps;
      lines = subst (λ (n : ℕ). LinesSoFar c.args.sheet.now before new c.args.pass.now.seen c.write_verdict.new.pass.seen n c.count.new.self) plus
          (next_line c.args.sheet.now before now c.args.pass.now.seen c.loop-place.pass.seen place c.loop-place.tally c.loop-place.invariant.lines
          new c.write_verdict.new.pass.seen c.in-Some.name.now (sym c.name_at.ensures ∙ ap option_copied c.in-Some.is) c.write_verdict.ensures.stays
          c.count.new.self c.in_ok-is_accepted.is_accepted c.count.ensures c.in_ok-is_accepted.ensures.accepted c.in_ok-is_accepted.ensures.writes);
      later = omega (arith, c.loop-place.invariant.later, c.write_verdict.ensures.cause.later);
    }

pub returns-in_default-clause-writes : goal.returns-in_default-clause-writes
returns-in_default-clause-writes g c =
    all_wrote c.args.sheet.now (g.K.Sink.taken c.args.sink.now) (g.K.Sink.taken c.loop-place.sink) c.args.pass.now.seen c.loop-place.pass.seen c.loop-place.place c.loop-place.tally
    c.loop-place.invariant.lines (past_end c.args.sheet.now.log c.loop-place.place (sym c.name_at.ensures ∙ ap option_copied c.in_default.is))

pub returns-in_default-clause-tally : goal.returns-in_default-clause-tally
returns-in_default-clause-tally g c =
    all_counted c.args.sheet.now (g.K.Sink.taken c.args.sink.now) (g.K.Sink.taken c.loop-place.sink) c.args.pass.now.seen c.loop-place.pass.seen c.loop-place.place c.loop-place.tally
    c.loop-place.invariant.lines (past_end c.args.sheet.now.log c.loop-place.place (sym c.name_at.ensures ∙ ap option_copied c.in_default.is))
