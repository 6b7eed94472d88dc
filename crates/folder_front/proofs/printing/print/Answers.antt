use Rattle.std.proofs.lemmas.Result.{err_from_is_err_and}
use Rattle.folder_front.proofs.Pages.{all_printed, stopped_at_counts, stopped_at_faults, stopped_at_verdicts}
use Rattle.folder_front.proofs.Results.{prints_error}
use Rattle.folder_front.proofs.printing.print.Goals as goal

pub returns-in_err-write_faults-clause-prints : goal.returns-in_err-write_faults-clause-prints
returns-in_err-write_faults-clause-prints g c =
    let before = g.K.Sink.taken c.args.sink.now in
    let first = g.K.Sink.taken c.write_faults.new.sink in
    let history = c.args.pass.now.seen in
    let p = err_from_is_err_and c.from_residual.result c.from_residual.ensures.1 in
    prints_error c.from_residual.result p.0 before first c.args.sheet.now history p.1
    (stopped_at_faults c.args.sheet.now before first history (c.in_err-write_faults.ensures.writes history))

pub returns-in_err-tally-clause-prints : goal.returns-in_err-tally-clause-prints
returns-in_err-tally-clause-prints g c =
    let before = g.K.Sink.taken c.args.sink.now in
    let first = g.K.Sink.taken c.write_faults.new.sink in
    let second = g.K.Sink.taken c.write_verdicts.new.sink in
    let history = c.write_verdicts.new.pass.seen in
    let p = err_from_is_err_and c.from_residual-in_err-tally.result c.from_residual-in_err-tally.ensures.1 in
    prints_error c.from_residual-in_err-tally.result p.0 before second c.args.sheet.now history p.1
    (stopped_at_verdicts c.args.sheet.now before first history (c.in_ok-write_faults.ensures.writes history) second c.in_err-tally.ensures.writes)

pub returns-in_err-write_counts-clause-prints : goal.returns-in_err-write_counts-clause-prints
returns-in_err-write_counts-clause-prints g c =
    let before = g.K.Sink.taken c.args.sink.now in
    let first = g.K.Sink.taken c.write_faults.new.sink in
    let second = g.K.Sink.taken c.write_verdicts.new.sink in
    let last = g.K.Sink.taken c.write_counts.new.sink in
    let history = c.write_verdicts.new.pass.seen in
    let p = err_from_is_err_and c.from_residual-in_err-write_counts.result c.from_residual-in_err-write_counts.ensures.1 in
    prints_error c.from_residual-in_err-write_counts.result p.0 before last c.args.sheet.now history p.1
    (stopped_at_counts c.args.sheet.now before first history (c.in_ok-write_faults.ensures.writes history) second c.in_ok-tally.ensures.writes last
    c.in_ok-tally.tally c.in_ok-tally.ensures.tally c.in_err-write_counts.ensures.finishes)

pub returns-clause-prints : goal.returns-clause-prints
returns-clause-prints g c =
    let before = g.K.Sink.taken c.args.sink.now in
    let first = g.K.Sink.taken c.write_faults.new.sink in
    let second = g.K.Sink.taken c.write_verdicts.new.sink in
    let last = g.K.Sink.taken c.write_counts.new.sink in
    let history = c.write_verdicts.new.pass.seen in
    all_printed c.args.sheet.now before first history (c.in_ok-write_faults.ensures.writes history) second c.in_ok-tally.ensures.writes last
    c.in_ok-tally.tally c.in_ok-tally.ensures.tally c.status.result c.in_ok-write_counts.ensures.finishes c.status.ensures
