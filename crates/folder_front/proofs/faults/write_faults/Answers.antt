use Rattle.std.proofs.Common.{◌≡◌, ◌+◌, ◌<◌, ◌≤◌, ℕ, suc, length, get_or, Some, sym, ap, ◌∙◌, subst, arith}
use Rattle.std.proofs.lemmas.Option.{slice_get-get_or}
use Rattle.std.proofs.lemmas.Result.{err_from_is_err_and}
use Rattle.mmt_outside.specs.Bytes.{appended, TookPrefix}
use Rattle.folder_front.proofs.FaultLines.{FaultsSoFar, all_faults, faults_here, next_fault, stopped_fault}
use Rattle.folder_front.proofs.Results.{writes_error}
use Rattle.folder_front.proofs.faults.write_faults.Goals as goal

pub returns-in_err-line-clause-writes : goal.returns-in_err-line-clause-writes
returns-in_err-line-clause-writes g c history =
    let p = err_from_is_err_and c.from_residual.result c.from_residual.ensures.1 in
    writes_error c.from_residual.result p.0 (g.K.Sink.taken c.args.sink.now) (g.K.Sink.taken c.loop-fault.sink) _ history p.1
    (faults_here (g.K.Sink.taken c.args.sink.now) (g.K.Sink.taken c.loop-fault.sink) c.args.faults.now c.loop-fault.fault-index c.loop-fault.invariant.0 history)

pub returns-in_err-write_all-clause-writes : goal.returns-in_err-write_all-clause-writes
returns-in_err-write_all-clause-writes g c history =
    let before = g.K.Sink.taken c.args.sink.now in
    let now = g.K.Sink.taken c.loop-fault.sink in
    let new = g.K.Sink.taken c.write_all.new.sink in
    let faults = c.args.faults.now in
    let i = c.loop-fault.fault-index in
    let item = c.fault-item.result in
    let below : i < length faults = omega (arith, c.loop-fault-test.true, ap length c.as_slice-fault-items.ensures) in
    let is : item ≡ get_or faults i item = c.fault-item.is ∙ ap (λ l. get_or l i item) c.as_slice-fault-items.ensures in
    let here = slice_get-get_or faults i item below ∙ ap Some (sym is) in
    let p = err_from_is_err_and c.from_residual-in_err-write_all.result c.from_residual-in_err-write_all.ensures.1 in
    writes_error c.from_residual-in_err-write_all.result p.0 before new _ history p.1
    (stopped_fault before now faults i c.loop-fault.invariant.0 item here new history
    (subst (TookPrefix now new) (c.as_slice.ensures ∙ c.in_ok-line.ensures) c.in_err-write_all.ensures.failed))

pub loop-fault-preserved : goal.loop-fault-preserved
loop-fault-preserved g c =
    let before = g.K.Sink.taken c.args.sink.now in
    let now = g.K.Sink.taken c.loop-fault.sink in
    let new = g.K.Sink.taken c.write_all.new.sink in
    let faults = c.args.faults.now in
    let i = c.loop-fault.fault-index in
    let item = c.fault-item.result in
    let below : i < length faults = omega (arith, c.loop-fault-test.true, ap length c.as_slice-fault-items.ensures) in
    let is : item ≡ get_or faults i item = c.fault-item.is ∙ ap (λ l. get_or l i item) c.as_slice-fault-items.ensures in
    let here = slice_get-get_or faults i item below ∙ ap Some (sym is) in
    let plus : suc i ≡ i + 1 = omega arith in (
      subst (λ (n : ℕ). FaultsSoFar before new faults n) plus
          (next_fault before now faults i c.loop-fault.invariant.0 item here new (c.in_ok-write_all.ensures.all ∙ ap (appended now) (c.as_slice.ensures ∙ c.in_ok-line.ensures))),
      omega (arith, c.loop-fault.invariant.1, c.in_ok-write_all.ensures.cause.later),
    )

pub returns-clause-writes : goal.returns-clause-writes
returns-clause-writes g c history =
    let faults = c.args.faults.now in
    let i = c.loop-fault.fault-index in
    let past : length faults ≤ i = omega (arith, c.loop-fault-test.false, ap length c.as_slice-fault-items.ensures) in
    all_faults (g.K.Sink.taken c.args.sink.now) (g.K.Sink.taken c.loop-fault.sink) faults i c.loop-fault.invariant.0 past history
