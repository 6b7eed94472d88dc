use Rattle.std.proofs.Common.{◌≡◌, ◌+◌, suc, length, sym, ap, ◌∙◌, arith, eqb-true, eq-eqb, nat_eq}
use Rattle.std.proofs.lemmas.Bool.{false_from_ne_true}
use Rattle.edit_log_meaning.specs.Log.{stamp_of}
use Rattle.verdict_board.specs.Readings.{read_inputs}
use Rattle.verdict_board.proofs.Ends.{changed_at, none_changed, changed_next, read_here, length_read}
use Rattle.verdict_board.proofs.board.Board.first_changed.Goals as goal

pub returns-then-stamp-input : goal.returns-then-stamp-input
returns-then-stamp-input g c =
    let here = read_here c.args.inputs.now c.as_slice-input-items.result.now c.loop-place.place c.input-item.result c.as_slice-input-items.ensures c.loop-place-test.true c.input-item.is in
    rw (← c.self.view_is) (changed_at c.self.inside.history.entries (read_inputs c.args.inputs.now) c.loop-place.place (record { name = c.input-item.result.name; stamp = c.input-item.result.stamp }) c.stamp-stamp.result here
    (c.stamp-stamp.ensures ∙ ap (λ log. stamp_of log c.input-item.result.name) c.self.invariant.logged)
    (false_from_ne_true (nat_eq c.stamp-stamp.result c.input-item.result.stamp) (λ t. c.if-stamp-input.true (eqb-true c.stamp-stamp.result c.input-item.result.stamp t)))
    c.loop-place.invariant)

pub loop-place-preserved : goal.loop-place-preserved
loop-place-preserved g c =
    let here = read_here c.args.inputs.now c.as_slice-input-items.result.now c.loop-place.place c.input-item.result c.as_slice-input-items.ensures c.loop-place-test.true c.input-item.is in
    let one : c.loop-place.place + 1 ≡ suc c.loop-place.place = omega arith in
    let stamp = c.stamp-stamp.ensures ∙ ap (λ log. stamp_of log c.input-item.result.name) c.self.invariant.logged in
    rw one (changed_next c.self.inside.history.entries (read_inputs c.args.inputs.now) c.loop-place.place (record { name = c.input-item.result.name; stamp = c.input-item.result.stamp }) here
    (eq-eqb _ c.input-item.result.stamp (sym stamp ∙ c.if-stamp-input.false)) c.loop-place.invariant)

pub returns : goal.returns
returns g c =
    let past = c.loop-place-test.false in
    let list = ap length c.as_slice-input-items.ensures in
    let long = length_read c.args.inputs.now in
    rw (← c.self.view_is) (none_changed c.self.inside.history.entries (read_inputs c.args.inputs.now) c.loop-place.place (omega (arith, past, list, long)) c.loop-place.invariant)
