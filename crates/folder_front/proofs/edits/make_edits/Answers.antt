use Rattle.std.proofs.Common.{◌≡◌, ◌+◌, ℕ, suc, Some, refl, sym, ap, ◌∙◌, subst, arith}
use Rattle.edit_log.specs.Readings.{read_edit}
use Rattle.board_seats.specs.Seats.{Keeps}
use Rattle.report_text.proofs.Entries.{edit_behind, none_within}
use Rattle.board_front.proofs.Histories.{keeps_on}
use Rattle.folder_front.proofs.Editing.{EditsSoFar, first_edits, maybe_edit, next_edit, no_edits}
use Rattle.folder_front.proofs.Results.{on_error}
use Rattle.folder_front.proofs.edits.make_edits.Goals.{in-Some+in_ok-edit+in_ok-make_edit, in_default}
use Rattle.folder_front.proofs.edits.make_edits.Goals as goal

pub loop-before-init : goal.loop-before-init
loop-before-init g c = (refl, no_edits c.args.loaded.now c.new-log.result c.args.pass.now.seen c.new-log.ensures c.requires.empty)

pub returns-in_err-edit-clause-so_far : goal.returns-in_err-edit-clause-so_far
returns-in_err-edit-clause-so_far g c =
    on_error c.from_residual.result _ (first_edits c.args.loaded.now c.loop-before.before c.loop-before.log c.loop-before.pass.seen c.loop-before.invariant.1)

pub returns-in_err-make_edit-clause-so_far : goal.returns-in_err-make_edit-clause-so_far
returns-in_err-make_edit-clause-so_far g c =
    let before = c.loop-before.before in
    let here = sym (edit_behind c.args.loaded.now before) ∙ sym c.in-Some.ensures ∙ ap (λ e. Some (read_edit e)) (sym c.in_ok-edit.ensures) in
    on_error c.from_residual-in_err-make_edit.result _
    (maybe_edit c.args.loaded.now before c.loop-before.log c.loop-before.pass.seen c.make_edit.new.pass.seen (read_edit c.in_ok-edit.edit) here c.loop-before.invariant.1 c.in_err-make_edit.ensures.so_far)

pub loop-before-preserved : goal.loop-before-preserved
loop-before-preserved g c =
    let log = c.args.loaded.now in
    let before = c.loop-before.before in
    let plus : suc before ≡ before + 1 = omega arith in
    elim c.match-entry.branch [
      | in-Some+in_ok-edit+in_ok-make_edit w ↦
          let here = sym (edit_behind log before) ∙ sym w.in-Some.ensures ∙ ap (λ e. Some (read_edit e)) (sym w.in_ok-edit.ensures) in (
            subst (λ p. Keeps c.args.pass.now p) (sym w.pass-is) (keeps_on c.args.pass.now c.loop-before.pass w.make_edit.new.pass c.loop-before.invariant.0 w.make_edit.ensures.keeps),
            subst (λ p. EditsSoFar log (before + 1) c.match-entry.log p.seen) (sym w.pass-is)
                (subst (λ l. EditsSoFar log (before + 1) l w.make_edit.new.pass.seen) (sym w.log-is)
                (subst (λ (n : ℕ). EditsSoFar log n w.make_edit.new.log w.make_edit.new.pass.seen) plus
                (next_edit log before c.loop-before.log c.loop-before.pass.seen w.make_edit.new.pass.seen (read_edit w.in_ok-edit.edit) here c.loop-before.invariant.1
                w.make_edit.new.log w.in_ok-make_edit.ensures.log w.in_ok-make_edit.ensures.edits))),
          )
      | in_default w ↦ absurd (none_within log before (omega (arith, c.loop-before-test.true, c.version-before-end.ensures.version)) (sym (edit_behind log before) ∙ sym w.in_default.ensures))
    ]
