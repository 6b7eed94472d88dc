use Rattle.std.proofs.Common.{◌≡◌, ◌≤◌, ◌+◌, ◌++◌, ℕ, suc, List, length, option_copied, sym, ap, ◌∙◌, subst, arith}
use Rattle.edit_log_meaning.specs.Log.{library_of, names_of}
use Rattle.board_front.proofs.Checked.{ChecksSoFar, all_stand, all_written, next_checked, past_end}
use Rattle.board_front.proofs.Histories.{keeps_on}
use Rattle.board_front.proofs.reports.check_lines.Goals.{else-loop-place-test, then-loop-place-test+in_default}
use Rattle.board_front.proofs.reports.check_lines.Goals as goal

one_more : (place : ℕ) → suc place ≡ place + 1
one_more place = omega arith

none_left : (names end place : ℕ) → names ≤ end → end ≤ place → names ≤ place
none_left names end place m f = omega (arith, m, f)

pub loop-place-preserved : goal.loop-place-preserved
loop-place-preserved g c = (
  keeps_on c.args.pass.now c.loop-place.pass c.report_lines.new.pass c.loop-place.invariant.0 c.report_lines.ensures.keeps,
  subst (λ (place : ℕ). ChecksSoFar c.args.log.now c.args.pass.now.seen c.report_lines.new.pass.seen place c.extend.new.self) (one_more c.loop-place.place)
      (subst (λ (lines : List ℕ). ChecksSoFar c.args.log.now c.args.pass.now.seen c.report_lines.new.pass.seen (suc c.loop-place.place) lines)
      (sym (c.in_ok-extend.ensures.ok ∙ ap (λ (line : List ℕ). c.loop-place.lines ++ line) c.as_slice.ensures))
      (next_checked c.args.log.now c.args.pass.now.seen c.loop-place.pass.seen c.report_lines.new.pass.seen c.loop-place.place c.in-Some.name.now c.loop-place.lines c.in_ok-line.line
      (sym c.name_at.ensures ∙ ap option_copied c.in-Some.is) c.loop-place.invariant.1 c.report_lines.ensures.stays c.in_ok-line.ensures.line c.in_ok-line.ensures.stands)),
)

pub returns-clause-lines : goal.returns-clause-lines
returns-clause-lines g c =
    elim c.loop-place-test.branch [
      | else-loop-place-test w ↦ all_written c.args.log.now c.args.pass.now.seen c.loop-place.pass.seen c.loop-place.place c.loop-place.lines c.loop-place.invariant.1
          (none_left (length (names_of (library_of c.args.log.now))) c.most_modules-place-end.result c.loop-place.place c.most_modules-place-end.ensures w.loop-place-test.false)
      | then-loop-place-test+in_default w ↦ all_written c.args.log.now c.args.pass.now.seen c.loop-place.pass.seen c.loop-place.place c.loop-place.lines c.loop-place.invariant.1
          (past_end c.args.log.now c.loop-place.place (sym w.name_at.ensures ∙ ap option_copied w.in_default.is))
    ]

pub returns-clause-stand : goal.returns-clause-stand
returns-clause-stand g c =
    elim c.loop-place-test.branch [
      | else-loop-place-test w ↦ all_stand c.args.log.now c.args.pass.now.seen c.loop-place.pass.seen c.loop-place.place c.loop-place.lines c.loop-place.invariant.1
          (none_left (length (names_of (library_of c.args.log.now))) c.most_modules-place-end.result c.loop-place.place c.most_modules-place-end.ensures w.loop-place-test.false)
      | then-loop-place-test+in_default w ↦ all_stand c.args.log.now c.args.pass.now.seen c.loop-place.pass.seen c.loop-place.place c.loop-place.lines c.loop-place.invariant.1
          (past_end c.args.log.now c.loop-place.place (sym w.name_at.ensures ∙ ap option_copied w.in_default.is))
    ]
