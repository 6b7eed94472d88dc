use Rattle.std.proofs.Common.{[], ◌∷◌, drop, sym, ap, ◌∙◌, ◌+◌}
use Rattle.std.proofs.lemmas.List.{map-append}
use Rattle.std.proofs.lemmas.Result.{err_from_is_err_and}
use Rattle.link_setting.specs.Readings.{read_all_assigned, read_assigned, read_setting}
use Rattle.assignment_pass.specs.Steps.{earlier_targets}
use Rattle.assignment_pass.proofs.AssignmentsLeft.{all_given, goes_on_with, next_given, none_given}
use Rattle.list_laws.proofs.Answers.{goes_on}
use Rattle.link_setting.proofs.FirstRefusals.{refuses_first}
use Rattle.assignment_pass.proofs.assignments.read_all.Goals as goal

pub loop-assign-init : goal.loop-assign-init
loop-assign-init c = record {
  given = none_given (read_setting c.args.setting.now) (earlier_targets c.args.targets.now) (read_all_assigned c.args.given.now.items) c.args.assigns.now
      c.requires.targets (ap read_all_assigned c.requires.nothing);
  tabled = c.requires.tabled;
}

pub returns-in_err-read_assign : goal.returns-in_err-read_assign
returns-in_err-read_assign c =
    let p = err_from_is_err_and c.from_residual.result c.from_residual.ensures.1 in
    let assigns = c.args.assigns.now in
    let more = next_given (read_setting c.args.setting.now) (earlier_targets c.loop-assign.targets) (read_all_assigned c.loop-assign.given.items) assigns c.loop-assign.assign-index c.assign-item.result c.loop-assign-test.true c.assign-item.is in
    let whole = c.loop-assign.invariant.given ∙ more in
    rw (p.1, p.2) (refuses_first c.in_err-read_assign.field-0.0 _ _ _ whole c.in_err-read_assign.ensures)

pub loop-assign-preserved : goal.loop-assign-preserved
loop-assign-preserved c =
    let setting = read_setting c.args.setting.now in
    let assigns = c.args.assigns.now in
    let i = c.loop-assign.assign-index in
    let more = next_given setting (earlier_targets c.loop-assign.targets) (read_all_assigned c.loop-assign.given.items) assigns i c.assign-item.result c.loop-assign-test.true c.assign-item.is in
    let pushed = ap read_all_assigned c.in_ok-push.ensures.items ∙ map-append read_assigned c.loop-assign.given.items (c.in_ok-read_assign.field-0 ∷ []) in
    record {
      given = goes_on _ _ _ _ (c.loop-assign.invariant.given ∙ more) c.in_ok-read_assign.ensures
          ∙ (λ j. goes_on_with setting (sym c.in_ok-add.ensures.targets j) (sym pushed j) (drop (i + 1) assigns));
      tabled = c.in_ok-add.ensures.tabled c.loop-assign.invariant.tabled;
    }

pub returns : goal.returns
returns c =
    let setting = read_setting c.args.setting.now in
    let assigns = c.args.assigns.now in
    c.loop-assign.invariant.given ∙ all_given setting (earlier_targets c.loop-assign.targets) (read_all_assigned c.loop-assign.given.items) assigns c.loop-assign.assign-index c.loop-assign-test.false
