use Rattle.std.proofs.Common.{sym, ap, ◌∙◌}
use Rattle.link_setting.specs.PathTrees.{go_on, steps_of}
use Rattle.link_setting.proofs.PathTrees.{along_next, one_more}
use Rattle.link_setting.proofs.path_tree.PathTree.add.Goals as goal
use Rattle.link_setting.proofs.path_tree.PathTree.add.Goals.{in-Some, in-None+in_ok-at-in-None}

pub loop-name-preserved : goal.loop-name-preserved
loop-name-preserved c =
    let initial = steps_of c.args.self.now in
    let steps = steps_of c.loop-name.self in
    let names = c.as_slice-name-items.result.now in
    let i = c.loop-name.name-index in
    let name = c.name-item.result in
    elim c.match-step.branch [
      | in-Some w ↦
          rw (w.self-is, w.at-is) (record {
            at = along_next steps names i name c.loop-name-test.true c.name-item.is ∙ ap (λ o. go_on steps o name) c.loop-name.invariant.at ∙ sym c.step.ensures ∙ w.in-Some.is;
            stay = c.loop-name.invariant.stay;
            begun = c.loop-name.invariant.begun;
          })
      | in-None+in_ok-at-in-None w ↦
          let more = one_more initial steps (steps_of w.add_step.new.self) names c.args.path.now i c.loop-name.at w.in_ok-at-in-None.at _ w.in_ok-at-in-None.ensures.steps w.in_ok-at-in-None.ensures.place c.as_slice-name-items.ensures.names
          c.loop-name-test.true c.name-item.is c.loop-name.invariant.at (sym c.step.ensures ∙ w.in-None.is) c.loop-name.invariant.stay c.loop-name.invariant.begun in
          rw (w.self-is, w.at-is) (record { at = more.0; stay = more.1; begun = more.2 })
    ]
