use Rattle.std.proofs.Common.{sym, ◌∙◌, arith}
use Rattle.module_check.proofs.AnsweredFaces.{next_absent, next_present, row_there}
use Rattle.module_check.proofs.answered.faces_of.Goals as goal
use Rattle.module_check.proofs.answered.faces_of.Goals.{in-Some+in_ok-add_present, in_default}

pub loop-place-preserved : goal.loop-place-preserved
loop-place-preserved c = elim c.match-at.branch [
  | in-Some+in_ok-add_present w ↦ next_present c.args.answers.now c.loop-place.place _ c.loop-place.faces c.match-at.faces (sym w.in-Some.ensures.row) c.loop-place.invariant (w.faces-is ∙ w.in_ok-add_present.ensures {u = tt})
  | in_default w ↦ absurd (row_there c.args.answers.now c.loop-place.place (omega arith) (sym w.in_default.ensures.row))
]

pub add_present-requires : goal.add_present-requires
add_present-requires c =
    next_absent c.args.answers.now c.loop-place.place _ c.loop-place.faces c.len-place-end.ensures.ordered (sym c.in-Some.ensures.row) c.loop-place.invariant
