use Rattle.std.proofs.Common.{sym, ◌∙◌}
use lib.Pointwise.{pointwise}
use Rattle.lf_meaning.specs.Equality.{same_object, same_atomic}
use Rattle.term_trees.specs.Readings.{read_head, read_object, read_arguments}
use Rattle.term_trees.proofs.SpineSameness.{same_object_at, first_decides, second_decides}
use Rattle.term_trees.proofs.sameness.+sameness.Goals as goal

pub same_obj-returns-then-same_head : goal.same_obj-returns-then-same_head
same_obj-returns-then-same_head t c =
    let at = c.in-At-At in
    let heads = same_atomic (read_head at.h) (read_head at.g) in
    let spines = pointwise same_object (read_arguments at.s) (read_arguments at.r) in
    let whole = same_object_at c.args.a.now c.args.b.now at.h at.g at.s at.r at.is-0 at.is-1 in
    c.same_spine.ensures ∙ second_decides heads spines (same_object (read_object c.args.a.now) (read_object c.args.b.now)) c.if-same_head.ensures whole

pub same_obj-returns-else-same_head : goal.same_obj-returns-else-same_head
same_obj-returns-else-same_head t c =
    let at = c.in-At-At in
    let heads = same_atomic (read_head at.h) (read_head at.g) in
    let spines = pointwise same_object (read_arguments at.s) (read_arguments at.r) in
    let whole = same_object_at c.args.a.now c.args.b.now at.h at.g at.s at.r at.is-0 at.is-1 in
    let failed = sym c.same_head.ensures ∙ c.if-same_head.false in
    c.same_head.ensures ∙ first_decides heads spines (same_object (read_object c.args.a.now) (read_object c.args.b.now)) failed whole
