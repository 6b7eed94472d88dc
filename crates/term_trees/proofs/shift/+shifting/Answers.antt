use Rattle.std.proofs.Common.{◌≡◌, map, refl, ap, sym, subst, ◌∙◌}
use Rattle.lf_meaning.specs.Raising.{raise}
use Rattle.term_trees.specs.Readings.{read_object, read_arguments}
use Rattle.term_trees.specs.Changes.{changed}
use Rattle.term_trees.proofs.Raised.{raise_object_at}
use Rattle.term_trees.proofs.shift.+shifting.Goals as goal

pub raised_obj-returns-in_ok-shift_head-in-Some-2 : goal.raised_obj-returns-in_ok-shift_head-in-Some-2
raised_obj-returns-in_ok-shift_head-in-Some-2 t c =
    let by = c.args.by in
    let from = c.args.from in
    let head = c.in_ok-shift_head-in-Some-2 in
    let spine = subst (λ new. read_arguments (changed c.in-At.spine new) ≡ map (raise by from) (read_arguments c.in-At.spine)) c.in-Some-2.is c.in_ok-raised-in-At.ensures in
    raise_object_at by from c.in-At.head head.field-0 c.in-At.spine c.in-Some-2.raised head.ensures spine ∙ sym (ap (λ m. raise by from (read_object m)) c.in-At.is)

pub raised_obj-returns-in-None-2 : goal.raised_obj-returns-in-None-2
raised_obj-returns-in-None-2 t c =
    let by = c.args.by in
    let from = c.args.from in
    let spine = subst (λ new. read_arguments (changed c.in-At.spine new) ≡ map (raise by from) (read_arguments c.in-At.spine)) c.in-None-2.is c.in_ok-raised-in-At.ensures in
    let kept = raise_object_at by from c.in-At.head c.in-At.head c.in-At.spine c.in-At.spine (c.if-is_kept.ensures refl) spine in
    ap read_object c.in-At.is ∙ kept ∙ sym (ap (λ m. raise by from (read_object m)) c.in-At.is)

pub raised_obj-returns-in_ok-copy-in-None-2-2 : goal.raised_obj-returns-in_ok-copy-in-None-2-2
raised_obj-returns-in_ok-copy-in-None-2-2 t c =
    let by = c.args.by in
    let from = c.args.from in
    let head = c.in_ok-shift_head-in-None-2-2 in
    let copied = c.in_ok-copy-in-None-2-2 in
    let spine = subst (λ new. read_arguments (changed c.in-At.spine new) ≡ map (raise by from) (read_arguments c.in-At.spine)) c.in-None-2-2.is c.in_ok-raised-in-At.ensures in
    raise_object_at by from c.in-At.head head.field-0 c.in-At.spine copied.field-0 head.ensures (copied.ensures ∙ spine) ∙ sym (ap (λ m. raise by from (read_object m)) c.in-At.is)
