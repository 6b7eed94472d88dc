use Rattle.std.proofs.Common.{refl, ap, sym, ◌∙◌}
use Rattle.lf_meaning.specs.Raising.{raise}
use Rattle.term_trees.specs.Readings.{read_object}
use Rattle.term_trees.proofs.Raised.{raise_object_at}
use Rattle.elaborate.proofs.closed.+closedness.Goals as goal

pub is_closed_object-returns-then-is_closed_head : goal.is_closed_object-returns-then-is_closed_head
is_closed_object-returns-then-is_closed_head t c closed =
    let from = c.args.from in
    let at = c.in-At in
    let raised = raise_object_at 1 from at.head at.head at.spine at.spine (c.if-is_closed_head.ensures refl) (c.are_closed.ensures closed) in
    ap read_object at.is ∙ raised ∙ sym (ap (λ m. raise 1 from (read_object m)) at.is)
