use Rattle.std.proofs.Common.{refl, ap, sym, ◌∙◌}
use Rattle.lf_meaning.specs.Raising.{raise_family}
use Rattle.term_trees.specs.Readings.{read_family}
use Rattle.term_trees.proofs.Raised.{raise_family_at}
use Rattle.elaborate.proofs.closed.+is_closed_family.Goals as goal

pub returns-in-At : goal.returns-in-At
returns-in-At t c closed =
    let from = c.args.from in
    let at = c.in-At in
    let raised = raise_family_at 1 from at.head at.head at.spine at.spine refl (c.are_closed.ensures closed) in
    ap read_family at.is ∙ raised ∙ sym (ap (λ a. raise_family 1 from (read_family a)) at.is)
