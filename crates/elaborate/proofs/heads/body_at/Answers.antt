use Rattle.std.proofs.Common.{refl, ap, sym, ◌∙◌}
use Rattle.term_trees.specs.Readings.{read_object}
use Rattle.elaborate.specs.LentValues.{value_of}
use Rattle.elaborate.proofs.ClosedTerms.{body_left}
use Rattle.elaborate.proofs.heads.body_at.Goals as goal

pub returns-in-Pi : goal.returns-in-Pi
returns-in-Pi c =
    body_left c.args.family c.in-Borrowed.borrowed.now c.in-Pi.field-0 c.in-Pi.body c.deref.result.now c.deref-in-Pi.result.now (read_object c.args.argument.now)
    (ap value_of c.in-Borrowed.is) c.in-Pi.is c.deref.ensures c.deref-in-Pi.ensures (c.if-is_closed_family.ensures refl)

pub returns-then-is_closed_family-2 : goal.returns-then-is_closed_family-2
returns-then-is_closed_family-2 c =
    let pi = c.in-Pi-into_inner in
    body_left c.args.family c.in-Made.made.value pi.domain pi.body c.deref-in-Pi-into_inner.result.now pi.body.value (read_object c.args.argument.now)
    (ap value_of c.in-Made.is) (sym c.into_inner.ensures ∙ pi.is) c.deref-in-Pi-into_inner.ensures refl (c.if-is_closed_family-2.ensures refl)
