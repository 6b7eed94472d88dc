use Rattle.std.proofs.Common.{refl, ap, sym, ◌∙◌}
use Rattle.term_trees.specs.Readings.{read_object}
use Rattle.elaborate.specs.LentValues.{value_of}
use Rattle.elaborate.proofs.ClosedTerms.{rest_left}
use Rattle.elaborate.proofs.heads.kind_at.Goals as goal

pub returns-in-Pi : goal.returns-in-Pi
returns-in-Pi c =
    rest_left c.args.kind c.in-Borrowed.borrowed.now c.in-Pi.field-0 c.in-Pi.rest c.deref.result.now c.deref-in-Pi.result.now (read_object c.args.argument.now)
    (ap value_of c.in-Borrowed.is) c.in-Pi.is c.deref.ensures c.deref-in-Pi.ensures (c.if-is_closed_kind.ensures refl)

pub returns-then-is_closed_kind-2 : goal.returns-then-is_closed_kind-2
returns-then-is_closed_kind-2 c =
    let pi = c.in-Pi-into_inner in
    rest_left c.args.kind c.in-Made.made.value pi.domain pi.rest c.deref-in-Pi-into_inner.result.now pi.rest.value (read_object c.args.argument.now)
    (ap value_of c.in-Made.is) (sym c.into_inner.ensures ∙ pi.is) c.deref-in-Pi-into_inner.ensures refl (c.if-is_closed_kind-2.ensures refl)
