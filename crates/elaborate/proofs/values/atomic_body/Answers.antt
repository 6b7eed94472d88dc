use Rattle.term_trees.specs.Readings.{read_kind}
use Rattle.elaborate.specs.Contexts.{locals_of, scope_of}
use Rattle.elaborate.proofs.HeadsStand.{begun}
use Rattle.elaborate.proofs.KindSteps.{body_begins}
use Rattle.elaborate.proofs.values.atomic_body.Goals as goal

pub returns : goal.returns
returns c =
    body_begins (scope_of c.args.context.now) (locals_of c.args.context.now) c.args.expr.now (read_kind c.args.kind.now) c.in_ok-head.head c.family_at_kind.result c.in_ok-head.ensures c.family_at_kind.ensures

pub family_at_kind-requires : goal.family_at_kind-requires
family_at_kind-requires c = begun c.in_ok-head.head _ c.in_ok-head.ensures
