use Rattle.std.proofs.Common.{ap, sym, ◌∙◌}
use Rattle.lf_meaning.specs.Equality.{same_kind}
use Rattle.term_trees.specs.Readings.{read_kind}
use Rattle.mmt_syntax.specs.Readings.{read_span}
use Rattle.elaborate.proofs.HeadsStand.{family_head}
use Rattle.elaborate.proofs.OutcomesStand.{body_stands_at}
use Rattle.elaborate.proofs.heads.Head.family_at_domains.Goals as goal

pub returns-in_ok-into_body-in-Kind : goal.returns-in_ok-into_body-in-Kind
returns-in_ok-into_body-in-Kind c head stands domain rest domains =
    let t = c.args.kind.now in
    let same = ap (λ k. same_kind (read_kind k) (read_kind t)) (sym c.get.ensures) ∙ sym c.same_kind.ensures ∙ c.if-same_kind.true in
    let body = c.in_ok-into_body-in-Kind in
    body_stands_at (read_span c.args.span) c.args.self t domain rest domains head stands c.in-Kind.found body.field-0 c.in-Kind.is same body.ensures

pub into_body-requires : goal.into_body-requires
into_body-requires c = family_head c.args.self c.in-Kind.found c.in-Kind.is c.requires
