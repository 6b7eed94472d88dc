use Rattle.std.proofs.Common.{sym, ◌∙◌}
use Rattle.mmt_syntax.specs.Readings.{read_span}
use Rattle.elaborate.proofs.HeadsStand.{family_head, family_stands}
use Rattle.elaborate.proofs.heads.Head.family_at_type.Goals as goal

pub returns-in_ok-into_family-in-Ty : goal.returns-in_ok-into_family-in-Ty
returns-in_ok-into_family-in-Ty c head stands =
    let family = c.in_ok-into_family-in-Ty in
    family_stands (read_span c.args.span) c.args.self c.in-Kind.kind family.field-0 head c.in-Kind.is (sym c.get.ensures ∙ c.in-Ty.is) stands family.ensures

pub into_family-requires : goal.into_family-requires
into_family-requires c = family_head c.args.self c.in-Kind.kind c.in-Kind.is c.requires
