use Rattle.std.proofs.Common.{ap, ◌∙◌}
use Rattle.elaborate_meaning.specs.Values.{family_at_kind}
use Rattle.term_trees.specs.Readings.{read_family, read_kind}
use Rattle.term_trees.proofs.ReadingEquations.{read_kind_ty, read_kind_pi}
use Rattle.mmt_syntax.specs.Readings.{read_span}
use Rattle.elaborate.proofs.ExpansionSteps.{same_answer}
use Rattle.elaborate.proofs.heads.Head.family_at_kind.Goals as goal

pub returns-in-Ty : goal.returns-in-Ty
returns-in-Ty c head stands = same_answer read_family c.family_at_type.result _ _ (ap (λ k. family_at_kind (read_span c.args.span) k head) (ap read_kind c.in-Ty.is ∙ read_kind_ty)) (c.family_at_type.ensures head stands)

pub returns-in-Pi : goal.returns-in-Pi
returns-in-Pi c head stands = c.family_at_domains.ensures head stands _ _ (ap read_kind c.in-Pi.is ∙ read_kind_pi c.in-Pi.field-0 c.in-Pi.field-1)

pub family_at_type-requires : goal.family_at_type-requires
family_at_type-requires c = c.requires

pub family_at_domains-requires : goal.family_at_domains-requires
family_at_domains-requires c = c.requires
