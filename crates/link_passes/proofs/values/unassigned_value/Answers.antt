use Rattle.std.proofs.Common.{sym, ap, ◌∙◌}
use Rattle.std.specs.Option.{option_map}
use Rattle.mapping_laws.specs.NextImages.{unmapped_definition}
use Rattle.term_trees.specs.Readings.{read_map, read_value}
use Rattle.link_passes.proofs.values.unassigned_value.Goals as goal

pub translated_value-requires : goal.translated_value-requires
translated_value-requires c = ap (λ value. unmapped_definition (read_map c.args.along.now) (option_map read_value value)) (sym c.in-Some.is) ∙ c.requires
