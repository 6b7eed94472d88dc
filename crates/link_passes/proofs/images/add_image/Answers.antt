use Rattle.std.proofs.Common.{ap, ◌∙◌}
use Rattle.lf_meaning.specs.HeadMaps.{image_of}
use Rattle.base_types.specs.declared.qname.QName.{QName}
use Rattle.term_trees.specs.Readings.{read_constant, read_map}
use Rattle.link_setting.proofs.NewImages.{new_in_table}
use Rattle.link_passes.proofs.images.add_image.Goals as goal

pub push_new-requires : goal.push_new-requires
push_new-requires c =
    new_in_table c.args.along.now c.in-Ok.name (ap (λ (n : QName). image_of (read_map c.args.along.now) (read_constant n)) c.in-Ok.ensures ∙ c.requires.next.fresh)
