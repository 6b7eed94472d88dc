use Rattle.term_trees.specs.Readings.{read_constant, read_image, read_map}
use Rattle.link_passes.proofs.SharedImages.{image_mapped}
use Rattle.link_passes.proofs.sharing.constant_shared.Goals as goal

pub is_translated-requires : goal.is_translated-requires
is_translated-requires c =
    image_mapped (read_map c.args.along.now) (read_map c.args.structure.now.map) (read_constant c.args.decl.now.name) (read_image c.in-Some-Some.image.now) c.requires c.in-Some-Some.ensures.meaning
