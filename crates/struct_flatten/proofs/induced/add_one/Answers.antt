use Rattle.term_trees.specs.Readings.{read_declaration, read_image, read_map, read_signature}
use Rattle.struct_flatten.proofs.Adding.{induced_new}
use Rattle.struct_flatten.proofs.induced.add_one.Goals as goal

pub add-requires : goal.add-requires
add-requires c =
    induced_new c.args.here.now c.args.face.now.name (read_map c.args.face.now.map) (read_signature c.args.own.now) (read_declaration c.args.decl.now) (read_image c.in-Some.image.now) (read_declaration c.in_ok-induced_from-in-Some.field-0)
    c.in-Some.ensures.meaning c.in_ok-induced_from-in-Some.ensures c.requires
