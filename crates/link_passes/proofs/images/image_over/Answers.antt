use Rattle.link_passes.proofs.images.image_over.Goals as goal

pub translated_class-requires : goal.translated_class-requires
translated_class-requires c = c.requires.next.class

pub own_value-requires : goal.own_value-requires
own_value-requires c = c.requires.next.definition
