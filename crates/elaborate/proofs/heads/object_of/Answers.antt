use Rattle.translation_meaning.specs.Heads as heads
use Rattle.elaborate_meaning.specs.NameHeads.{declared_head}
use Rattle.term_trees.specs.Readings.{read_declaration}
use Rattle.elaborate.proofs.HeadsStand.{put_on_spine, object_valued, object_unvalued}
use Rattle.elaborate.proofs.heads.object_of.Goals as goal

pub returns-in_ok-object_in_place-in-Some : goal.returns-in_ok-object_in_place-in-Some
returns-in_ok-object_in_place-in-Some c object family h =
    let placed = c.in_ok-object_in_place-in-Some in
    object_valued c.args.decl.now c.in_ok-spine.spine c.in-Some.value placed.field-0 object family c.in-Some.is placed.ensures (put_on_spine c.in_ok-spine.spine c.args.arguments.items (declared_head (read_declaration c.args.decl.now)) (heads.ObjectHead object family) c.in_ok-spine.ensures h)

pub returns-in_ok-copy-in-None : goal.returns-in_ok-copy-in-None
returns-in_ok-copy-in-None c object family h =
    object_unvalued c.args.decl.now c.in_ok-spine.spine c.in_ok-copy-in-None.field-0 object family c.in-None.is c.in_ok-copy-in-None.ensures (put_on_spine c.in_ok-spine.spine c.args.arguments.items (declared_head (read_declaration c.args.decl.now)) (heads.ObjectHead object family) c.in_ok-spine.ensures h)
