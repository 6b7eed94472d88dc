use Rattle.translation_meaning.specs.Heads as heads
use Rattle.elaborate_meaning.specs.NameHeads.{declared_head}
use Rattle.term_trees.specs.Readings.{read_declaration}
use Rattle.elaborate.proofs.HeadsStand.{put_on_spine, family_valued, family_unvalued}
use Rattle.elaborate.proofs.heads.family_of.Goals as goal

pub returns-in_ok-family_in_place-in-Some : goal.returns-in_ok-family_in_place-in-Some
returns-in_ok-family_in_place-in-Some c binders family kind h =
    let placed = c.in_ok-family_in_place-in-Some in
    family_valued c.args.decl.now c.in_ok-spine.spine c.in-Some.value placed.field-0 binders family kind c.in-Some.is placed.ensures (put_on_spine c.in_ok-spine.spine c.args.arguments.items (declared_head (read_declaration c.args.decl.now)) (heads.FamilyHead binders family kind) c.in_ok-spine.ensures h)

pub returns-in_ok-copy-in-None : goal.returns-in_ok-copy-in-None
returns-in_ok-copy-in-None c binders family kind h =
    family_unvalued c.args.decl.now c.in_ok-spine.spine c.in_ok-copy-in-None.field-0 binders family kind c.in-None.is c.in_ok-copy-in-None.ensures (put_on_spine c.in_ok-spine.spine c.args.arguments.items (declared_head (read_declaration c.args.decl.now)) (heads.FamilyHead binders family kind) c.in_ok-spine.ensures h)
