use Rattle.std.proofs.Common.{refl}
use Rattle.name_meaning.specs.Names.{is_ascending}
use Rattle.seat_tests.proofs.answers.add_three.Goals as goal

pub add-requires : goal.add-requires
unfolding is_ascending
add-requires c = rw c.requires.empty refl

pub add-requires-2 : goal.add-requires-2
unfolding is_ascending
add-requires-2 c = rw (c.in_ok-add.ensures, c.requires.empty, c.in_ok-new.ensures.name, c.in_ok-new-2.ensures.name) refl

pub add-requires-3 : goal.add-requires-3
unfolding is_ascending
add-requires-3 c = rw (c.in_ok-add-2.ensures, c.in_ok-add.ensures, c.requires.empty, c.in_ok-new.ensures.name, c.in_ok-new-2.ensures.name, c.in_ok-new-3.ensures.name) refl
