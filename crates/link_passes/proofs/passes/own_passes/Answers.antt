use Rattle.term_trees.specs.Readings.{read_map}
use Rattle.link_setting.specs.Readings.{read_all_assigned, read_setting}
use Rattle.link_passes.proofs.SharedImages.{own_next, shares_mapped, whole_names}
use Rattle.link_passes.proofs.passes.own_passes.Goals as goal

pub add_own_images-requires-clause-before : goal.add_own_images-requires-clause-before
add_own_images-requires-clause-before c = own_next (read_setting c.args.setting.now) (read_map c.args.along.now) c.requires.settled c.requires.front

pub shared_tests-requires : goal.shared_tests-requires
shared_tests-requires c =
    let setting = read_setting c.args.setting.now in
    let assigned = read_all_assigned c.args.assigned.now in
    shares_mapped setting assigned (read_map c.add_own_images.new.along) c.requires.settled c.requires.shared
    (whole_names setting assigned (read_map c.args.along.now) (read_map c.add_own_images.new.along) c.requires.front c.in_ok-add_own_images.ensures)
