use Rattle.std.proofs.Common.{◌≡◌, Some, slice_get, sym, ap, ◌∙◌}
use Rattle.std.proofs.lemmas.Option.{slice_get-get_or}
use Rattle.list_laws.proofs.Members.{map_in, place_member}
use Rattle.link_setting.specs.Readings.{read_assigned}
use Rattle.link_passes.proofs.sharing.shared_tests.Goals as goal

pub shared_test-requires : goal.shared_test-requires
shared_test-requires c =
    let items = c.args.assigned.now in
    let item = c.item-item.result in
    let there : slice_get items c.loop-item.item-index ≡ Some item = slice_get-get_or items c.loop-item.item-index item c.loop-item-test.true ∙ ap Some (sym c.item-item.is) in
    c.requires (read_assigned item) (map_in read_assigned items item (place_member items c.loop-item.item-index item there))
