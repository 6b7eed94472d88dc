use Rattle.std.proofs.Common.{◌≡◌, Some, slice_get, option_map, sym, ap, ◌∙◌}
use Rattle.std.proofs.lemmas.Option.{same_Some, slice_get-get_or, slice_get-map}
use Rattle.link_meaning.specs.Assignments as links
use Rattle.link_setting.specs.Readings.{read_all_assigned, read_assigned}
use Rattle.link_passes.specs.Reaching.{reached_through}
use Rattle.link_passes.proofs.reached.reached_at.Goals as goal

pub returns : goal.returns
returns c = λ item otherwise there.
    let items = c.args.assigned.now in
    let i = c.args.number in
    let here : slice_get (read_all_assigned items) i ≡ Some (read_assigned c.index-assigned-number.result) =
    slice_get-map read_assigned items i ∙ ap (option_map read_assigned) (slice_get-get_or items i c.index-assigned-number.result c.requires ∙ ap Some (sym c.index-assigned-number.is)) in
    c.reached_through_one.ensures otherwise ∙ ap (λ (x : links.Assigned). reached_through x c.args.path.now otherwise) (same_Some _ _ (sym here ∙ there))
