use Rattle.std.proofs.Common.{[], Ok, sym, ap, ◌∙◌}
use Rattle.std.proofs.lemmas.Result.{err_from_is_err_and}
use Rattle.link_meaning.specs.Passes.{assigned_map}
use Rattle.term_trees.specs.Readings.{read_map}
use Rattle.mmt_syntax.specs.Readings.{read_assigns}
use Rattle.link_passes.specs.Below.Readings.{read_all_assigned, read_setting}
use Rattle.link_passes.proofs.Below.Chained.{same_fault, goes_on, same_answer}
use Rattle.morphism.proofs.LinkMaps.{map_is}
use Rattle.link_laws.proofs.Reading.{assigns_sound}
use Rattle.link_passes.proofs.SharedImages.{reads_shared}
use Rattle.link_passes.proofs.Below.FirstRefusals.{refuses_then}
use Rattle.morphism.proofs.links.link_map.Goals as goal

pub returns-in_err-assigned : goal.returns-in_err-assigned
returns-in_err-assigned c =
    let setting = read_setting c.args.setting.now in
    let assigns = read_assigns c.args.assigns.now in
    let p = err_from_is_err_and c.from_residual.result c.from_residual.ensures.1 in
    rw (p.1, p.2) (same_fault c.in_err-assigned.field-0.0 _ _ (map_is setting assigns) (refuses_then c.in_err-assigned.field-0.0 _ (assigned_map setting) c.in_err-assigned.ensures))

pub returns : goal.returns
returns c =
    let setting = read_setting c.args.setting.now in
    let assigns = read_assigns c.args.assigns.now in
    same_answer read_map c.assigned_map-map.result _ _ (map_is setting assigns) (goes_on read_map c.assigned_map-map.result _ _ (assigned_map setting) (c.in_ok-assigned.ensures ∙ ap (λ given. Ok (read_all_assigned given)) (sym c.as_slice.ensures.value)) c.assigned_map-map.ensures)

pub assigned_map-map-requires-clause-shared : goal.assigned_map-map-requires-clause-shared
assigned_map-map-requires-clause-shared c =
    let setting = read_setting c.args.setting.now in
    let assigns = read_assigns c.args.assigns.now in
    let given = read_all_assigned c.as_slice.result.now in
    reads_shared setting [] assigns given (assigns_sound setting [] assigns given (c.in_ok-assigned.ensures ∙ ap (λ items. Ok (read_all_assigned items)) (sym c.as_slice.ensures.value)))
