use Rattle.std.proofs.lemmas.Result.{err_from_is_err_and}
use Rattle.term_trees.specs.Readings.{read_map}
use Rattle.link_laws.specs.CoveringLaws.{later_passes}
use Rattle.link_laws.proofs.CoveringMaps.{covering_map_meets_coverings, links_begin_with_coverings}
use Rattle.link_passes.specs.Below.Readings.{read_all_assigned, read_setting}
use Rattle.link_passes.proofs.Below.Chained.{same_fault, goes_on, same_answer}
use Rattle.link_passes.proofs.Below.FirstRefusals.{refuses_then}
use Rattle.morphism.proofs.links.assigned_map.Goals as goal

pub returns-in_err-front : goal.returns-in_err-front
returns-in_err-front c =
    let setting = read_setting c.args.setting.now in
    let assigned = read_all_assigned c.args.assigned.now in
    let p = err_from_is_err_and c.from_residual.result c.from_residual.ensures.1 in
    rw (p.1, p.2) (same_fault c.in_err-front.field-0.0 _ _ (links_begin_with_coverings setting assigned c.requires.settled) (refuses_then c.in_err-front.field-0.0 _ (later_passes setting assigned) c.in_err-front.ensures))

pub returns : goal.returns
returns c =
    let setting = read_setting c.args.setting.now in
    let assigned = read_all_assigned c.args.assigned.now in
    same_answer read_map c.later_passes.result _ _ (links_begin_with_coverings setting assigned c.requires.settled) (goes_on read_map c.later_passes.result _ _ (later_passes setting assigned) c.in_ok-front.ensures c.later_passes.ensures)

pub later_passes-requires-clause-front : goal.later_passes-requires-clause-front
later_passes-requires-clause-front c =
    ((covering_map_meets_coverings (read_setting c.args.setting.now) (read_all_assigned c.args.assigned.now) (read_map c.in_ok-front.front) c.requires.settled).0 c.in_ok-front.ensures).names
