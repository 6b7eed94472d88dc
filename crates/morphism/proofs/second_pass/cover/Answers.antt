use Rattle.std.proofs.Common.{[], sym, subst}
use Rattle.std.specs.Option.{option_map}
use Rattle.link_meaning.specs.Assignments.{Setting}
use Rattle.link_meaning.specs.LinkMaps.{IsSettled}
use Rattle.link_meaning.specs.Assignments as links
use Rattle.link_laws.specs.LinkTargets.{HereHolds}
use Rattle.term_trees.specs.Readings.{read_map}
use Rattle.mmt_syntax.specs.Readings.{read_assigns, read_written}
use Rattle.mmt_interface.specs.Readings.{environment_of, read_theory}
use Rattle.link_passes.proofs.Below.CoherentLinks.{here_holds}
use Rattle.link_passes.specs.Below.Readings.{read_setting}
use Rattle.morphism.specs.CoverCalls.{link_between}
use Rattle.morphism.proofs.CoverAnswers.{answered, as_read, gives_coverings, refused_by_tests, refuses_nothing, breaks_covering_rules}
use Rattle.morphism.proofs.second_pass.cover.Goals as goal

pub returns-clause-answer : goal.returns-clause-answer
returns-clause-answer c assigned reads =
    let setting : Setting = link_between (environment_of c.args.faces.now) (option_map (λ face. read_theory face.now) c.args.here) c.args.domain.now c.args.codomain.now c.args.seen.now (read_written c.args.at.now) in
    let assigns = read_assigns c.args.assigns.now in
    answered read_map setting assigns c.cover_link-map.result (as_read read_map setting assigns c.cover_link-map.result (read_setting c.setting_between-setting.result) c.setting_between-setting.ensures c.cover_link-map.ensures) assigned reads

pub returns-clause-map : goal.returns-clause-map
returns-clause-map c assigned reads =
    let setting : Setting = link_between (environment_of c.args.faces.now) (option_map (λ face. read_theory face.now) c.args.here) c.args.domain.now c.args.codomain.now c.args.seen.now (read_written c.args.at.now) in
    let assigns = read_assigns c.args.assigns.now in
    let settled : IsSettled setting = record { coherent = c.requires.coherent.known; theory = c.requires.domain } in
    gives_coverings read_map setting assigns settled c.cover_link-map.result assigned (answered read_map setting assigns c.cover_link-map.result (as_read read_map setting assigns c.cover_link-map.result (read_setting c.setting_between-setting.result) c.setting_between-setting.ensures c.cover_link-map.ensures) assigned reads)

pub returns-clause-refused : goal.returns-clause-refused
returns-clause-refused c assigned reads =
    let setting : Setting = link_between (environment_of c.args.faces.now) (option_map (λ face. read_theory face.now) c.args.here) c.args.domain.now c.args.codomain.now c.args.seen.now (read_written c.args.at.now) in
    let assigns = read_assigns c.args.assigns.now in
    let settled : IsSettled setting = record { coherent = c.requires.coherent.known; theory = c.requires.domain } in
    refused_by_tests read_map setting assigns settled c.cover_link-map.result assigned (answered read_map setting assigns c.cover_link-map.result (as_read read_map setting assigns c.cover_link-map.result (read_setting c.setting_between-setting.result) c.setting_between-setting.ensures c.cover_link-map.ensures) assigned reads)

pub returns-clause-only : goal.returns-clause-only
returns-clause-only c assigned along reads meets =
    let setting : Setting = link_between (environment_of c.args.faces.now) (option_map (λ face. read_theory face.now) c.args.here) c.args.domain.now c.args.codomain.now c.args.seen.now (read_written c.args.at.now) in
    let assigns = read_assigns c.args.assigns.now in
    let settled : IsSettled setting = record { coherent = c.requires.coherent.known; theory = c.requires.domain } in
    refuses_nothing read_map setting assigns settled c.cover_link-map.result assigned along meets (answered read_map setting assigns c.cover_link-map.result (as_read read_map setting assigns c.cover_link-map.result (read_setting c.setting_between-setting.result) c.setting_between-setting.ensures c.cover_link-map.ensures) assigned reads)

pub returns-clause-rules : goal.returns-clause-rules
returns-clause-rules c =
    let setting : Setting = link_between (environment_of c.args.faces.now) (option_map (λ face. read_theory face.now) c.args.here) c.args.domain.now c.args.codomain.now c.args.seen.now (read_written c.args.at.now) in
    let assigns = read_assigns c.args.assigns.now in
    let settled : IsSettled setting = record { coherent = c.requires.coherent.known; theory = c.requires.domain } in
    breaks_covering_rules read_map setting assigns settled c.cover_link-map.result (links.read_assigns setting [] assigns) c.requires.assigns (as_read read_map setting assigns c.cover_link-map.result (read_setting c.setting_between-setting.result) c.setting_between-setting.ensures c.cover_link-map.ensures)

pub cover_link-map-requires-clause-settled : goal.cover_link-map-requires-clause-settled
cover_link-map-requires-clause-settled c = subst IsSettled (sym c.setting_between-setting.ensures) (record { coherent = c.requires.coherent.known; theory = c.requires.domain })

pub cover_link-map-requires-clause-here : goal.cover_link-map-requires-clause-here
cover_link-map-requires-clause-here c = subst (λ (s : Setting). HereHolds s.environment s.here) (sym c.setting_between-setting.ensures) (here_holds c.args.faces.now c.args.here c.requires.here)
