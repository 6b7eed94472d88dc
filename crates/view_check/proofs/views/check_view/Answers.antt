use Rattle.std.proofs.Common.{Ok, ap, sym, subst, ◌∙◌}
use Rattle.std.proofs.lemmas.Result.{err_from_is_err_and}
use Rattle.link_meaning.specs.LinkMaps.{IsSettled}
use Rattle.link_meaning.specs.Passes.{link_map}
use Rattle.link_laws.proofs.Linked.{link_map_meets_equations}
use Rattle.term_trees.specs.Readings.{read_map}
use Rattle.mmt_syntax.specs.Readings.{read_assigns}
use Rattle.face_typing.specs.CarryingMaps.{ViewCarriesTyping}
use Rattle.mmt_interface.specs.Readings.{environment_of}
use Rattle.mmt_interface.specs.declared.face.ViewFace as code
use Rattle.morphism.proofs.Below.Chained.{refuses_nothing}
use Rattle.view_check.specs.Answers.{setting_of}
use Rattle.view_check.proofs.CheckedViews.{checked_face}
use Rattle.view_check.proofs.TypedViews.{linked_view_carries}
use Rattle.view_check.proofs.views.check_view.Goals as goal

pub returns-in_err-map-clause-only : goal.returns-in_err-map-clause-only
returns-in_err-map-clause-only c = λ along meets.
    let setting = setting_of (environment_of c.args.faces.now) c.args.view.now in
    let assigns = read_assigns c.args.view.now.assigns in
    let settled : IsSettled setting = record { coherent = c.requires.coherent.known; theory = c.requires.domain } in
    let p = err_from_is_err_and c.from_residual.result c.from_residual.ensures.1 in
    rw (p.1, p.2) (refuses_nothing code.ViewFace c.in_err-map.field-0.0 (link_map setting assigns) along ((link_map_meets_equations setting assigns along settled).1 meets) c.in_err-map.ensures)

pub returns-clause-map : goal.returns-clause-map
returns-clause-map c =
    let setting = setting_of (environment_of c.args.faces.now) c.args.view.now in
    let assigns = read_assigns c.args.view.now.assigns in
    let along = read_map c.in_ok-map.map in
    let settled : IsSettled setting = record { coherent = c.requires.coherent.known; theory = c.requires.domain } in
    (along, (link_map_meets_equations setting assigns along settled).0 c.in_ok-map.ensures, c.in_ok-view_with.ensures)

pub returns-clause-answer : goal.returns-clause-answer
returns-clause-answer c =
    let along = read_map c.in_ok-map.map in
    checked_face (environment_of c.args.faces.now) c.args.view.now along c.requires.domain c.requires.codomain c.in_ok-map.ensures ∙ ap Ok (sym c.in_ok-view_with.ensures)

pub returns-clause-typed : goal.returns-clause-typed
returns-clause-typed c = λ known.
    let environment = environment_of c.args.faces.now in
    let along = read_map c.in_ok-map.map in
    subst (ViewCarriesTyping environment) (sym c.in_ok-view_with.ensures)
    (linked_view_carries environment c.args.view.now along c.requires.coherent.known c.requires.domain c.requires.codomain c.in_ok-map.ensures known)
