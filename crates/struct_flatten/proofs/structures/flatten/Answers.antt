use Rattle.std.proofs.Common.{◌++◌, sym, ap, ◌∙◌, subst}
use Rattle.std.specs.Prelude.{⊤}
use Rattle.std.proofs.lemmas.Result.{err_from_is_err_and}
use Rattle.library_meaning.specs.Faces.{StructureFace, own_part}
use Rattle.text_meaning.specs.Trees.{first_name}
use Rattle.link_meaning.specs.Induced.{with_structure}
use Rattle.link_meaning.specs.LinkMaps.{IsSettled}
use Rattle.link_laws.proofs.Onces.{Once, names_once}
use Rattle.face_typing.specs.Below.BuildingLaws.{IsBuiltOver}
use Rattle.face_typing.proofs.Below.BuildingHolds.{structures_keep_built}
use Rattle.link_meaning.specs.Passes.{link_map}
use Rattle.link_laws.proofs.Linked.{link_map_meets_equations}
use Rattle.term_trees.specs.Readings.{read_map}
use Rattle.mmt_syntax.specs.Readings.{read_assigns, read_written}
use Rattle.mmt_interface.proofs.Known.{lacked_is_absent}
use Rattle.mmt_interface.specs.Readings.{environment_of, read_theory}
use Rattle.morphism.proofs.Below.Chained.{refuses_nothing}
use Rattle.struct_flatten.specs.Answers.{setting_of}
use Rattle.struct_flatten.specs.Steps.{induced_into, with_face}
use Rattle.struct_flatten.proofs.TypedStructures.{structure_keeps_typed}
use Rattle.struct_flatten.proofs.structures.flatten.Goals as goal

pub returns-in_err-map-clause-only : goal.returns-in_err-map-clause-only
returns-in_err-map-clause-only c = λ along meets.
    let setting = setting_of (environment_of c.args.faces.now) (read_theory c.args.here.now) c.args.decl.now in
    let assigns = read_assigns c.args.decl.now.assigns in
    let settled : IsSettled setting = record { coherent = c.requires.coherent.known; theory = c.requires.domain } in
    let p = err_from_is_err_and c.from_residual.result c.from_residual.ensures.1 in
    rw (p.1, p.2) (refuses_nothing ⊤ c.in_err-map.field-0.0 (link_map setting assigns) along ((link_map_meets_equations setting assigns along settled).1 meets) c.in_err-map.ensures)

pub returns-clause-map : goal.returns-clause-map
returns-clause-map c =
    let environment = environment_of c.args.faces.now in
    let here = read_theory c.args.here.now in
    let setting = setting_of environment here c.args.decl.now in
    let assigns = read_assigns c.args.decl.now.assigns in
    let along = read_map c.in_ok-map.map in
    let settled : IsSettled setting = record { coherent = c.requires.coherent.known; theory = c.requires.domain } in (
      along,
      (link_map_meets_equations setting assigns along settled).0 c.in_ok-map.ensures,
      c.in_ok-add_structure.ensures.ok ∙ ap (with_face environment here) c.in_ok-face.ensures,
    )

pub returns-clause-typed : goal.returns-clause-typed
returns-clause-typed c =
    let environment = environment_of c.args.faces.now in
    let here = read_theory c.args.here.now in
    let along = read_map c.in_ok-map.map in
    structure_keeps_typed c.args.faces.now c.args.here.now c.args.decl.now along _ c.requires.coherent c.requires.here c.requires.domain c.requires.unused c.in_ok-map.ensures
    (c.in_ok-add_structure.ensures.ok ∙ ap (with_face environment here) c.in_ok-face.ensures)

pub returns-clause-answer : goal.returns-clause-answer
returns-clause-answer c =
    let environment = environment_of c.args.faces.now in
    let here = read_theory c.args.here.now in
    let along = read_map c.in_ok-map.map in (
      along,
      c.in_ok-map.ensures,
      c.in_ok-add_structure.ensures.ok ∙ ap (with_face environment here) c.in_ok-face.ensures,
    )

pub add_structure-requires : goal.add_structure-requires
add_structure-requires c =
    let environment = environment_of c.args.faces.now in
    let here = read_theory c.args.here.now in
    let decl = c.args.decl.now in
    let along = read_map c.in_ok-map.map in
    let built : IsBuiltOver environment here = record { known = c.requires.coherent.known; absent = lacked_is_absent c.args.faces.now c.args.here.now.name c.requires.here.absent; so_far = c.requires.here.theory } in
    let stays = structures_keep_built environment here (read_written decl.name) (first_name decl.domain.path) (read_assigns decl.assigns) along built c.requires.domain c.requires.unused c.in_ok-map.ensures in
    subst (λ (z : StructureFace). Once (here.own ++ induced_into here.name z.name z.map (own_part environment z.domain))) (sym c.in_ok-face.ensures)
    (names_once (with_structure here (setting_of environment here decl) (first_name decl.name.path) along).own stays.so_far.own_once)
