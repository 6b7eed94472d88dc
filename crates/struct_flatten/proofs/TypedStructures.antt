-- A theory with one more structure is well typed, and the structure's map carries typing.
use Rattle.std.proofs.Common.{◌≡◌, false, length, not, Ok, sym, ap, subst}
use Rattle.std.specs.Prelude.{IsSome}
use Rattle.list_laws.proofs.Places.{get_last}
use Rattle.lf_meaning.specs.HeadMaps.{HeadMap}
use Rattle.library_meaning.specs.Faces.{StructureFace, TheoryFace, theory_of, flat_signature, flat_of}
use Rattle.text_meaning.specs.Trees.{first_name}
use Rattle.link_meaning.specs.Induced.{with_structure}
use Rattle.link_meaning.specs.Passes.{link_map}
use Rattle.verdict_meaning.specs.Modules.{is_used}
use Rattle.face_typing.specs.Below.BuildingLaws.{IsBuiltOver}
use Rattle.face_typing.proofs.Below.BuildingHolds.{structures_keep_built}
use Rattle.face_typing.proofs.Below.ModulesHold.{unused_where}
use Rattle.face_typing.specs.Below.TypedFaces.{IsTypedTheory}
use Rattle.face_typing.proofs.LinksTyped.{links_are_typed}
use Rattle.face_typing.specs.BuildingTyping.{IsTypedOver}
use Rattle.face_typing.specs.CarryingMaps.{CarriesTyping}
use Rattle.face_typing.proofs.BuildingTyped.{structures_keep_typed}
use Rattle.face_typing.proofs.MapsCarry.{typed_theories_flatten}
use Rattle.mmt_syntax.specs.Readings.{read_assigns, read_written}
use Rattle.mmt_syntax.specs.declared.decl.StructDecl.{StructDecl}
use Rattle.mmt_interface.specs.CoherentFaces.{AreCoherent, IsCoherentHere}
use Rattle.mmt_interface.specs.Readings.{environment_of, read_theory}
use Rattle.mmt_interface.specs.declared.face.TheoryFace as code
use Rattle.mmt_interface.specs.declared.verdict.Verdict.{Verdict}
use Rattle.mmt_interface.proofs.Known.{lacked_is_absent}
use Rattle.name_meaning.specs.Rows.{Rows}
use Rattle.struct_flatten.specs.Answers.{setting_of, HasStructure, KeepsTyped}

pub structure_keeps_typed : (rows : Rows Verdict) (before : code.TheoryFace) (decl : StructDecl) (along : HeadMap) (after : TheoryFace) → AreCoherent rows → IsCoherentHere rows before
    → IsSome (theory_of (environment_of rows) (first_name decl.domain.path)) → is_used (read_theory before) (first_name decl.name.path) ≡ false
    → link_map (setting_of (environment_of rows) (read_theory before) decl) (read_assigns decl.assigns) ≡ Ok along
    → HasStructure (environment_of rows) (read_theory before) decl along after → KeepsTyped (environment_of rows) (read_theory before) decl after
structure_keeps_typed rows before decl along after coherent coherent_here domain unused linked added known so_far =
    let environment = environment_of rows in
    let here = read_theory before in
    let written = read_written decl.name in
    let name = first_name decl.name.path in
    let from = first_name decl.domain.path in
    let assigns = read_assigns decl.assigns in
    let built : IsBuiltOver environment here = record { known = coherent.known; absent = lacked_is_absent rows before.name coherent_here.absent; so_far = coherent_here.theory } in
    let over : IsTypedOver environment here = record { built = built; known = known; so_far = so_far } in
    let next : TheoryFace = with_structure here (setting_of environment here decl) name along in
    let structure : StructureFace = record { name = name; domain = from; map = along } in
    let stays = structures_keep_built environment here written from assigns along built domain unused linked in
    let is = (structures_keep_typed links_are_typed environment here written from assigns along over domain (unused_where here name (ap not unused)).structure linked).0 in
    let carries = (typed_theories_flatten environment next.name next known stays.so_far is).structures (length here.structures) structure (get_last here.structures structure) in (
      subst (IsTypedTheory environment) (sym added) is,
      along,
      added,
      subst (λ (z : TheoryFace). CarriesTyping (flat_of environment from) (flat_signature environment z) along) (sym added) carries,
    )
