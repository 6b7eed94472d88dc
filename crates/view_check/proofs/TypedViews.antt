-- The map of a view between accepted theories carries typing.
use Rattle.std.proofs.Common.{◌≡◌, Option, Some, None, Ok, refl, sym, true≢false}
use Rattle.std.specs.Prelude.{IsSome}
use Rattle.lf_meaning.specs.HeadMaps.{HeadMap}
use Rattle.library_meaning.specs.Faces.{TheoryFace, Environment, theory_of}
use Rattle.library_meaning.specs.Coherence.{IsCoherent}
use Rattle.text_meaning.specs.Trees.{first_name}
use Rattle.link_meaning.specs.Passes.{link_map}
use Rattle.face_typing.proofs.Below.BuildingHolds.{views_are_coherent}
use Rattle.face_typing.specs.Below.TypedFaces.{IsTypedEnvironment}
use Rattle.face_typing.proofs.LinksTyped.{links_are_typed}
use Rattle.face_typing.specs.CarryingMaps.{ViewCarriesTyping}
use Rattle.face_typing.proofs.BuildingTyped.{views_are_typed}
use Rattle.face_typing.proofs.MapsCarry.{typed_views_carry}
use Rattle.mmt_syntax.specs.Readings.{read_assigns, read_written}
use Rattle.mmt_syntax.specs.declared.module.ViewDecl.{ViewDecl}
use Rattle.view_check.specs.Answers.{theory_or_empty, setting_of, face_with}

there : (o : Option TheoryFace) → IsSome o → o ≡ Some (theory_or_empty o)
there None h = absurd (true≢false (sym h))
there (Some face) h = refl

pub linked_view_carries : (environment : Environment) (view : ViewDecl) (along : HeadMap) → IsCoherent environment → IsSome (theory_of environment (first_name view.domain.path))
    → IsSome (theory_of environment (first_name view.codomain.path)) → link_map (setting_of environment view) (read_assigns view.assigns) ≡ Ok along
    → IsTypedEnvironment environment → ViewCarriesTyping environment (face_with view along)
linked_view_carries environment view along coherent domain codomain linked known =
    let written = read_written view.name in
    let from = first_name view.domain.path in
    let to = first_name view.codomain.path in
    let assigns = read_assigns view.assigns in
    let target = theory_or_empty (theory_of environment to) in
    let is = there (theory_of environment to) codomain in
    typed_views_carry environment (first_name view.name.path) (face_with view along) known
    (views_are_coherent environment written from to target assigns along coherent domain is linked)
    (views_are_typed links_are_typed environment written from to target assigns along coherent known domain is linked)
