-- A link between known theories has a typed map, as links have.
use Rattle.std.proofs.Common.{◌≡◌, ◌++◌, Option, Some, None, is_some, true, true≢false, refl, sym, ap, ◌∙◌, subst, append-nil}
use Rattle.name_meaning.specs.Names.{Name}
use Rattle.lf_meaning.specs.Judgements.{IsSignature}
use Rattle.translation_meaning.specs.TypedMaps.{IsTypedMap}
use Rattle.library_meaning.specs.Faces.{TheoryFace, Environment, theory_of, includes_of, own_of, own_parts, flat_of}
use Rattle.link_laws.proofs.Linked.{known_theory}
use Rattle.constant_laws.specs.ExpansionHolds.{scope_signature}
use Rattle.std.proofs.lemmas.Option.{none-some}
use Rattle.link_laws.proofs.ImagesHold.{whole_scope, between_holds}
use Rattle.link_laws.proofs.LinksHold.{added_all}
use Rattle.link_laws.proofs.InducedHold.{nothing_added}
use Rattle.morphism_words_typing.specs.TypedFaces.{IsTypedEnvironment}
use Rattle.morphism_words_typing.specs.TypedLinks.{HereTyped}
use Rattle.face_typing.specs.TypedMapsOfLinks.{LinksHaveTypedMaps}
use Rattle.face_typing.proofs.LinkInterface.{LinksAreTyped}

known_signature : (environment : Environment) → IsTypedEnvironment environment → (theory : Name) → is_some (theory_of environment theory) ≡ true → IsSignature (flat_of environment theory)
known_signature environment typed theory s = by (theory_of environment theory) refl s
  where
    by : (o : Option TheoryFace) → theory_of environment theory ≡ o → is_some o ≡ true → IsSignature (own_parts environment (includes_of o) ++ own_of o)
    by None e h = absurd (true≢false (sym h))
    by (Some face) e h = (typed.theories theory face (known_theory (environment theory) face e)).signature

pub between_typed : LinksAreTyped → LinksHaveTypedMaps
between_typed links setting assigns along coherent typed is h =
    let at : scope_signature setting.scope ≡ flat_of setting.environment setting.codomain = whole_scope setting coherent is in
    let here : HereTyped setting.environment setting.here =
    record { signature = λ face e. absurd (none-some face (sym is.here ∙ e)); structures = λ face e. absurd (none-some face (sym is.here ∙ e)) } in
    let scope : IsSignature (scope_signature setting.scope) = subst IsSignature (sym at) (known_signature setting.environment typed setting.codomain is.codomain) in
    let map = links setting (between_holds setting coherent is) (record { environment = typed; here = here; scope = scope }) assigns along h in
    let none = nothing_added setting (flat_of setting.environment setting.domain) along is.structure in
    let target : scope_signature setting.scope ++ added_all setting (flat_of setting.environment setting.domain) along ≡ flat_of setting.environment setting.codomain =
    ap (λ z. scope_signature setting.scope ++ z) none ∙ append-nil (scope_signature setting.scope) ∙ at in
    subst (λ z. IsTypedMap (flat_of setting.environment setting.domain) z along) target map.map_is
