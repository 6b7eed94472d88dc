-- What is known where a link is checked, and what its map is then.
use Rattle.std.proofs.Common.{◌≡◌, List, ◌++◌, Ok}
use Rattle.lf_meaning.specs.Judgements.{IsSignature}
use Rattle.lf_meaning.specs.HeadMaps.{HeadMap}
use Rattle.translation_meaning.specs.TypedMaps.{IsTypedMap}
use Rattle.library_meaning.specs.Faces.{theory_of, includes_of, own_parts, flat_of}
use Rattle.text_meaning.specs.Trees.{Assign}
use Rattle.link_meaning.specs.Assignments.{Setting}
use Rattle.link_meaning.specs.Passes.{link_map}
use Rattle.constant_laws.specs.ExpansionHolds.{scope_signature}
use Rattle.link_laws.proofs.ImagesHold.{SettingHolds}
use Rattle.link_laws.proofs.LinksHold.{added_all}
use Rattle.morphism_words_typing.specs.TypedFaces.{HaveFittingImages, IsTypedEnvironment}
use Rattle.morphism_words_typing.specs.TypedLinks.{HereTyped}

-- what is known where a link is checked
pub record SettingTyped (setting : Setting) : Type 0 where
  pub environment : IsTypedEnvironment setting.environment
  pub here : HereTyped setting.environment setting.here
  pub scope : IsSignature (scope_signature setting.scope)

-- what its map is then
pub record LinkTyped (setting : Setting) (along : HeadMap) : Type 0 where
  pub target : IsSignature (scope_signature setting.scope ++ added_all setting (flat_of setting.environment setting.domain) along)
  pub map_is : IsTypedMap (flat_of setting.environment setting.domain) (scope_signature setting.scope ++ added_all setting (flat_of setting.environment setting.domain) along) along
  pub included : HaveFittingImages (scope_signature setting.scope) along (own_parts setting.environment (includes_of (theory_of setting.environment setting.domain)))

abbrev pub LinksAreTyped : Type 0
LinksAreTyped = (setting : Setting) → SettingHolds setting → SettingTyped setting → (assigns : List Assign) (along : HeadMap) → link_map setting assigns ≡ Ok along → LinkTyped setting along
