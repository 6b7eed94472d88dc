-- The maps of links between known theories are typed (Rabe and Kohlhase 2013, section 3: morphisms are typed assignments). Such
-- a link is no structure, and its codomain is not being built. Of a structure, the theory of which is being built, the laws of
-- typed faces say it.
use Rattle.std.specs.Prelude.{◌≡◌, List, Ok}
use Rattle.lf_meaning.specs.HeadMaps.{HeadMap}
use Rattle.translation_meaning.specs.TypedMaps.{IsTypedMap}
use Rattle.library_meaning.specs.Faces.{flat_of}
use Rattle.library_meaning.specs.Coherence.{IsCoherent}
use Rattle.text_meaning.specs.Trees.{Assign}
use Rattle.link_meaning.specs.Assignments.{Setting}
use Rattle.link_meaning.specs.Passes.{link_map}
use Rattle.link_laws.specs.BetweenTheories.{IsBetweenTheories}
use Rattle.morphism_words_typing.specs.TypedFaces.{IsTypedEnvironment}

-- Where all that is known is coherent and well typed, and the passes over the assignments of a link between known theories
-- answer a map, it is typed.
abbrev pub LinksHaveTypedMaps : Type 0
LinksHaveTypedMaps =
    (setting : Setting) (assigns : List Assign) (along : HeadMap) → IsCoherent setting.environment → IsTypedEnvironment setting.environment
    → IsBetweenTheories setting → link_map setting assigns ≡ Ok along
    → IsTypedMap (flat_of setting.environment setting.domain) (flat_of setting.environment setting.codomain) along
