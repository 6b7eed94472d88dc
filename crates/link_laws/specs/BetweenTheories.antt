-- Links between known theories (this profile).
use Rattle.std.specs.Prelude.{◌≡◌, true, None, is_some}
use Rattle.library_meaning.specs.Faces.{theory_of}
use Rattle.link_meaning.specs.Assignments.{Setting}
use Rattle.link_laws.specs.TheoryScopes.{theory_scope}

-- The link is from a known theory to a known theory, is no structure, and its values stand in the whole codomain. A view's
-- link is such.
pub record IsBetweenTheories (setting : Setting) : Type 0 where
  pub here : setting.here ≡ None
  pub structure : setting.structure ≡ None
  pub domain : is_some (theory_of setting.environment setting.domain) ≡ true
  pub codomain : is_some (theory_of setting.environment setting.codomain) ≡ true
  pub scope : setting.scope ≡ theory_scope setting.environment setting.codomain
