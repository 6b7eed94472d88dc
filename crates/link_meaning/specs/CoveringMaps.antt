-- The second pass over a link by itself: its tests, and then the images of what the domain includes, by the coverings (this
-- profile). The map of a link begins with these images.
use Rattle.std.specs.Prelude.{◌≡◌, ℕ, true, List, [], ◌∷◌, ◌++◌, slice_get, Some, Ok}
use Rattle.name_meaning.specs.Names.{Name}
use Rattle.lf_meaning.specs.Signatures.{Declaration, Signature}
use Rattle.lf_meaning.specs.HeadMaps.{Mapping, HeadMap}
use Rattle.elaborate_meaning.specs.Below.Translation.{translate_class}
use Rattle.library_meaning.specs.Faces.{own_parts}
use Rattle.library_meaning.specs.Closure.{sees}
use Rattle.library_meaning.specs.Coherence.{declared_names, mapped_names}
use Rattle.answer_meaning.specs.Answers.{◌>>=◌}
use Rattle.link_meaning.specs.Refusals.{Outcome}
use Rattle.link_meaning.specs.Assignments.{Setting, included_theories, Assigned}
use Rattle.link_meaning.specs.Coverings.{covered_tests, covering_value}
use Rattle.link_meaning.specs.Passes.{mapping_to}
use Rattle.link_meaning.specs.Equations.{IsCovered, CoveringsGive}

-- The constants of the theories that the domain includes.
abbrev pub included_part : Setting → Signature
included_part setting = own_parts setting.environment (included_theories setting)

-- The map so far, with the images that the coverings give to these constants.
unfoldable pub cover_all : Setting → List Assigned → HeadMap → Signature → Outcome HeadMap
cover_all setting assigned so_far [] = Ok so_far
cover_all setting assigned so_far (declaration ∷ declarations) = do
  value ← covering_value setting assigned declaration
  cover_all setting assigned (so_far ++ mapping_to so_far declaration value ∷ []) declarations

-- The images of all that the domain includes, where each included theory passes the tests of its coverings.
unfoldable pub covering_map : Setting → List Assigned → Outcome HeadMap
covering_map setting assigned = do
  _ ← covered_tests setting assigned
  cover_all setting assigned [] (included_part setting)

-- The map gives what the coverings give: it has the names of what the domain includes, in order; each class is translated by the
-- map itself; each constant has the value that every covering of its theory gives; and every included theory is covered.
pub record MeetsCoverings (setting : Setting) (assigned : List Assigned) (along : HeadMap) : Type 0 where
  pub names : mapped_names along ≡ declared_names (included_part setting)
  pub classes : (i : ℕ) (mapping : Mapping) (declaration : Declaration) → slice_get along i ≡ Some mapping → slice_get (included_part setting) i ≡ Some declaration
      → mapping.image.class ≡ translate_class along declaration.class
  pub values : (i : ℕ) (mapping : Mapping) (declaration : Declaration) → slice_get along i ≡ Some mapping → slice_get (included_part setting) i ≡ Some declaration
      → CoveringsGive setting assigned declaration mapping.image.value
  pub covered : (theory : Name) → sees (included_theories setting) theory ≡ true → IsCovered setting assigned theory

-- Two links with the same ends over the same environment: their codomains include the same theories so far, and words mean the
-- same.
pub record HaveSameEnds (setting other : Setting) : Type 0 where
  pub environment : setting.environment ≡ other.environment
  pub here : setting.here ≡ other.here
  pub domain : setting.domain ≡ other.domain
  pub codomain : setting.codomain ≡ other.codomain
  pub includes : setting.scope.includes ≡ other.scope.includes
