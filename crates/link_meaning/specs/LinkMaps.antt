-- The map of a link (Rabe and Kohlhase 2013, section 4; the form of the equations is this profile's).
use Rattle.std.specs.Prelude.{List, [], IsSome}
use Rattle.lf_meaning.specs.HeadMaps.{HeadMap}
use Rattle.text_meaning.specs.Trees.{Assign}
use Rattle.link_meaning.specs.Assignments.{Setting, Assigned}
use Rattle.link_meaning.specs.AssignmentsRead.{AssignsRead}
use Rattle.link_meaning.specs.Equations.{MeetsEquations}
use Rattle.library_meaning.specs.Faces.{theory_of}
use Rattle.library_meaning.specs.Coherence.{IsCoherent}

-- The environment is coherent, and the link's domain an accepted theory in it.
pub record IsSettled (setting : Setting) : Type 0 where
  pub coherent : IsCoherent setting.environment
  pub theory : IsSome (theory_of setting.environment setting.domain)

-- The map meets the equations of what the assignments of the link give.
abbrev pub IsMapOfLink : Setting → List Assign → HeadMap → Type 0
IsMapOfLink setting assigns along = (assigned : List Assigned) × AssignsRead setting [] assigns assigned × MeetsEquations setting assigned along
