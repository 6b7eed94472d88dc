-- Laws of links (this profile).
use Rattle.link_meaning.specs.LinkMaps.{IsMapOfLink, IsSettled}
use Rattle.std.specs.Prelude.{◌≡◌, ◌↔◌, List, [], Ok}
use Rattle.lf_meaning.specs.HeadMaps.{HeadMap}
use Rattle.text_meaning.specs.Trees.{Assign}
use Rattle.link_meaning.specs.Assignments.{Setting, Assigned, read_assigns}
use Rattle.link_meaning.specs.AssignmentsRead.{AssignsRead}
use Rattle.link_meaning.specs.Passes.{assigned_map, link_map}
use Rattle.link_meaning.specs.Equations.{MeetsEquations}

-- The passes answer a map exactly where it meets the equations.
abbrev pub PassesMeetEquations : Type 0
PassesMeetEquations =
    (setting : Setting) (assigned : List Assigned) (along : HeadMap) → IsSettled setting
    → (assigned_map setting assigned ≡ Ok along) ↔ MeetsEquations setting assigned along

-- At most one map meets them.
abbrev pub OneMapMeetsEquations : Type 0
OneMapMeetsEquations =
    (setting : Setting) (assigned : List Assigned) (along other : HeadMap) → IsSettled setting
    → MeetsEquations setting assigned along → MeetsEquations setting assigned other → along ≡ other

-- The assignments are read as what they give, and as nothing else.
abbrev pub AssignmentsAreRead : Type 0
AssignmentsAreRead =
    (setting : Setting) (assigns : List Assign) (assigned : List Assigned)
    → (read_assigns setting [] assigns ≡ Ok assigned) ↔ AssignsRead setting [] assigns assigned

-- A link has a map exactly where its assignments give something, and the map meets the equations of that.
abbrev pub LinkMapMeetsEquations : Type 0
LinkMapMeetsEquations =
    (setting : Setting) (assigns : List Assign) (along : HeadMap) → IsSettled setting
    → (link_map setting assigns ≡ Ok along) ↔ IsMapOfLink setting assigns along

-- A link has at most one such map.
abbrev pub OneMapOfLink : Type 0
OneMapOfLink =
    (setting : Setting) (assigns : List Assign) (along other : HeadMap) → IsSettled setting
    → IsMapOfLink setting assigns along → IsMapOfLink setting assigns other → along ≡ other
