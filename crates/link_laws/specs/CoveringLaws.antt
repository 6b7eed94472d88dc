-- Laws of the second pass by itself (this profile).
use Rattle.std.specs.Prelude.{◌≡◌, ◌↔◌, ◌⊎◌, List, length, take, Ok, Err}
use Rattle.name_meaning.specs.Names.{Path}
use Rattle.lf_meaning.specs.HeadMaps.{HeadMap}
use Rattle.library_meaning.specs.Faces.{own_part}
use Rattle.text_meaning.specs.Trees.{Assign}
use Rattle.elaborate_meaning.specs.Rules.{Rule}
use Rattle.answer_meaning.specs.Answers.{◌>>=◌}
use Rattle.link_meaning.specs.Refusals.{Refusal, Outcome, each}
use Rattle.link_meaning.specs.Assignments.{Setting, Assigned}
use Rattle.link_meaning.specs.AssignmentsRead.{AssignsRead}
use Rattle.link_meaning.specs.Coverings.{covered_tests}
use Rattle.link_meaning.specs.Passes.{map_all, shared_test, assigned_map}
use Rattle.link_meaning.specs.CoveringMaps.{included_part, covering_map, MeetsCoverings, HaveSameEnds}
use Rattle.link_meaning.specs.LinkMaps.{IsSettled}

-- The second pass answers a map exactly where it gives what the coverings give.
abbrev pub CoveringMapMeetsCoverings : Type 0
CoveringMapMeetsCoverings =
    (setting : Setting) (assigned : List Assigned) (along : HeadMap) → IsSettled setting
    → (covering_map setting assigned ≡ Ok along) ↔ MeetsCoverings setting assigned along

-- At most one map does.
abbrev pub OneMapMeetsCoverings : Type 0
OneMapMeetsCoverings =
    (setting : Setting) (assigned : List Assigned) (along other : HeadMap) → IsSettled setting
    → MeetsCoverings setting assigned along → MeetsCoverings setting assigned other → along ≡ other

-- It is refused exactly where its tests are, and so: where they pass, all images are there.
abbrev pub CoveringsRefuseByTests : Type 0
CoveringsRefuseByTests =
    (setting : Setting) (assigned : List Assigned) (refusal : Refusal) → IsSettled setting
    → (covering_map setting assigned ≡ Err refusal) ↔ (covered_tests setting assigned ≡ Err refusal)

-- A theory is not covered, or two coverings disagree: the tests break no other rule.
abbrev pub CoveringRules : Type 0
CoveringRules =
    (setting : Setting) (assigned : List Assigned) (refusal : Refusal) → covered_tests setting assigned ≡ Err refusal
    → (refusal.rule ≡ Rule.IncludeNotCovered) ⊎ (refusal.rule ≡ Rule.MorphismsDisagree)

-- The third and the fourth pass go on from the images of the second.
abbrev pub later_passes : Setting → List Assigned → HeadMap → Outcome HeadMap
later_passes setting assigned front = do
  along ← map_all setting assigned front (own_part setting.environment setting.domain)
  _ ← each (shared_test setting along) assigned
  Ok along

-- So the map of a link is made of these, refusals included.
abbrev pub LinksBeginWithCoverings : Type 0
LinksBeginWithCoverings =
    (setting : Setting) (assigned : List Assigned) → IsSettled setting → assigned_map setting assigned ≡ covering_map setting assigned >>= later_passes setting assigned

-- It begins with them.
abbrev pub LinkMapsBeginWithCoverings : Type 0
LinkMapsBeginWithCoverings =
    (setting : Setting) (assigned : List Assigned) (along : HeadMap) → IsSettled setting → assigned_map setting assigned ≡ Ok along
    → covering_map setting assigned ≡ Ok (take (length (included_part setting)) along)

-- What assignments give depends on the ends alone: not on the structure, its name, the link's place, and the own constants
-- of the codomain so far.
abbrev pub ReadingKeepsToEnds : Type 0
ReadingKeepsToEnds =
    (setting other : Setting) (earlier : List Path) (assigns : List Assign) (assigned : List Assigned) → HaveSameEnds setting other
    → AssignsRead setting earlier assigns assigned → AssignsRead other earlier assigns assigned

-- So do the coverings.
abbrev pub CoveringsKeepToEnds : Type 0
CoveringsKeepToEnds =
    (setting other : Setting) (assigned : List Assigned) (along : HeadMap) → HaveSameEnds setting other
    → MeetsCoverings setting assigned along → MeetsCoverings other assigned along

-- So does the second pass with its refusals, where the link's place and label are the same.
abbrev pub CoveringMapKeepsToEnds : Type 0
CoveringMapKeepsToEnds =
    (setting other : Setting) (assigned : List Assigned) → HaveSameEnds setting other → setting.span ≡ other.span → setting.label ≡ other.label
    → (covered_tests setting assigned ≡ covered_tests other assigned) × (covering_map setting assigned ≡ covering_map other assigned)
