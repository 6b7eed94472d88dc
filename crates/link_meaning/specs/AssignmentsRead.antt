-- What assignments give, as a relation (this profile).
use Rattle.std.specs.Prelude.{◌≡◌, true, List, [], ◌∷◌, Some, IsSome, ⊤}
use Rattle.name_meaning.specs.Names.{Path}
use Rattle.library_meaning.specs.Faces.{own_part}
use Rattle.library_meaning.specs.Resolution.{own_at}
use Rattle.library_meaning.specs.Words.{Link, RowMeans, row_meaning}
use Rattle.text_meaning.specs.Trees.{Written, Assign, IncludeAssign, StructAssign, ConstAssign}
use Rattle.link_meaning.specs.Assignments.{Setting, Assigned, Covering, Sharing, Giving, paths_of, word_place, structure_at, covering_ends, sharing_ends, is_free, with_target}

-- The words mean the link.
abbrev pub Means : Setting → List Written → Link → Type 0
Means setting words by = row_meaning setting.environment setting.here (paths_of words) ≡ RowMeans by

-- A value is for an own constant of the domain; an inclusion has a link from a theory that the domain includes into the
-- codomain, or into a theory that this includes; a structure of the domain, or of a structure's domain and so on, has a link
-- from its own domain, or from a theory that includes that, and into the same. No target overlaps an earlier one.
abbrev pub AssignReads : Setting → List Path → Assign → Assigned → Type 0
AssignReads setting earlier (ConstAssign target value) assigned =
    IsSome (own_at (own_part setting.environment setting.domain) target.path) × (is_free earlier target.path ≡ true) × (assigned ≡ Giving target.path value)
AssignReads setting earlier (IncludeAssign words) assigned =
    (by : Link) × Means setting words by × (covering_ends setting by ≡ true) × (assigned ≡ Covering (word_place words 0) by)
AssignReads setting earlier (StructAssign target words) assigned =
    (structure : Link) × (by : Link) × (structure_at setting target.path ≡ Some structure) × (is_free earlier target.path ≡ true) × Means setting words by
    × (sharing_ends setting structure by ≡ true) × (assigned ≡ Sharing target.path structure (word_place words 0) by)

-- Each assignment gives what stands beside it.
abbrev pub AssignsRead : Setting → List Path → List Assign → List Assigned → Type 0
AssignsRead setting earlier [] [] = ⊤
AssignsRead setting earlier [] (first ∷ rest) = ⊥
AssignsRead setting earlier (assign ∷ assigns) [] = ⊥
AssignsRead setting earlier (assign ∷ assigns) (first ∷ rest) = AssignReads setting earlier assign first × AssignsRead setting (with_target earlier assign) assigns rest
