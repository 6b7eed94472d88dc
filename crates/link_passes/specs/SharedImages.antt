-- What is translated where shared structures are compared.
use Rattle.std.specs.Prelude.{◌≡◌, List, None, Some, ⊤}
use Rattle.list_laws.proofs.Members.{Member}
use Rattle.name_meaning.specs.Names.{Path}
use Rattle.lf_meaning.specs.HeadMaps.{HeadMap}
use Rattle.translation_meaning.specs.Unmapped.{unmapped_map}
use Rattle.library_meaning.specs.Words.{Link}
use Rattle.text_meaning.specs.Tokens.{Span}
use Rattle.link_meaning.specs.Assignments.{Setting, Assigned, Covering, Sharing, Giving, structure_at}

-- The map has an image for each constant in the images of a shared structure.
abbrev pub SharesMapped : HeadMap → Assigned → Type 0
SharesMapped along (Covering first by) = ⊤
SharesMapped along (Sharing target structure first by) = unmapped_map along structure.map ≡ None
SharesMapped along (Giving target value) = ⊤

-- Each shared structure is one of the domain.
abbrev pub AreShared : Setting → List Assigned → Type 0
AreShared setting assigned = (target : Path) (structure : Link) (first : Span) (by : Link) → Member (Sharing target structure first by) assigned → structure_at setting target ≡ Some structure
