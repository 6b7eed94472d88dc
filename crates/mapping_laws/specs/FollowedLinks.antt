-- Links that follow others in a row (this profile).
use Rattle.std.specs.Prelude.{◌≡◌, true, List, Option, Some, None}
use Rattle.name_meaning.specs.Names.{Name, Path}
use Rattle.lf_meaning.specs.Signatures.{Signature}
use Rattle.translation_meaning.specs.Unmapped.{unmapped_map}
use Rattle.library_meaning.specs.Faces.{StructureFace, TheoryFace, Environment, theory_of, structure_of}
use Rattle.library_meaning.specs.Coherence.{IsCoherent}
use Rattle.library_meaning.specs.Words.{Link, followed_by, structures_of, structures_link, Means, meets, word_meaning}
use Rattle.link_laws.specs.LinkTargets.{StructuresHold, HereHolds, LinkHolds}

-- Between the links of inner structures and the structure that has them, nothing is without an image.
abbrev pub StructuresAreFollowed : Type 0
StructuresAreFollowed =
    (environment : Environment) (structures : List StructureFace) (target : Signature) (name : Name) (structure : StructureFace) (path : Path) (inner : Link)
    → IsCoherent environment → StructuresHold environment structures target → structure_of structures name ≡ Some structure
    → structures_link environment structure.domain (structures_of (theory_of environment structure.domain)) path ≡ Some inner → unmapped_map structure.map inner.map ≡ None

-- So it is between the links of a row of words; what a word means is a link with a coherent map, and so is the link so far, followed
-- by it.
pub record IsFollowed (environment : Environment) (here : Option TheoryFace) (so_far next : Link) : Type 0 where
  pub images : unmapped_map next.map so_far.map ≡ None
  pub followed : LinkHolds environment here (followed_by so_far next)

abbrev pub WordsAreFollowed : Type 0
WordsAreFollowed =
    (environment : Environment) (here : Option TheoryFace) (so_far next : Link) (word : Path)
    → IsCoherent environment → HereHolds environment here → LinkHolds environment here so_far
    → word_meaning environment here word ≡ Means next → meets environment so_far next ≡ true → IsFollowed environment here so_far next
