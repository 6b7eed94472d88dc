-- What a link leads into, and when its map is coherent there (this profile).
use Rattle.std.specs.Prelude.{◌≡◌, ℕ, true, List, slice_get, Option, Some, None, is_some, if◌then◌else◌}
use Rattle.name_meaning.specs.Names.{Name, Path, same_name}
use Rattle.lf_meaning.specs.Signatures.{Signature}
use Rattle.library_meaning.specs.Faces.{StructureFace, TheoryFace, IsAbsent, Environment, theory_of, flat_signature, flat_of}
use Rattle.library_meaning.specs.Coherence.{IsCoherentMap, IsCoherent}
use Rattle.library_meaning.specs.Words.{Link, RowMeans, row_meaning}

-- The constants of a codomain: those so far of the theory that is being built, or those of a known theory.
abbrev pub target_of : Environment → Option TheoryFace → Name → Signature
target_of environment None name = flat_of environment name
target_of environment (Some face) name = if same_name face.name name then flat_signature environment face else flat_of environment name

-- The structures are from known theories, and have coherent maps into the signature.
abbrev pub StructuresHold : Environment → List StructureFace → Signature → Type 0
StructuresHold environment structures target =
    (i : ℕ) (structure : StructureFace) → slice_get structures i ≡ Some structure
    → (is_some (theory_of environment structure.domain) ≡ true) × IsCoherentMap (flat_of environment structure.domain) target structure.map

-- The theory that is being built is not known to others, and its structures hold.
pub record HereHolds (environment : Environment) (here : Option TheoryFace) : Type 0 where
  pub absent : (face : TheoryFace) → here ≡ Some face → environment face.name ≡ IsAbsent
  pub structures : (face : TheoryFace) → here ≡ Some face → StructuresHold environment face.structures (flat_signature environment face)

-- The link is from a known theory, and has a coherent map into its codomain.
pub record LinkHolds (environment : Environment) (here : Option TheoryFace) (link : Link) : Type 0 where
  pub domain : is_some (theory_of environment link.domain) ≡ true
  pub map_is : IsCoherentMap (flat_of environment link.domain) (target_of environment here link.codomain) link.map

-- A row of words means a link with a coherent map.
abbrev pub RowsAreCoherent : Type 0
RowsAreCoherent =
    (environment : Environment) (here : Option TheoryFace) (words : List Path) (link : Link) → IsCoherent environment → HereHolds environment here
    → row_meaning environment here words ≡ RowMeans link → LinkHolds environment here link
