-- What holds of all that is known of modules when it was made by the rules (this profile). The laws of links and of faces ask
-- for it; those of resolution and expansion ask for nothing.
use Rattle.std.specs.Prelude.{◌≡◌, ◌≢◌, ℕ, ◌<◌, true, List, [], ◌∷◌, map, take, length, slice_get, Some, IsSome}
use Rattle.translation_meaning.specs.Below.Names.{Name, Path}
use Rattle.translation_meaning.specs.Below.Terms.{Constant}
use Rattle.translation_meaning.specs.Below.Signatures.{Declaration, Signature, declaration_of}
use Rattle.translation_meaning.specs.Below.HeadMaps.{Mapping, HeadMap}
use Rattle.library_meaning.specs.Faces.{StructureFace, TheoryFace, ViewFace, IsTheory, IsView, Environment, theory_of, includes_of, own_part, flat_signature, flat_of}
use Rattle.library_meaning.specs.Closure.{sees}
use Rattle.library_meaning.specs.Holding.{ClassHolds, OptionalValueHolds, ValueHolds, AlikeClasses}

-- Each of these theories is accepted.
abbrev pub AreTheories : Environment → List Name → Type 0
AreTheories environment names = (name : Name) → sees names name ≡ true → IsSome (theory_of environment name)

-- Each theory stands once, and behind what it includes.
pub record IsClosure (environment : Environment) (names : List Name) : Type 0 where
  pub once : (i j : ℕ) (name : Name) → slice_get names i ≡ Some name → slice_get names j ≡ Some name → i ≡ j
  pub behind : (i : ℕ) (name other : Name) → slice_get names i ≡ Some name → sees (includes_of (theory_of environment name)) other ≡ true → sees (take i names) other ≡ true

abbrev pub declared_names : Signature → List Constant
declared_names signature = map (λ (declaration : Declaration). declaration.name) signature

abbrev pub mapped_names : HeadMap → List Constant
mapped_names along = map (λ (mapping : Mapping). mapping.name) along

-- Class and value of each declaration hold only constants that stand before it.
abbrev pub DeclarationsHold : Signature → Type 0
DeclarationsHold signature =
    (i : ℕ) (declaration : Declaration) → slice_get signature i ≡ Some declaration
    → ClassHolds (take i signature) declaration.class × OptionalValueHolds (take i signature) declaration.class declaration.value

-- The map has the names of the source, in order; the images hold only constants of the target, and their classes are
-- alike to those of the source.
pub record IsCoherentMap (from to : Signature) (along : HeadMap) : Type 0 where
  pub names : mapped_names along ≡ declared_names from
  pub holds : (i : ℕ) (mapping : Mapping) → slice_get along i ≡ Some mapping → ClassHolds to mapping.image.class × ValueHolds to mapping.image.class mapping.image.value
  pub alike : (i : ℕ) (mapping : Mapping) (declaration : Declaration) → slice_get along i ≡ Some mapping → slice_get from i ≡ Some declaration → AlikeClasses mapping.image.class declaration.class

-- The own constant at this path of more than one name is induced: its first name is a structure's, and the rest is the
-- path of an own constant of that structure's domain, the class of which is alike.
pub record IsInduced (environment : Environment) (face : TheoryFace) (declaration : Declaration) : Type 0 where
  pub place : ℕ
  pub structure : StructureFace
  pub rest : Path
  pub source : Declaration
  pub found : slice_get face.structures place ≡ Some structure
  pub path : declaration.name.path ≡ structure.name ∷ rest
  pub declared : declaration_of (own_part environment structure.domain) (record { theory = structure.domain; path = rest }) ≡ Some source
  pub alike : AlikeClasses declaration.class source.class

-- The face of an accepted theory that stands under this name.
pub record IsCoherentTheory (environment : Environment) (name : Name) (face : TheoryFace) : Type 0 where
  pub named : face.name ≡ name
  pub own_named : (i : ℕ) (declaration : Declaration) → slice_get face.own i ≡ Some declaration → declaration.name.theory ≡ name
  pub own_paths : (i : ℕ) (declaration : Declaration) → slice_get face.own i ≡ Some declaration → 0 < length declaration.name.path
  pub own_once : (i j : ℕ) (declaration other : Declaration) → slice_get face.own i ≡ Some declaration → slice_get face.own j ≡ Some other → declaration.name ≡ other.name → i ≡ j
  pub includes : AreTheories environment face.includes
  pub includes_closure : IsClosure environment face.includes
  pub includes_others : (other : Name) → sees face.includes other ≡ true → other ≢ name
  pub domains : (i : ℕ) (structure : StructureFace) → slice_get face.structures i ≡ Some structure → IsSome (theory_of environment structure.domain)
  pub maps : (i : ℕ) (structure : StructureFace) → slice_get face.structures i ≡ Some structure → IsCoherentMap (flat_of environment structure.domain) (flat_signature environment face) structure.map
  pub holds : DeclarationsHold (flat_signature environment face)
  pub structures_once : (i j : ℕ) (structure other : StructureFace) → slice_get face.structures i ≡ Some structure → slice_get face.structures j ≡ Some other → structure.name ≡ other.name → i ≡ j
  pub structures_free : (i j : ℕ) (structure : StructureFace) (declaration : Declaration) → slice_get face.structures i ≡ Some structure → slice_get face.own j ≡ Some declaration → declaration.name.path ≢ structure.name ∷ []
  pub induced : (i : ℕ) (declaration : Declaration) → slice_get face.own i ≡ Some declaration → 1 < length declaration.name.path → IsInduced environment face declaration

-- The face of an accepted view that stands under this name.
pub record IsCoherentView (environment : Environment) (name : Name) (face : ViewFace) : Type 0 where
  pub named : face.name ≡ name
  pub domain : IsSome (theory_of environment face.domain)
  pub codomain : IsSome (theory_of environment face.codomain)
  pub map_is : IsCoherentMap (flat_of environment face.domain) (flat_of environment face.codomain) face.map

-- The environment is coherent: so is each accepted face in it.
pub record IsCoherent (environment : Environment) : Type 0 where
  pub theories : (name : Name) (face : TheoryFace) → environment name ≡ IsTheory face → IsCoherentTheory environment name face
  pub views : (name : Name) (face : ViewFace) → environment name ≡ IsView face → IsCoherentView environment name face
