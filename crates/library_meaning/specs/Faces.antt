-- What a module shows to others, and what is known of each module (Rabe and Kohlhase 2013, section 3: theories, structures
-- and views as they are after flattening).
use Rattle.std.specs.Prelude.{List, [], ◌∷◌, ◌++◌, Option, Some, None, flat_map, if◌then◌else◌}
use Rattle.translation_meaning.specs.Below.Names.{Name, same_name}
use Rattle.translation_meaning.specs.Below.Signatures.{Signature}
use Rattle.translation_meaning.specs.Below.HeadMaps.{HeadMap}

-- A structure's name, the theory that it is from, and its map, from that theory's flat signature to the declaring
-- theory's.
pub record StructureFace : Type 0 where
  pub name : Name
  pub domain : Name
  pub map : HeadMap

-- A theory's name, its declared and induced constants, the theories that it includes, each once and behind what it
-- includes itself, and its structures.
pub record TheoryFace : Type 0 where
  pub name : Name
  pub own : Signature
  pub includes : List Name
  pub structures : List StructureFace

-- A view's name, its ends, and its map, from the flat signature of the domain to that of the codomain.
pub record ViewFace : Type 0 where
  pub name : Name
  pub domain : Name
  pub codomain : Name
  pub map : HeadMap

-- A module is absent, refused, or accepted with its face.
pub data Known : Type 0 where
  IsAbsent : Known
  IsRefused : Known
  IsTheory : TheoryFace → Known
  IsView : ViewFace → Known

-- What is known of each module. Equal look-ups are one environment.
abbrev pub Environment : Type 0
Environment = Name → Known

abbrev pub theory_face : Known → Option TheoryFace
theory_face IsAbsent = None
theory_face IsRefused = None
theory_face (IsTheory face) = Some face
theory_face (IsView face) = None

abbrev pub view_face : Known → Option ViewFace
view_face IsAbsent = None
view_face IsRefused = None
view_face (IsTheory face) = None
view_face (IsView face) = Some face

-- The accepted theory of this name, if there is one.
abbrev pub theory_of : Environment → Name → Option TheoryFace
theory_of environment name = theory_face (environment name)

-- The accepted view of this name, if there is one.
abbrev pub view_of : Environment → Name → Option ViewFace
view_of environment name = view_face (environment name)

-- The structure of this name, if the theory declares one.
unfoldable pub structure_of : List StructureFace → Name → Option StructureFace
structure_of [] name = None
structure_of (first ∷ structures) name = if same_name first.name name then Some first else structure_of structures name

abbrev pub own_of : Option TheoryFace → Signature
own_of None = []
own_of (Some face) = face.own

abbrev pub includes_of : Option TheoryFace → List Name
includes_of None = []
includes_of (Some face) = face.includes

-- The own constants of a theory; of another module none.
abbrev pub own_part : Environment → Name → Signature
own_part environment name = own_of (theory_of environment name)

-- The own parts of these theories, in order.
abbrev pub own_parts : Environment → List Name → Signature
own_parts environment names = flat_map (own_part environment) names

-- The flat signature of a theory: the own parts of what it includes, in order, and then its own.
abbrev pub flat_signature : Environment → TheoryFace → Signature
flat_signature environment face = own_parts environment face.includes ++ face.own

-- The flat signature of the theory of this name; of another module the empty one.
abbrev pub flat_of : Environment → Name → Signature
flat_of environment name = own_parts environment (includes_of (theory_of environment name)) ++ own_part environment name
