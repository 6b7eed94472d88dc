-- Morphism words and rows of them (Rabe and Kohlhase 2013, section 3: composition of morphisms and structures; which written
-- words there are is this profile).
use Rattle.std.specs.Prelude.{ℕ, zero, suc, Bool, true, false, List, [], ◌∷◌, ◌||◌, map, Option, Some, None, if◌then◌else◌}
use Rattle.translation_meaning.specs.Below.Names.{Name, Path, same_name}
use Rattle.translation_meaning.specs.Below.Signatures.{Value, SameAs, Declaration, Signature}
use Rattle.translation_meaning.specs.Below.HeadMaps.{Mapping, HeadMap}
use Rattle.translation_meaning.specs.Translation.{compose}
use Rattle.library_meaning.specs.Faces.{StructureFace, TheoryFace, ViewFace, Known, IsAbsent, IsRefused, IsTheory, IsView, Environment, theory_of, structure_of, includes_of}
use Rattle.library_meaning.specs.Closure.{sees}

-- A map from the flat signature of one theory to that of another.
pub record Link : Type 0 where
  pub domain : Name
  pub codomain : Name
  pub map : HeadMap

-- The link of a structure into the theory that declares it.
abbrev pub structure_link : Name → StructureFace → Link
structure_link theory structure = record { domain = structure.domain; codomain = theory; map = structure.map }

abbrev pub view_link : ViewFace → Link
view_link view = record { domain = view.domain; codomain = view.codomain; map = view.map }

-- The first link, followed by the second.
abbrev pub followed_by : Link → Link → Link
followed_by first second = record { domain = first.domain; codomain = second.codomain; map = compose first.map second.map }

-- What gives an inner link, followed by the link.
abbrev pub behind_structure : Option Link → Link → Option Link
behind_structure None outer = None
behind_structure (Some inner) outer = Some (followed_by inner outer)

abbrev pub structures_of : Option TheoryFace → List StructureFace
structures_of None = []
structures_of (Some face) = face.structures

-- The link of one structure; or, of further ones, that of the rest in the structure's domain, followed by that of the
-- structure.
abbrev pub link_by : Name → Option StructureFace → Bool → (Name → Option Link) → Option Link
link_by theory None last inner = None
link_by theory (Some structure) last inner =
    if last then Some (structure_link theory structure) else behind_structure (inner structure.domain) (structure_link theory structure)

abbrev pub is_empty : Path → Bool
is_empty [] = true
is_empty (name ∷ path) = false

-- The link of a row of structures in the theory of this name with these structures.
unfoldable pub structures_link : Environment → Name → List StructureFace → Path → Option Link
structures_link environment theory structures [] = None
structures_link environment theory structures (name ∷ path) =
    link_by theory (structure_of structures name) (is_empty path)
    (λ (domain : Name). structures_link environment domain (structures_of (theory_of environment domain)) path)

-- Why a word is no link: its module is absent, refused or of the other kind; a structure is not there; or the word does
-- not follow the one before it.
pub data WordFault : Type 0 where
  UnknownModule : WordFault
  RefusedModule : WordFault
  WrongKind : WordFault
  UnknownStructure : WordFault
  EndsApart : WordFault

pub data Meaning : Type 0 where
  Means : Link → Meaning
  Faulty : WordFault → Meaning

-- The link, or a structure that is not there.
abbrev pub or_unknown : Option Link → Meaning
or_unknown None = Faulty UnknownStructure
or_unknown (Some link) = Means link

-- A simple word names a view.
abbrev pub simple_word : Known → Meaning
simple_word IsAbsent = Faulty UnknownModule
simple_word IsRefused = Faulty RefusedModule
simple_word (IsTheory face) = Faulty WrongKind
simple_word (IsView view) = Means (view_link view)

-- A longer word names structures of a theory.
abbrev pub longer_word : Environment → Name → Known → Path → Meaning
longer_word environment name IsAbsent path = Faulty UnknownModule
longer_word environment name IsRefused path = Faulty RefusedModule
longer_word environment name (IsTheory face) path = or_unknown (structures_link environment name face.structures path)
longer_word environment name (IsView view) path = Faulty WrongKind

-- The word begins with the name of the theory that is being built.
abbrev pub is_here : Option TheoryFace → Name → Bool
is_here None name = false
is_here (Some here) name = same_name here.name name

-- What one word means. In a theory a word of two or more names that begins with the theory's own name means the
-- structures that it has so far.
abbrev pub word_meaning : Environment → Option TheoryFace → Path → Meaning
word_meaning environment here [] = Faulty UnknownModule
word_meaning environment here (name ∷ []) = simple_word (environment name)
word_meaning environment here (name ∷ next ∷ path) =
    if is_here here name then or_unknown (structures_link environment name (structures_of here) (next ∷ path))
    else longer_word environment name (environment name) (next ∷ path)

-- The codomain of the link is the domain of the next, or included in it.
abbrev pub meets : Environment → Link → Link → Bool
meets environment link next = same_name link.codomain next.domain || sees (includes_of (theory_of environment next.domain)) link.codomain

-- What a row of words means; or its first fault, with the number of the word, counted from 0.
pub data RowMeaning : Type 0 where
  RowMeans : Link → RowMeaning
  RowFaulty : ℕ → WordFault → RowMeaning

-- The row goes on, where the word follows the link so far.
abbrev pub next_by : Environment → ℕ → Link → Meaning → (Link → RowMeaning) → RowMeaning
next_by environment index so_far (Faulty fault) behind = RowFaulty index fault
next_by environment index so_far (Means link) behind =
    if meets environment so_far link then behind (followed_by so_far link) else RowFaulty index EndsApart

-- The link so far, followed by the words, the first of which has this number.
unfoldable pub row_from : Environment → Option TheoryFace → ℕ → Link → List Path → RowMeaning
row_from environment here index so_far [] = RowMeans so_far
row_from environment here index so_far (word ∷ words) =
    next_by environment index so_far (word_meaning environment here word) (λ (link : Link). row_from environment here (suc index) link words)

abbrev pub first_by : Meaning → (Link → RowMeaning) → RowMeaning
first_by (Faulty fault) behind = RowFaulty zero fault
first_by (Means link) behind = behind link

-- Words in a row compose from left to right. A row has a word at least.
unfoldable pub row_meaning : Environment → Option TheoryFace → List Path → RowMeaning
row_meaning environment here [] = RowFaulty zero UnknownModule
row_meaning environment here (word ∷ words) = first_by (word_meaning environment here word) (λ (link : Link). row_from environment here 1 link words)

-- The identity gives an undefined constant the same constant, and a defined one its own value.
abbrev pub own_value : Declaration → Option Value → Value
own_value declaration None = SameAs declaration.name
own_value declaration (Some value) = value

abbrev pub identity_mapping : Declaration → Mapping
identity_mapping declaration =
    record { name = declaration.name; image = record { class = declaration.class; value = own_value declaration declaration.value } }

abbrev pub identity_map : Signature → HeadMap
identity_map signature = map identity_mapping signature
