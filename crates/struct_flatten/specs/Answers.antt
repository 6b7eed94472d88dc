-- What flattening a structure answers, in the words of the definitions.
use Rattle.std.specs.Prelude.{◌≡◌, Result, Ok, Err, ⊤}
use Rattle.lf_meaning.specs.HeadMaps.{HeadMap}
use Rattle.text_meaning.specs.Trees.{first_name}
use Rattle.library_meaning.specs.Faces.{TheoryFace, Environment, flat_of, flat_signature}
use Rattle.link_meaning.specs.Refusals.{Outcome}
use Rattle.link_meaning.specs.Assignments.{Setting}
use Rattle.link_meaning.specs.Induced.{with_structure}
use Rattle.verdict_meaning.specs.Modules.{structure_setting}
use Rattle.face_typing.specs.Below.TypedFaces.{IsTypedEnvironment, IsTypedTheory}
use Rattle.face_typing.specs.CarryingMaps.{CarriesTyping}
use Rattle.mmt_syntax.specs.Readings.{read_written}
use Rattle.mmt_syntax.specs.declared.decl.StructDecl.{StructDecl}
use Rattle.morphism.specs.Below.Answers.{IsFirstRefusal}
use Rattle.morphism.specs.Below.LinkFault.{LinkFault}

-- Where the link of a structure stands.
abbrev pub setting_of : Environment → TheoryFace → StructDecl → Setting
setting_of environment here decl = structure_setting environment here (read_written decl.name) (first_name decl.domain.path)

-- The theory has the structure, with this map, behind what it had.
abbrev pub HasStructure : Environment → TheoryFace → StructDecl → HeadMap → TheoryFace → Type 0
HasStructure environment before decl along after = after ≡ with_structure before (setting_of environment before decl) (first_name decl.name.path) along

-- The call answers what the definition of the link's map does: the theory then has the structure with that map; else it is the
-- first refusal.
abbrev pub Flattens : Environment → TheoryFace → StructDecl → TheoryFace → Result ⊤ LinkFault → Outcome HeadMap → Type 0
Flattens environment before decl after (Ok done) outcome = (along : HeadMap) × (outcome ≡ Ok along) × HasStructure environment before decl along after
Flattens environment before decl after (Err fault) outcome = IsFirstRefusal fault outcome

-- Where all that is known of others is well typed, and the theory was, so is the theory with the structure, the map of which
-- carries typing from its domain to the theory.
abbrev pub KeepsTyped : Environment → TheoryFace → StructDecl → TheoryFace → Type 0
KeepsTyped environment before decl after =
    IsTypedEnvironment environment → IsTypedTheory environment before
    → IsTypedTheory environment after
    × (along : HeadMap) × HasStructure environment before decl along after × CarriesTyping (flat_of environment (first_name decl.domain.path)) (flat_signature environment after) along
