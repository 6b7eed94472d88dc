-- The flat text of theories and of views (this profile).
use Rattle.std.specs.Prelude.{ℕ, List, [], ◌++◌, length, flat_map, Option, Some, None, codes}
use Rattle.std.specs.Fmt.{decimal}
use Rattle.printing_meaning.specs.Printed.{end_of_line, named_at}
use Rattle.name_meaning.specs.Names.{Name}
use Rattle.lf_meaning.specs.Signatures.{Value, Declaration}
use Rattle.lf_meaning.specs.HeadMaps.{Mapping}
use Rattle.library_meaning.specs.Faces.{TheoryFace, ViewFace, Environment, own_part, flat_signature, flat_of}
use Rattle.printing_meaning.specs.Prefixes.{prefix_of}
use Rattle.printing_meaning.specs.Constants.{Seen, constant_text}
use Rattle.printing_meaning.specs.PrintedTerms.{class_text, value_text}

-- What is seen from the theory of this name.
abbrev pub seen_from : Environment → Name → Seen
seen_from environment theory = record { theory = theory; prefix = prefix_of (own_part environment theory) }

-- ` = VALUE`, where there is a value.
abbrev pub definition_text : Seen → Option Value → List ℕ
definition_text seen None = []
definition_text seen (Some value) = codes " = " ++ value_text seen value

-- `NAME : CLASS.`, or `NAME : CLASS = VALUE.`
abbrev pub declaration_line : Seen → Declaration → List ℕ
declaration_line seen declaration =
    constant_text seen declaration.name ++ codes " : " ++ class_text seen declaration.class ++ definition_text seen declaration.value ++ codes "." ++ end_of_line

-- `NAME := VALUE.`, the name seen from the domain and the value from the codomain.
abbrev pub mapping_line : Seen → Seen → Mapping → List ℕ
mapping_line domain codomain mapping =
    constant_text domain mapping.name ++ codes " := " ++ value_text codomain mapping.image.value ++ codes "." ++ end_of_line

-- What is seen from the theory of this face.
abbrev pub seen_from_face : TheoryFace → Seen
seen_from_face face = record { theory = face.name; prefix = prefix_of face.own }

-- `N @V flat K`, and then each declaration of the flat signature, of which there are K.
abbrev pub theory_text : Environment → Name → ℕ → TheoryFace → List ℕ
theory_text environment name version face =
    named_at name version ++ codes " flat " ++ decimal (length (flat_signature environment face)) ++ end_of_line
    ++ flat_map (declaration_line (seen_from_face face)) (flat_signature environment face)

-- `N @V map K`, and then each constant of the domain's flat signature with its value, of which there are K.
abbrev pub view_text : Environment → Name → ℕ → ViewFace → List ℕ
view_text environment name version face =
    named_at name version ++ codes " map " ++ decimal (length (flat_of environment face.domain)) ++ end_of_line
    ++ flat_map (mapping_line (seen_from environment face.domain) (seen_from environment face.codomain)) face.map
