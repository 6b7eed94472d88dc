-- The third and the fourth pass over a link, and the link's map (Rabe and Kohlhase 2013, section 3: what a morphism assigns;
-- the order of tests is this profile).
use Rattle.std.specs.Prelude.{Bool, true, false, List, [], ◌∷◌, ◌++◌, Option, Some, None, option_map, Ok, ⊤}
use Rattle.std.specs.List.{list_all}
use Rattle.name_meaning.specs.Names.{Name, Path, same_name}
use Rattle.lf_meaning.specs.Terms.{Constant}
use Rattle.lf_meaning.specs.Signatures.{Class, Value, SameAs, Declaration, Signature}
use Rattle.lf_meaning.specs.Equality.{same_value}
use Rattle.lf_meaning.specs.HeadMaps.{Mapping, HeadMap}
use Rattle.elaborate_meaning.specs.Below.Translation.{translate_class, translate_value}
use Rattle.elaborate_meaning.specs.Below.Differ.{value_in, agree}
use Rattle.library_meaning.specs.Faces.{theory_of, includes_of, own_parts, flat_of}
use Rattle.library_meaning.specs.Words.{Link}
use Rattle.text_meaning.specs.Tokens.{Span}
use Rattle.text_meaning.specs.Trees.{Expr, Assign}
use Rattle.elaborate_meaning.specs.Rules.{Rule}
use Rattle.answer_meaning.specs.Answers.{◌>>=◌}
use Rattle.elaborate_meaning.specs.Expansion.{span_of}
use Rattle.elaborate_meaning.specs.Values.{expand_value}
use Rattle.link_meaning.specs.Refusals.{Outcome, refused, labelled, demand, or_refused, each}
use Rattle.link_meaning.specs.Assignments.{Setting, Assigned, Covering, Sharing, Giving, label_along, is_beginning, read_assigns}
use Rattle.link_meaning.specs.Coverings.{covered_tests, covering_value}

-- The rest of a path behind its beginning, where there is one and it is not empty.
unfoldable pub rest_behind : Path → Path → Option Path
rest_behind [] [] = None
rest_behind [] (name ∷ path) = Some (name ∷ path)
rest_behind (name ∷ beginning) [] = None
rest_behind (name ∷ beginning) (other ∷ path) = elim (same_name name other) [
  | true ↦ rest_behind beginning path
  | false ↦ None
]

-- Which assignment reaches an own constant of the domain: none, one of a value, or one of a structure whose constant it
-- is, with the path of the constant in that structure's domain.
pub data Reached : Type 0 where
  ByNone : Reached
  ByValue : (target : Path) → (value : Expr) → Reached
  ByStructure : (target : Path) → (rest : Path) → (structure : Link) → (first : Span) → (by : Link) → Reached

-- Reached as a constant of a structure, where there is a rest.
abbrev pub by_rest : Path → Link → Span → Link → Option Path → Reached → Reached
by_rest target structure first by None otherwise = otherwise
by_rest target structure first by (Some rest) otherwise = ByStructure target rest structure first by

-- Reached by its value, where the paths are equal.
abbrev pub by_equal : Bool → Path → Expr → Reached → Reached
by_equal true target value otherwise = ByValue target value
by_equal false target value otherwise = otherwise

-- The paths are equal: each is a beginning of the other.
abbrev pub equal_paths : Path → Path → Bool
equal_paths path other = elim (is_beginning path other) [
  | true ↦ is_beginning other path
  | false ↦ false
]

-- The first assignment that reaches the path. The first pass sees to it that there is no second.
unfoldable pub reached_by : List Assigned → Path → Reached
reached_by [] path = ByNone
reached_by (Covering first by ∷ assigned) path = reached_by assigned path
reached_by (Sharing target structure first by ∷ assigned) path = by_rest target structure first by (rest_behind target path) (reached_by assigned path)
reached_by (Giving target value ∷ assigned) path = by_equal (equal_paths target path) target value (reached_by assigned path)

-- The value is the translated definition, if there is one.
abbrev pub is_definition : Option Value → Value → Bool
is_definition None value = true
is_definition (Some definition) value = same_value value definition

-- The constant that a structure of the codomain induces from this one.
abbrev pub induced_constant : Setting → Name → Constant → Constant
induced_constant setting structure constant = record { theory = setting.codomain; path = structure ∷ constant.path }

-- An undefined constant without an assignment is copied by a structure, and missing in a view.
abbrev pub copied_value : Setting → Option Name → Declaration → Outcome Value
copied_value setting None declaration = refused setting.span Rule.MissingAssignment declaration.name.path
copied_value setting (Some structure) declaration = Ok (SameAs (induced_constant setting structure declaration.name))

-- A defined constant has its translated definition.
abbrev pub unassigned_value : Setting → Option Value → Declaration → Outcome Value
unassigned_value setting None declaration = copied_value setting setting.structure declaration
unassigned_value setting (Some definition) declaration = Ok definition

-- The constant of a structure's domain at a path.
abbrev pub constant_in : Link → Path → Constant
constant_in structure rest = record { theory = structure.domain; path = rest }

-- The value of an own constant of the domain, whose translated class and translated definition are given.
abbrev pub own_image : Setting → Reached → Class → Option Value → Declaration → Outcome Value
own_image setting ByNone class definition declaration = unassigned_value setting definition declaration
own_image setting (ByValue target expression) class definition declaration = do
  value ← labelled (label_along setting target) (expand_value setting.scope expression class)
  _ ← demand (is_definition definition value) (span_of expression) Rule.DefinitionClash (label_along setting target)
  Ok value
own_image setting (ByStructure target rest structure first by) class definition declaration = do
  value ← or_refused (value_in by.map (constant_in structure rest)) first Rule.MorphismsDisagree (label_along setting target)
  _ ← demand (is_definition definition value) first Rule.MorphismsDisagree (label_along setting target)
  Ok value

-- The constant is the domain's own.
abbrev pub is_own : Setting → Declaration → Bool
is_own setting declaration = same_name declaration.name.theory setting.domain

-- Own constants have their images by the assignments, included ones by the coverings.
abbrev pub image_by : Setting → List Assigned → Bool → Class → Option Value → Declaration → Outcome Value
image_by setting assigned true class definition declaration = own_image setting (reached_by assigned declaration.name.path) class definition declaration
image_by setting assigned false class definition declaration = covering_value setting assigned declaration

-- The value of a constant of the domain, the map being known for all constants before it.
abbrev pub image_value : Setting → List Assigned → HeadMap → Declaration → Outcome Value
image_value setting assigned so_far declaration =
    image_by setting assigned (is_own setting declaration) (translate_class so_far declaration.class) (option_map (translate_value so_far) declaration.value) declaration

-- The constant with its translated class and this value.
abbrev pub mapping_to : HeadMap → Declaration → Value → Mapping
mapping_to so_far declaration value = record { name = declaration.name; image = record { class = translate_class so_far declaration.class; value = value } }

-- The map so far, with the images of these constants.
unfoldable pub map_all : Setting → List Assigned → HeadMap → Signature → Outcome HeadMap
map_all setting assigned so_far [] = Ok so_far
map_all setting assigned so_far (declaration ∷ declarations) = do
  value ← image_value setting assigned so_far declaration
  map_all setting assigned (so_far ++ mapping_to so_far declaration value ∷ []) declarations

-- The shared structure's image of the constant, translated, is the image that the sharing link gives.
abbrev pub shares : HeadMap → Link → Link → Declaration → Bool
shares along structure by declaration =
    agree (option_map (translate_value along) (value_in structure.map declaration.name)) (value_in by.map declaration.name)

-- What a shared structure's domain includes has one image by both ways.
abbrev pub shared_test : Setting → HeadMap → Assigned → Outcome ⊤
shared_test setting along (Covering first by) = Ok tt
shared_test setting along (Sharing target structure first by) =
    demand (list_all (shares along structure by) (own_parts setting.environment (includes_of (theory_of setting.environment structure.domain)))) first Rule.MorphismsDisagree (label_along setting target)
shared_test setting along (Giving target value) = Ok tt

-- The map of the link that these assignments give.
unfoldable pub assigned_map : Setting → List Assigned → Outcome HeadMap
assigned_map setting assigned = do
  _ ← covered_tests setting assigned
  along ← map_all setting assigned [] (flat_of setting.environment setting.domain)
  _ ← each (shared_test setting along) assigned
  Ok along

-- The map of a link with these written assignments, or the first refusal.
unfoldable pub link_map : Setting → List Assign → Outcome HeadMap
link_map setting assigns = do
  assigned ← read_assigns setting [] assigns
  assigned_map setting assigned
