-- The map of a link, by equations on it (Rabe and Kohlhase 2013, section 3: a morphism translates by itself; which values it
-- has is this profile).
use Rattle.std.specs.Prelude.{◌≡◌, ℕ, true, false, List, slice_get, Option, Some, None, option_map, Bool, ⊤}
use Rattle.name_meaning.specs.Names.{Name, Path}
use Rattle.lf_meaning.specs.Signatures.{Class, Value, SameAs, Declaration}
use Rattle.lf_meaning.specs.HeadMaps.{Mapping, HeadMap}
use Rattle.elaborate_meaning.specs.Below.Translation.{translate_class, translate_value}
use Rattle.elaborate_meaning.specs.Below.Differ.{value_in}
use Rattle.library_meaning.specs.Faces.{theory_of, includes_of, own_parts, flat_of}
use Rattle.library_meaning.specs.Closure.{sees}
use Rattle.library_meaning.specs.Coherence.{declared_names, mapped_names}
use Rattle.library_meaning.specs.Words.{Link}
use Rattle.text_meaning.specs.Tokens.{Span}
use Rattle.elaborate_meaning.specs.Stands.{StandsValue}
use Rattle.link_meaning.specs.Assignments.{Setting, is_or_includes, included_theories, Assigned, Covering, Sharing}
use Rattle.link_meaning.specs.Coverings.{is_identity_covering, identity_on}
use Rattle.link_meaning.specs.Passes.{Reached, ByNone, ByValue, ByStructure, reached_by, induced_constant, constant_in, is_own}

-- The map is a covering of the theory: the identity, where it is one, or the map of an assignment whose link is from the
-- theory or from one that includes it.
pub data IsCovering (setting : Setting) (assigned : List Assigned) (theory : Name) (along : HeadMap) : Type 0 where
  ByIdentity : is_identity_covering setting assigned theory ≡ true → along ≡ identity_on setting theory → IsCovering setting assigned theory along
  ByAssignment : (place : ℕ) (first : Span) (by : Link) → slice_get assigned place ≡ Some (Covering first by)
      → is_or_includes setting.environment by.domain theory ≡ true → along ≡ by.map → IsCovering setting assigned theory along

-- The theory has a covering.
abbrev pub IsCovered : Setting → List Assigned → Name → Type 0
IsCovered setting assigned theory = (along : HeadMap) × IsCovering setting assigned theory along

-- Every covering of its theory, and there is one, gives the constant this value.
pub record CoveringsGive (setting : Setting) (assigned : List Assigned) (declaration : Declaration) (value : Value) : Type 0 where
  pub covered : IsCovered setting assigned declaration.name.theory
  pub give : (along : HeadMap) → IsCovering setting assigned declaration.name.theory along → value_in along declaration.name ≡ Some value

-- Of a defined constant, the value is its translated definition.
abbrev pub IsDefinition : Option Value → Value → Type 0
IsDefinition None value = ⊤
IsDefinition (Some definition) value = value ≡ definition

-- A structure copies the constant; in a view this never holds.
abbrev pub IsCopied : Setting → Option Name → Declaration → Value → Type 0
IsCopied setting None declaration value = ⊥
IsCopied setting (Some structure) declaration value = value ≡ SameAs (induced_constant setting structure declaration.name)

-- Without an assignment, a defined constant has its translated definition, and an undefined one is copied.
abbrev pub IsUnassigned : Setting → Option Value → Declaration → Value → Type 0
IsUnassigned setting None declaration value = IsCopied setting setting.structure declaration value
IsUnassigned setting (Some definition) declaration value = value ≡ definition

-- The value of an own constant of the domain, by what reaches it: an assigned value at its translated class; the image
-- that a sharing link gives; else the translated definition, or the copy.
abbrev pub OwnHasValue : Setting → Reached → Class → Option Value → Declaration → Value → Type 0
OwnHasValue setting ByNone class definition declaration value = IsUnassigned setting definition declaration value
OwnHasValue setting (ByValue target expression) class definition declaration value = StandsValue setting.scope expression class value × IsDefinition definition value
OwnHasValue setting (ByStructure target rest structure first by) class definition declaration value =
    (value_in by.map (constant_in structure rest) ≡ Some value) × IsDefinition definition value

-- The value of a constant of the domain, own or included.
abbrev pub HasValueBy : Setting → List Assigned → Bool → Class → Option Value → Declaration → Value → Type 0
HasValueBy setting assigned true class definition declaration value = OwnHasValue setting (reached_by assigned declaration.name.path) class definition declaration value
HasValueBy setting assigned false class definition declaration value = CoveringsGive setting assigned declaration value

-- This value is due to a constant of the domain.
abbrev pub HasValue : Setting → List Assigned → Class → Option Value → Declaration → Value → Type 0
HasValue setting assigned class definition declaration value = HasValueBy setting assigned (is_own setting declaration) class definition declaration value

-- The shared structure's image of the constant, translated along the map, is the image that the sharing link gives.
pub record IsShared (along : HeadMap) (structure by : Link) (declaration : Declaration) : Type 0 where
  pub value : Value
  pub image : value_in structure.map declaration.name ≡ Some value
  pub same : value_in by.map declaration.name ≡ Some (translate_value along value)

-- The map meets the equations of the link: it has the names of the domain's flat signature, in order; each class is
-- translated by the map itself; each constant has the value that is due to it; every included theory is covered; and shared
-- structures share what their domains include.
pub record MeetsEquations (setting : Setting) (assigned : List Assigned) (along : HeadMap) : Type 0 where
  pub names : mapped_names along ≡ declared_names (flat_of setting.environment setting.domain)
  pub classes : (i : ℕ) (mapping : Mapping) (declaration : Declaration)
      → slice_get along i ≡ Some mapping → slice_get (flat_of setting.environment setting.domain) i ≡ Some declaration
      → mapping.image.class ≡ translate_class along declaration.class
  pub values : (i : ℕ) (mapping : Mapping) (declaration : Declaration)
      → slice_get along i ≡ Some mapping → slice_get (flat_of setting.environment setting.domain) i ≡ Some declaration
      → HasValue setting assigned (translate_class along declaration.class) (option_map (translate_value along) declaration.value) declaration mapping.image.value
  pub covered : (theory : Name) → sees (included_theories setting) theory ≡ true → IsCovered setting assigned theory
  pub shared : (i : ℕ) (target : Path) (structure : Link) (first : Span) (by : Link) → slice_get assigned i ≡ Some (Sharing target structure first by)
      → (j : ℕ) (declaration : Declaration)
      → slice_get (own_parts setting.environment (includes_of (theory_of setting.environment structure.domain))) j ≡ Some declaration
      → IsShared along structure by declaration
