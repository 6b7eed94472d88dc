-- Constants for which images are made one after another (this profile).
use Rattle.std.specs.Prelude.{◌≡◌, List, [], ◌∷◌, ◌++◌, Option, Some, None, IsSome, Ok}
use Rattle.name_meaning.specs.Names.{Name}
use Rattle.lf_meaning.specs.Terms.{Constant}
use Rattle.lf_meaning.specs.Signatures.{Value, Declaration, Signature}
use Rattle.lf_meaning.specs.HeadMaps.{Mapping, HeadMap, image_of}
use Rattle.translation_meaning.specs.Unmapped.{unmapped_class, unmapped_value}
use Rattle.library_meaning.specs.Faces.{Environment, theory_of, flat_of}
use Rattle.library_meaning.specs.Coherence.{declared_names, mapped_names, DeclarationsHold, IsCoherent}
use Rattle.constant_laws.specs.ExpansionHolds.{NamesOnce}
use Rattle.link_meaning.specs.Assignments.{Setting, Assigned}
use Rattle.link_meaning.specs.CoveringMaps.{cover_all}

-- The first constant of a definition that has no image, if there is a definition.
abbrev pub unmapped_definition : HeadMap → Option Value → Option Constant
unmapped_definition along None = None
unmapped_definition along (Some value) = unmapped_value along value

-- The map has images for all that the declaration holds, and none for the declared constant.
pub record IsNext (along : HeadMap) (declaration : Declaration) : Type 0 where
  pub class : unmapped_class along declaration.class ≡ None
  pub definition : unmapped_definition along declaration.value ≡ None
  pub fresh : image_of along declaration.name ≡ None

-- The map has images for just the constants before these declarations, in a signature that declares each name once, over what
-- stands before it.
pub record StandsBefore (along : HeadMap) (declarations : Signature) : Type 0 where
  pub before : Signature
  pub names : mapped_names along ≡ declared_names before
  pub holds : DeclarationsHold (before ++ declarations)
  pub once : NamesOnce (before ++ declarations)

-- Then the first of them is next.
abbrev pub NextIsMapped : Type 0
NextIsMapped = (along : HeadMap) (declaration : Declaration) (declarations : Signature) → StandsBefore along (declaration ∷ declarations) → IsNext along declaration

-- With its image the map stands before the others.
abbrev pub NextStandsBefore : Type 0
NextStandsBefore =
    (along : HeadMap) (declaration : Declaration) (declarations : Signature) (mapping : Mapping) → StandsBefore along (declaration ∷ declarations)
    → mapping.name ≡ declaration.name → StandsBefore (along ++ mapping ∷ []) declarations

-- The empty map stands before the constants of an accepted theory.
abbrev pub DomainsStandBefore : Type 0
DomainsStandBefore = (environment : Environment) (theory : Name) → IsCoherent environment → IsSome (theory_of environment theory) → StandsBefore [] (flat_of environment theory)

-- The images that coverings give to some constants are added under their names.
abbrev pub CoveringsHaveNames : Type 0
CoveringsHaveNames =
    (setting : Setting) (assigned : List Assigned) (so_far along : HeadMap) (declarations : Signature) → cover_all setting assigned so_far declarations ≡ Ok along
    → mapped_names along ≡ mapped_names so_far ++ declared_names declarations
