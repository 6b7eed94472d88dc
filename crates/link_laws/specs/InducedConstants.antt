-- The constants that a structure induces, by place (Rabe and Kohlhase 2013, section 3: flattening of structures).
use Rattle.std.specs.Prelude.{◌≡◌, ◌≢◌, ℕ, List, length, slice_get, Some, None}
use Rattle.name_meaning.specs.Names.{Name}
use Rattle.lf_meaning.specs.Signatures.{SameAs, Declaration}
use Rattle.lf_meaning.specs.HeadMaps.{Image, HeadMap, image_of}
use Rattle.translation_meaning.specs.Translation.{translate_class}
use Rattle.library_meaning.specs.Faces.{own_part}
use Rattle.link_meaning.specs.Assignments.{Setting, Assigned}
use Rattle.link_meaning.specs.Passes.{induced_constant}
use Rattle.link_meaning.specs.Equations.{MeetsEquations}
use Rattle.link_meaning.specs.Induced.{induced}
use Rattle.link_meaning.specs.LinkMaps.{IsSettled}

-- The declaration is what the structure of this name induces from the source: its name is the structure's behind the codomain,
-- its class the translated one. It is defined by the image of the source, unless that is the declaration itself.
pub record IsInducedBy (setting : Setting) (structure : Name) (along : HeadMap) (source declaration : Declaration) : Type 0 where
  pub image : Image
  pub mapped : image_of along source.name ≡ Some image
  pub named : declaration.name ≡ induced_constant setting structure source.name
  pub class_is : declaration.class ≡ image.class
  pub translated : declaration.class ≡ translate_class along source.class
  pub copied : image.value ≡ SameAs declaration.name → declaration.value ≡ None
  pub defined : image.value ≢ SameAs declaration.name → declaration.value ≡ Some image.value

-- At this place the structure induces a constant from the source.
pub record IsInducedAt (setting : Setting) (structure : Name) (along : HeadMap) (place : ℕ) (source : Declaration) : Type 0 where
  pub declaration : Declaration
  pub there : slice_get (induced setting structure along) place ≡ Some declaration
  pub is : IsInducedBy setting structure along source declaration

-- Where the map meets the equations of the link, the structure induces one constant from each own constant of its domain, at
-- the same place, and no others.
abbrev pub InducedByPlace : Type 0
InducedByPlace =
    (setting : Setting) (structure : Name) (assigned : List Assigned) (along : HeadMap) → IsSettled setting → MeetsEquations setting assigned along
    → (length (induced setting structure along) ≡ length (own_part setting.environment setting.domain))
    × ((place : ℕ) (source : Declaration) → slice_get (own_part setting.environment setting.domain) place ≡ Some source → IsInducedAt setting structure along place source)
