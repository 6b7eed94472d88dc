-- Maps from constants to their images (Rabe and Kohlhase 2013, section 3: the assignments of a morphism).
use Rattle.std.specs.Prelude.{List, [], ◌∷◌, Option, Some, None, if◌then◌else◌}
use Rattle.lf_meaning.specs.Terms.{Constant}
use Rattle.lf_meaning.specs.Signatures.{Class, Value, same_constant}

-- The classifier of the constant, translated, and the value that stands for it over the target.
pub record Image : Type 0 where
  pub class : Class
  pub value : Value

pub record Mapping : Type 0 where
  pub name : Constant
  pub image : Image

-- Mappings in order. Where two of them have one name, the first counts.
abbrev pub HeadMap : Type 0
HeadMap = List Mapping

-- The image of the constant, if it has one.
unfoldable pub image_of : HeadMap → Constant → Option Image
image_of [] constant = None
image_of (first ∷ mappings) constant = if same_constant first.name constant then Some first.image else image_of mappings constant
