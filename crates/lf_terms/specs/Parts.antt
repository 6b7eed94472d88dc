-- Maps of constants whose first pairs stand in parts, one for each theory (this profile).
use Rattle.std.specs.Prelude.{◌≡◌, ℕ, List, [], ◌∷◌, ◌++◌, Option, length, ⊤}
use Rattle.std.specs.List.{flat_map}
use Rattle.std.specs.Map.{lookup}
use Rattle.std.specs.Option.{option_and_then, option_or}
use Rattle.name_meaning.specs.Names.{Name, same_name}
use Rattle.base_types.specs.declared.qname.QName.{QName}
use Rattle.term_trees.specs.declared.flat_decl.Image.{Image}
use Rattle.lf_terms.specs.Tables.{image_of, HasDistinctHeads}

-- Only constants of the theory have images.
abbrev pub AreOfTheory : Name → List (QName × Image) → Type 0
AreOfTheory theory [] = ⊤
AreOfTheory theory (pair ∷ images) = (pair.0.theory ≡ theory) × AreOfTheory theory images

-- Parts under the names of their theories.
abbrev pub Parts : Type 0
Parts = List (Name × List (QName × Image))

-- The pairs of all parts, in order.
abbrev pub pairs_of : Parts → List (QName × Image)
pairs_of = flat_map (λ (part : Name × List (QName × Image)). part.1)

-- The image of a constant in the part of its theory.
abbrev pub image_in_part : Parts → QName → Option Image
image_in_part parts name = option_and_then (λ (images : List (QName × Image)). image_of images name) (lookup (same_name name.theory) parts)

-- The pairs of the parts, and then the others, have different constants; a constant's image is in the part of its theory or, where
-- it is not there, among the others; and so many are they all.
pub record HasParts (parts : Parts) (own : List (QName × Image)) (count : ℕ) : Type 0 where
  pub found : (name : QName) → image_of (pairs_of parts ++ own) name ≡ option_or (image_in_part parts name) (image_of own name)
  pub distinct : HasDistinctHeads (pairs_of parts ++ own)
  pub counted : count ≡ length (pairs_of parts ++ own)
