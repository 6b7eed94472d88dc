-- Constants that have no image in a map, as the tables have it.
use Rattle.std.proofs.Common.{◌≡◌, List, Option, Some, None, ◌∙◌}
use Rattle.std.specs.Option.{option_map}
use Rattle.lf_meaning.specs.HeadMaps as meant
use Rattle.base_types.specs.declared.qname.QName.{QName}
use Rattle.term_trees.specs.declared.flat_decl.Image.{Image}
use Rattle.term_trees.specs.Readings.{read_constant, read_image, read_map}
use Rattle.lf_terms.specs.Tables.{image_of}
use Rattle.lf_terms.proofs.Lookup.{mapped_read}

none_mapped : {A B : Type 0} (f : A → B) (found : Option A) → option_map f found ≡ None → found ≡ None
none_mapped f None h = cc
none_mapped f (Some a) h = absurd (cc)

-- A constant that what the map stands for gives no image has none in its table.
pub new_in_table : (pairs : List (QName × Image)) (name : QName) → meant.image_of (read_map pairs) (read_constant name) ≡ None → image_of pairs name ≡ None
new_in_table pairs name new = none_mapped read_image (image_of pairs name) (mapped_read pairs name ∙ new)
