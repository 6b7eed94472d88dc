-- Images with their parts in order.
use Rattle.std.specs.Prelude.{Option}
use Rattle.lf_meaning.specs.Terms.{Constant}
use Rattle.lf_meaning.specs.HeadMaps.{Image, HeadMap}
use Rattle.translation_meaning.specs.Unmapped.{first_of, unmapped_class, unmapped_value}

-- The first constant without an image in an image, its class before its value.
abbrev pub unmapped_image : HeadMap → Image → Option Constant
unmapped_image along image = first_of (unmapped_class along image.class) (unmapped_value along image.value)
