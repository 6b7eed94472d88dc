-- Arguments taken at once.
use Rattle.std.specs.Prelude.{List, [], ◌∷◌, Option, None}
use Rattle.lf_meaning.specs.Terms.{Constant, Object}
use Rattle.lf_meaning.specs.HeadMaps.{HeadMap}
use Rattle.translation_meaning.specs.Unmapped.{first_of, unmapped_object}

-- The first constant without an image in the arguments.
abbrev pub unmapped_arguments : HeadMap → List Object → Option Constant
unmapped_arguments along [] = None
unmapped_arguments along (argument ∷ arguments) = first_of (unmapped_object along argument) (unmapped_arguments along arguments)
