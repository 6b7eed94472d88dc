-- Environments that rows of names give: something is known of the names that they have, and all others are absent (this
-- profile).
use Rattle.std.specs.Prelude.{Option, Some, None, option_map}
use Rattle.translation_meaning.specs.Below.Rows.{Rows, row_of}
use Rattle.library_meaning.specs.Faces.{Known, IsAbsent, Environment}

-- What is known of a module; of none, that it is absent.
abbrev pub known_or_absent : Option Known → Known
known_or_absent None = IsAbsent
known_or_absent (Some known) = known

-- What is known of each name, where this is known by what stands under it.
abbrev pub environment_from : {A : Type 0} → (A → Known) → Rows A → Environment
environment_from known_by rows name = known_or_absent (option_map known_by (row_of rows name))
