-- The bytes behind a name.
use Rattle.std.specs.Prelude.{ℕ, List}
use Rattle.std.specs.Arc.{arc_str_bytes}
use Rattle.base_types.specs.declared.name.Text.{Text}
use Rattle.base_types.specs.declared.name.Text.TheVariants.{Short, Shared}

abbrev pub text_bytes : Text → List ℕ
text_bytes (Short text) = text
text_bytes (Shared text) = arc_str_bytes text
