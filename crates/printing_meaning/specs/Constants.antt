-- How constants are printed, seen from a theory (this profile).
use Rattle.std.specs.Prelude.{ℕ, List, [], ◌∷◌, ◌++◌, if◌then◌else◌, codes}
use Rattle.std.specs.Fmt.{decimal}
use Rattle.name_meaning.specs.Names.{Name, Path, same_name}
use Rattle.lf_meaning.specs.Terms.{Constant}

-- The theory from which terms are seen, and the prefix of its printed variables.
pub record Seen : Type 0 where
  pub theory : Name
  pub prefix : List ℕ

-- The names of a path, joined by dots.
unfoldable pub path_text : Path → List ℕ
path_text [] = []
path_text (name ∷ []) = name
path_text (name ∷ second ∷ path) = name ++ codes "." ++ path_text (second ∷ path)

-- A constant of the theory prints as its path, any other as its theory, a dot and its path.
abbrev pub constant_text : Seen → Constant → List ℕ
constant_text seen constant =
    if same_name constant.theory seen.theory then path_text constant.path else constant.theory ++ codes "." ++ path_text constant.path

-- The variable of the binder with this number, counted from 1 at the outside.
abbrev pub variable_text : Seen → ℕ → List ℕ
variable_text seen number = seen.prefix ++ decimal number
