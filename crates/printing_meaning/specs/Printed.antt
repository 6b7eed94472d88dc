-- The lines that are printed (this profile). Each ends in a line feed.
use Rattle.std.specs.Prelude.{ℕ, List, [], ◌∷◌, ◌++◌, ◌+◌, codes}
use Rattle.std.specs.Fmt.{decimal}

abbrev pub end_of_line : List ℕ
end_of_line = 10 ∷ []

-- `N @V`.
abbrev pub named_at : List ℕ → ℕ → List ℕ
named_at name version = name ++ codes " @" ++ decimal version

-- `N @V absent`.
abbrev pub absent_line : List ℕ → ℕ → List ℕ
absent_line name version = named_at name version ++ codes " absent" ++ end_of_line

-- `line L: bad command`.
abbrev pub bad_line : ℕ → List ℕ
bad_line line = codes "line " ++ decimal line ++ codes ": bad command" ++ end_of_line

-- `line L: unended text`.
abbrev pub unended_line : ℕ → List ℕ
unended_line line = codes "line " ++ decimal line ++ codes ": unended text" ++ end_of_line

abbrev pub usage_line : List ℕ
usage_line =
    codes "usage: mmt play [--workers N] | mmt check FOLDER [--workers N] | mmt gen START MODULES EDITS [--workers N]" ++ end_of_line
