-- Names and texts, and lists of names in byte order (this profile).
use Rattle.std.specs.Prelude.{List, ℕ, Bool, true, [], ◌∷◌, ◌&&◌, if◌then◌else◌}
use Rattle.std.specs.List.{list_any, list_all}
use Rattle.std.specs.Str.{bytes_eq}
use Rattle.std.specs.Ordering.{nat_cmp, is_lt}
use Rattle.std.specs.Cmp.Lexicographic.{slice_cmp}

-- A name, as its bytes.
abbrev pub Name : Type 0
Name = List ℕ

-- A module's text, as its bytes.
abbrev pub Text : Type 0
Text = List ℕ

-- The two names are equal.
abbrev pub same_name : Name → Name → Bool
same_name = bytes_eq

-- The first name comes before the second in byte order.
abbrev pub comes_before : Name → Name → Bool
comes_before name other = is_lt (slice_cmp nat_cmp name other)

-- The name is one of these.
unfoldable pub is_among : List Name → Name → Bool
is_among names name = list_any (same_name name) names

-- The names stand in byte order, each once.
unfoldable pub is_ascending : List Name → Bool
is_ascending [] = true
is_ascending (name ∷ names) = list_all (comes_before name) names && is_ascending names

-- Names in byte order, with one more at its place where it is not yet one of them.
unfoldable pub with_name : Name → List Name → List Name
with_name name [] = name ∷ []
with_name name (other ∷ names) =
    if same_name name other then other ∷ names
    else (if comes_before name other then name ∷ other ∷ names else other ∷ with_name name names)

-- Names in byte order, with all of these.
unfoldable pub with_names : List Name → List Name → List Name
with_names [] names = names
with_names (name ∷ more) names = with_name name (with_names more names)

-- A path is its names, from the outside in.
abbrev pub Path : Type 0
Path = List Name
