-- The log of the edits made, and the library that it leaves (this profile).
use Rattle.std.specs.Prelude.{ℕ, zero, suc, Bool, List, [], ◌∷◌, max, map, length, not, filter, fold, slice_get, Option, Some, None, is_some, if◌then◌else◌, ◌≡◌, true}
use Rattle.name_meaning.specs.Names.{Name, Text, same_name, comes_before, is_ascending}

-- A text is put under a name, or a name is dropped.
pub data Edit : Type 0 where
  Put : Name → Text → Edit
  Drop : Name → Edit

-- The name that the edit is of.
abbrev pub edited_name : Edit → Name
edited_name (Put name text) = name
edited_name (Drop name) = name

-- The edits made, in order.
abbrev pub Log : Type 0
Log = List Edit

-- A name with its text.
pub record Module : Type 0 where
  pub name : Name
  pub text : Text

-- A list of modules. A library has them in byte order of their names, each name once (`IsLibrary`), so that two
-- libraries which give the same names the same texts are one list.
abbrev pub Library : Type 0
Library = List Module

-- The names of the modules, in order.
abbrev pub names_of : Library → List Name
names_of library = map (λ (own : Module). own.name) library

-- The list is a library: its names stand in byte order, each once.
abbrev pub IsLibrary : Library → Type 0
IsLibrary library = is_ascending (names_of library) ≡ true

-- The library with this text under this name, in place of the text that the name had.
unfoldable pub with_module : Name → Text → Library → Library
with_module name text [] = record { name = name; text = text } ∷ []
with_module name text (other ∷ library) =
    if same_name name other.name then record { name = name; text = text } ∷ library
    else (if comes_before name other.name then record { name = name; text = text } ∷ other ∷ library
    else other ∷ with_module name text library)

-- The library without this name.
unfoldable pub without_module : Name → Library → Library
without_module name library = filter (λ (own : Module). not (same_name name own.name)) library

-- The library after the edit.
abbrev pub edited : Library → Edit → Library
edited library (Put name text) = with_module name text library
edited library (Drop name) = without_module name library

-- The library that a log leaves.
unfoldable pub library_of : Log → Library
library_of log = fold edited [] log

-- The text that the library has under the name, if it has the name.
unfoldable pub text_of : Library → Name → Option Text
text_of [] name = None
text_of (first ∷ library) name = if same_name name first.name then Some first.text else text_of library name

-- The library has the name.
abbrev pub is_present : Library → Name → Bool
is_present library name = is_some (text_of library name)

-- The version of a log, which is the number of edits made.
abbrev pub version_of : Log → ℕ
version_of log = length log

-- The greatest version of an edit of this name among these edits, the first of which made this version; 0 where
-- none is of the name.
unfoldable pub stamp_from : ℕ → Log → Name → ℕ
stamp_from version [] name = 0
stamp_from version (edit ∷ edits) name =
    max (if same_name name (edited_name edit) then version else 0) (stamp_from (suc version) edits name)

-- The stamp of a name, which is the version of its last edit, else 0.
abbrev pub stamp_of : Log → Name → ℕ
stamp_of log name = stamp_from 1 log name

-- The edit that made this version, if there is one.
unfoldable pub edit_at : Log → ℕ → Option Edit
edit_at log zero = None
edit_at log (suc before) = slice_get log before

-- The i-th name of the library in byte order, counted from 0.
abbrev pub name_at : Log → ℕ → Option Name
name_at log i = slice_get (names_of (library_of log)) i
