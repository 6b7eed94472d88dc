-- Laws of the log and of the library that it leaves (this profile).
use Rattle.std.specs.Prelude.{◌≡◌, ℕ, suc, ◌<◌, ◌≤◌, List, [], ◌∷◌, ◌++◌, length, Option, Some, None, if◌then◌else◌}
use Rattle.name_meaning.specs.Names.{Name, Text, same_name, is_among}
use Rattle.edit_log_meaning.specs.Log.{Edit, Put, Drop, edited_name, Log, Library, names_of, library_of, text_of, is_present, version_of, stamp_of, IsLibrary, edit_at, name_at}
use Rattle.edit_log_meaning.specs.Append.{appended, IsWithinLimits}

-- What an edit leaves of its name.
abbrev pub left_by : Edit → Option Text
left_by (Put name text) = Some text
left_by (Drop name) = None

-- The library of a log has its names in byte order, each once.
abbrev pub LogLeavesLibrary : Type 0
LogLeavesLibrary = (log : Log) → IsLibrary (library_of log)

-- The names of a library are those that it has a text for.
abbrev pub NamesArePresent : Type 0
NamesArePresent = (library : Library) (name : Name) → is_present library name ≡ is_among (names_of library) name

-- An edit decides the text of its own name, and leaves those of the others.
abbrev pub EditDecidesText : Type 0
EditDecidesText =
    (log : Log) (edit : Edit) (name : Name)
    → text_of (library_of (log ++ edit ∷ [])) name ≡ (if same_name name (edited_name edit) then left_by edit else text_of (library_of log) name)

-- An edit's version becomes the stamp of its name, and the stamps of the others stay.
abbrev pub EditDecidesStamp : Type 0
EditDecidesStamp =
    (log : Log) (edit : Edit) (name : Name)
    → stamp_of (log ++ edit ∷ []) name ≡ (if same_name name (edited_name edit) then suc (version_of log) else stamp_of log name)

-- The edit at the stamp of a present name put its text.
abbrev pub StampIsOfText : Type 0
StampIsOfText =
    (log : Log) (name : Name) (text : Text) → text_of (library_of log) name ≡ Some text → edit_at log (stamp_of log name) ≡ Some (Put name text)

-- No stamp is greater than the version.
abbrev pub StampsArePast : Type 0
StampsArePast = (log : Log) (name : Name) → stamp_of log name ≤ version_of log

-- A log that keeps to the limits keeps to them after any edit.
abbrev pub LimitsAreKept : Type 0
LimitsAreKept = (log : Log) (edit : Edit) → IsWithinLimits log → IsWithinLimits (appended log edit)

-- The edit at a version is the one that made it, the first edit making version 1.
abbrev pub EditsStandAtVersions : Type 0
EditsStandAtVersions =
    (before after : Log) (edit : Edit) → edit_at (before ++ edit ∷ after) (suc (version_of before)) ≡ Some edit

-- No edit made version 0, or a version past the last one.
abbrev pub NoEditMadeOthers : Type 0
NoEditMadeOthers = (log : Log) → (edit_at log 0 ≡ None) × ((version : ℕ) → version_of log < version → edit_at log version ≡ None)

-- The name with so many names before it in byte order stands at that place, and past the last name there is none.
abbrev pub NamesStandInOrder : Type 0
NamesStandInOrder =
    (log : Log) (before after : List Name) (name : Name) → names_of (library_of log) ≡ before ++ name ∷ after
    → name_at log (length before) ≡ Some name

abbrev pub NoNameStandsPastLast : Type 0
NoNameStandsPastLast = (log : Log) (i : ℕ) → length (names_of (library_of log)) ≤ i → name_at log i ≡ None
