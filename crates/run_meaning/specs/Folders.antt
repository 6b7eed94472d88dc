-- What checking a folder prints (this profile).
use Rattle.std.specs.Prelude.{ℕ, Bool, true, false, find, List, [], ◌∷◌, ◌++◌, ◌+◌, ◌||◌, not, length, map, filter, nat_eq, Option, Some, None}
use Rattle.name_meaning.specs.Names.{Name, same_name}
use Rattle.edit_log_meaning.specs.Log.{Log, Library, names_of, library_of, version_of}
use Rattle.printing_meaning.specs.Printed.{absent_line}
use Rattle.printing_meaning.specs.VerdictLines.{Judged, Refused, AcceptedTheory, AcceptedView, judged_line}
use Rattle.printing_meaning.specs.FolderLines.{file_line, place_in_file, files_line}
use Rattle.run_meaning.specs.Judging.{Judging, environment_of}
use Rattle.run_meaning.specs.Parts.{Telling, Part, silent_part, part_about, parts_text, parts_told}
use Rattle.run_meaning.specs.Files.{File, module_files, Origin, Damaged, Loading, load}

-- The origin of a loaded module.
abbrev pub origin_named : List Origin → Name → Option Origin
origin_named origins name = find (λ (origin : Origin). same_name name origin.name) origins

-- The verdict line of a module of the folder; a place is counted in its file.
abbrev pub loaded_line : Judging → Log → Name → Option Origin → List ℕ
loaded_line judging log name None = absent_line name (version_of log)
loaded_line judging log name (Some origin) =
    judged_line (environment_of judging (library_of log)) name (version_of log)
    (λ (at : ℕ). place_in_file origin.file.name origin.file.bytes (origin.first + at)) (judging.judged (library_of log) name)

abbrev pub module_line : Judging → Loading → Name → List ℕ
module_line judging loading name = loaded_line judging loading.log name (origin_named loading.origins name)

abbrev pub damaged_line : Damaged → List ℕ
damaged_line damaged = file_line damaged.file.name damaged.file.bytes damaged.fault

abbrev pub is_refused : Judged → Bool
is_refused (Refused refusal) = true
is_refused (AcceptedTheory face) = false
is_refused (AcceptedView face) = false

-- How many modules of the library are refused, and how many are accepted.
abbrev pub refused_count : Judging → Library → ℕ
refused_count judging library = length (filter (λ (name : Name). is_refused (judging.judged library name)) (names_of library))

abbrev pub accepted_count : Judging → Library → ℕ
accepted_count judging library = length (filter (λ (name : Name). not (is_refused (judging.judged library name))) (names_of library))

-- The faults of files in order, the verdict lines of all modules in byte order, and the line of the counts.
abbrev pub loading_parts : Judging → ℕ → Loading → List Part
loading_parts judging files loading =
    map (λ (damaged : Damaged). silent_part (damaged_line damaged)) loading.damaged
    ++ map (λ (name : Name). part_about judging.dependencies loading.log name (module_line judging loading name)) (names_of (library_of loading.log))
    ++ silent_part (files_line files (length (library_of loading.log)) (accepted_count judging (library_of loading.log)) (refused_count judging (library_of loading.log)))
    ∷ []

-- What checking a folder with these files prints.
abbrev pub folder_parts : Judging → List File → List Part
folder_parts judging files = loading_parts judging (length (module_files files)) (load files)

-- The output of a checked folder with these files, and what its lines tell.
unfoldable pub folder_output : Judging → List File → List ℕ
folder_output judging files = parts_text (folder_parts judging files)

unfoldable pub folder_told : Judging → List File → List Telling
folder_told judging files = parts_told (folder_parts judging files)

-- A module or a file is refused.
unfoldable pub has_refusal : Judging → List File → Bool
has_refusal judging files =
    not (nat_eq (refused_count judging (library_of (load files).log)) 0) || not (nat_eq (length (load files).damaged) 0)
