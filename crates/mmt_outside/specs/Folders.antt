-- Folders in memory (this profile).
use Rattle.std.specs.Prelude.{ℕ, Bool, List, [], ◌∷◌, ◌++◌, ◌&&◌, not, map, fold, Option, Some, None, if◌then◌else◌}
use Rattle.std.specs.List.{list_any}
use Rattle.std.specs.Str.{bytes_eq}
use Rattle.std.specs.String.{string_bytes}
use Rattle.std.specs.declared.string.String.{String}
use Rattle.mmt_outside.specs.Memory.{Calls}

-- A file: the name of its folder, its own name and its bytes.
pub record File : Type 0 where
  pub folder : List ℕ
  pub name : List ℕ
  pub bytes : List ℕ

abbrev pub read_file : {Z : Type 0} → String Z × String Z × List ℕ → File
read_file file = record { folder = string_bytes file.0; name = string_bytes file.1; bytes = file.2 }

abbrev pub read_files : {Z : Type 0} → List (String Z × String Z × List ℕ) → List File
read_files {Z} files = map (λ (file : String Z × String Z × List ℕ). read_file file) files

-- The file has this folder and this name.
abbrev pub has_place : List ℕ → List ℕ → File → Bool
has_place folder name file = bytes_eq file.folder folder && bytes_eq file.name name

-- The bytes of the first of these files that has this folder and this name.
unfoldable pub bytes_of : List File → List ℕ → List ℕ → Option (List ℕ)
bytes_of [] folder name = None
bytes_of (file ∷ files) folder name = if has_place folder name file then Some file.bytes else bytes_of files folder name

-- The file is in the folder, and its name is not one of these.
abbrev pub adds_name : List ℕ → List (List ℕ) → File → Bool
adds_name folder names file = bytes_eq file.folder folder && not (list_any (λ name. bytes_eq name file.name) names)

-- These names, with that of the file behind them where the file adds it.
abbrev pub with_file : List ℕ → List (List ℕ) → File → List (List ℕ)
with_file folder names file = if adds_name folder names file then names ++ file.name ∷ [] else names

-- The names of those files that are in the folder, each once.
abbrev pub names_in : List ℕ → List File → List (List ℕ)
names_in folder files = fold (with_file folder) [] files

-- A folder in memory: its files, of which the first of one folder and name counts, and its calls.
pub record FolderState : Type 0 where
  pub files : List File
  pub calls : Calls
