-- What a folder is loaded to (this profile).
use Rattle.std.specs.Prelude.{◌≡◌, ◌≢◌, ◌↔◌, ℕ, Bool, true, List, [], map, length, Contains, AllPairs, Some, nat_eq, codes}
use Rattle.std.specs.List.{ends_with}
use Rattle.name_meaning.specs.Names.{is_ascending}
use Rattle.run_meaning.specs.Files as meant
use Rattle.run_meaning.specs.Files.{File, load, module_files}
use Rattle.mmt_outside.specs.Files.{Files}
use Rattle.folder_load.specs.Shown.{shown_origin, shown_damaged}
use Rattle.folder_load.specs.declared.loaded.Loaded.{Loaded}
use Rattle.folder_load.specs.declared.loading.Loading.{Loading}

-- These are the files that are told of the folder, in any order.
abbrev pub AreFilesOf : Files → List ℕ → List File → Type 0
AreFilesOf told folder files = (file : File) → Contains files file ↔ (told folder file.name ≡ Some file.bytes)

-- A file of this name is loaded: it ends in `.elf`.
abbrev pub is_module_name : List ℕ → Bool
is_module_name name = ends_with nat_eq name (codes ".elf")

-- These are those of the names that end so, in byte order.
pub record AreInOrder (names ordered : List (List ℕ)) : Type 0 where
  pub ascending : AllPairs (λ a b. a ≢ b) names → is_ascending ordered ≡ true
  pub each : (name : List ℕ) → Contains ordered name ↔ (Contains names name × (is_module_name name ≡ true))

-- These are the names of the files of the folder that are loaded, in order; of all its files there is a list.
pub record AreModuleNames (told : Files) (folder : List ℕ) (names : List (List ℕ)) : Type 0 where
  pub files : List File
  pub are : AreFilesOf told folder files
  pub each : (others : List File) → AreFilesOf told folder others → names ≡ map (λ (file : File). file.name) (module_files others)

-- What was loaded is what these files are loaded to.
pub record IsLoadedTo (files : List File) (loaded : Loaded) : Type 0 where
  pub log : loaded.log ≡ (load files).log
  pub origins : loaded.origins ≡ map shown_origin (load files).origins
  pub faults : loaded.faults ≡ map shown_damaged (load files).damaged
  pub count : loaded.files ≡ length (module_files files)

-- What was loaded is what the files of the folder are loaded to, of which there is a list.
pub record LoadsFolder (told : Files) (folder : List ℕ) (loaded : Loaded) : Type 0 where
  pub files : List File
  pub are : AreFilesOf told folder files
  pub each : (others : List File) → AreFilesOf told folder others → IsLoadedTo others loaded

-- ---- on the way

-- This was loaded so far.
pub record IsLoadedSoFar (loading : Loading) (before : meant.Loading) : Type 0 where
  pub log : loading.modules.log ≡ before.log
  pub origins : loading.origins ≡ map shown_origin before.origins
  pub faults : loading.faults ≡ map shown_damaged before.damaged

abbrev pub nothing_loaded : meant.Loading
nothing_loaded = record { log = []; origins = []; damaged = [] }
