-- Folders of files (this profile). Names and contents are lists of bytes.
use Rattle.std.specs.Prelude.{◌≡◌, ◌≢◌, ◌↔◌, ◌<◌, ◌≤◌, ◌^◌, ℕ, List, length, IsSome, Contains, AllPairs}
use Rattle.std.specs.declared.option.Option.{Option}
use Rattle.mmt_outside.specs.declared.folder.FileBytes.{FileBytes}
use Rattle.mmt_outside.specs.declared.folder.FileBytes.TheVariants.{Whole, TooBig}

-- From the name of a folder and the name of a file in it to the bytes of the file, where there is one.
abbrev pub Files : Type 0
Files = List ℕ → List ℕ → Option (List ℕ)

-- These are the names of the files of the folder, each once, in any order.
pub record IsListing (files : Files) (folder : List ℕ) (names : List (List ℕ)) : Type 0 where
  pub once : AllPairs (λ a b. a ≢ b) names
  pub each : (name : List ℕ) → Contains names name ↔ IsSome (files folder name)

-- What was read holds at most 2^26 bytes.
abbrev pub IsWithinLimit : FileBytes → Type 0
IsWithinLimit (Whole held) = length held ≤ 2 ^ 26
IsWithinLimit TooBig = Unit {0}

-- What was read is the whole file, or says that the file has more than 2^26 bytes.
abbrev pub IsReadOf : List ℕ → FileBytes → Type 0
IsReadOf bytes (Whole held) = held ≡ bytes
IsReadOf bytes TooBig = 2 ^ 26 < length bytes
