-- What is printed, in parts, and what each part tells of (this profile).
use Rattle.std.specs.Prelude.{ℕ, List, flat_map, filter_map, Option, Some, None, if◌then◌else◌}
use Rattle.name_meaning.specs.Names.{Name}
use Rattle.edit_log_meaning.specs.Log.{Log, names_of, library_of, version_of}
use Rattle.module_graph_meaning.specs.Walks.{Dependencies, is_grounded}

-- The verdict, the flat text or the carrying of this name is told at this version.
pub record Telling : Type 0 where
  pub name : Name
  pub version : ℕ

-- A part of what is printed: its text, and what it tells of a module, if it does.
pub record Part : Type 0 where
  pub text : List ℕ
  pub telling : Option Telling

-- What is told of a name over a log, where it is present and grounded. Of an absent name there is nothing to tell, and an
-- ungrounded one has its verdict without an install.
abbrev pub telling_of : Dependencies → Log → Name → Option Telling
telling_of dependencies log name =
    if is_grounded dependencies (library_of log) name then Some (record { name = name; version = version_of log }) else None

-- A part that tells of no module, and one that tells of this name over a log.
abbrev pub silent_part : List ℕ → Part
silent_part text = record { text = text; telling = None }

abbrev pub part_about : Dependencies → Log → Name → List ℕ → Part
part_about dependencies log name text = record { text = text; telling = telling_of dependencies log name }

-- The text of parts, one behind the other, and what they tell, in order.
abbrev pub parts_text : List Part → List ℕ
parts_text parts = flat_map (λ (part : Part). part.text) parts

abbrev pub parts_told : List Part → List Telling
parts_told parts = filter_map (λ (part : Part). part.telling) parts

-- What is told of all modules over a log.
abbrev pub told_of_all : Dependencies → Log → List Telling
told_of_all dependencies log = filter_map (telling_of dependencies log) (names_of (library_of log))
