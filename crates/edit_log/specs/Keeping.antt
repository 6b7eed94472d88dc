-- What the tables of a log keep true (this profile).
use Rattle.std.specs.Prelude.{◌≡◌, ℕ, List, map, unwrap_or}
use Rattle.std.specs.Map.{lookup}
use Rattle.name_meaning.specs.Names.{Name, same_name}
use Rattle.edit_log_meaning.specs.Log.{library_of, stamp_of}
use Rattle.edit_log_meaning.specs.Append.{total_size, IsWithinLimits}
use Rattle.edit_log.specs.declared.log.Log.TheInside.{Inside}
use Rattle.edit_log.specs.Readings.{read_edit, read_library}

-- The version that stands under a name, else 0.
abbrev pub stamp_in : List (Name × ℕ) → Name → ℕ
stamp_in stamps name = unwrap_or (lookup (same_name name) stamps) 0

-- The texts are the library that the edits leave, the stamps are the names' stamps, the size is the sum of all texts ever
-- put, and the log keeps to the limits.
pub record IsKept (log : Inside) : Type 0 where
  pub library : read_library log.texts ≡ library_of (map read_edit log.edits.items)
  pub stamps : (name : Name) → stamp_in log.stamps.entries name ≡ stamp_of (map read_edit log.edits.items) name
  pub size : log.size ≡ total_size (map read_edit log.edits.items)
  pub limits : IsWithinLimits (map read_edit log.edits.items)
