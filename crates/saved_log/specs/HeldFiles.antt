-- What holds of each disk in memory (this profile).
use Rattle.std.specs.Prelude.{◌≡◌, ◌+◌, ◌≤◌, length}
use Rattle.std.specs.Vec.{vec_capacity}
use Rattle.saved_log.specs.declared.mem_disk.MemDisk.TheInside.{Inside}
use Rattle.saved_log.specs.MemDisks.{seen_of}

pub record IsHeld (disk : Inside) : Type 0 where
  pub bytes : disk.bytes.items ≡ seen_of disk.start disk.record.kept
  pub grown : length disk.start ≤ length disk.bytes.items
  pub within : disk.record.taken + length disk.bytes.items ≤ disk.record.room + length disk.start
  pub room : disk.record.room + length disk.start ≤ vec_capacity disk.bytes
