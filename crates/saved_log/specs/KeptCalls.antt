-- How the calls of a disk in memory are kept (this profile).
use Rattle.std.specs.Prelude.{ℕ, ◌+◌, ◌*◌, ◌≤◌, List, [], ◌∷◌, length, take, drop, fold, All}
use Rattle.std.specs.Vec.{vec_capacity}
use Rattle.saved_log.specs.declared.call_record.Kept.{Kept}
use Rattle.saved_log.specs.declared.call_record.Kept.TheVariants as kept
use Rattle.saved_log.specs.declared.call_record.CallRecord.TheInside.{Inside}
use Rattle.saved_log.specs.MemDisks.{Call, Other, Wrote, CutShort, Synced}

-- A call that is kept with these pieces.
abbrev pub read_call : List ℕ → Kept → Call
read_call pieces kept.Other = Other
read_call pieces (kept.Wrote at from count) = Wrote at (take count (drop from pieces))
read_call pieces (kept.CutShort at count) = CutShort at count
read_call pieces kept.Synced = Synced

-- Calls that are kept with these pieces, the last one first.
abbrev pub read_kept : List ℕ → List Kept → List Call
read_kept pieces calls = fold (λ (read : List Call) (call : Kept). read_call pieces call ∷ read) [] calls

-- The piece of the call is among so many bytes of pieces.
abbrev pub IsAmong : ℕ → Kept → Type 0
IsAmong pieces kept.Other = Unit {0}
IsAmong pieces (kept.Wrote at from count) = from + count ≤ pieces
IsAmong pieces (kept.CutShort at count) = Unit {0}
IsAmong pieces kept.Synced = Unit {0}

-- What holds of each record of calls.
pub record IsRecorded (record_of : Inside) : Type 0 where
  pub among : All (IsAmong (length record_of.pieces.items)) record_of.kept.items
  pub within : 32 * length record_of.kept.items + length record_of.pieces.items ≤ record_of.room
  pub room_for_pieces : record_of.room ≤ vec_capacity record_of.pieces
  pub room_for_calls : record_of.room ≤ 32 * vec_capacity record_of.kept + 31
