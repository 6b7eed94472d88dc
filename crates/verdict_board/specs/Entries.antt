-- What the entries of this crate stand for (this profile).
use Rattle.std.specs.Prelude.{ℕ}
use Rattle.edit_log_meaning.specs.Log as logs
use Rattle.board_meaning.specs.Events as board
use Rattle.verdict_board.specs.declared.event.Event.{Event}
use Rattle.verdict_board.specs.declared.event.Event.TheVariants.{Put, Drop, Claim, Install, Stale, Release, Close}
use Rattle.verdict_board.specs.declared.event.Entry.{Entry}

abbrev pub read_event : Event → board.Event
read_event (Put name text) = board.EditMade (logs.Put name text)
read_event (Drop name) = board.EditMade (logs.Drop name)
read_event (Claim name) = board.Claim name
read_event (Install claim) = board.Install claim
read_event (Stale claim name newer) = board.Stale claim name newer
read_event (Release claim) = board.Release claim
read_event Close = board.Close

abbrev pub read_entry : Entry → board.Entry
read_entry entry = record { pass = entry.pass; version = entry.version; event = read_event entry.event }

-- The entry of this pass, with this version and event.
abbrev pub entry : ℕ → ℕ → board.Event → board.Entry
entry pass version event = record { pass = pass; version = version; event = event }
