-- The history of a board: its entries, and the log and library that they determine (this profile).
use Rattle.std.specs.Prelude.{ℕ, suc, List, filter_map, Option, Some, None}
use Rattle.name_meaning.specs.Names.{Name}
use Rattle.edit_log_meaning.specs.Log.{Edit, Log, Library, library_of, version_of, stamp_of}

-- An edit was made; a name was claimed; or the claim at this place of the history ended: its verdict was
-- installed, or it was found stale by an input of this name with this present stamp, or it was released; or the board
-- was closed.
pub data Event : Type 0 where
  EditMade : Edit → Event
  Claim : Name → Event
  Install : ℕ → Event
  Stale : ℕ → Name → ℕ → Event
  Release : ℕ → Event
  Close : Event

-- What happened, the number of the pass that did it, and the version afterwards.
pub record Entry : Type 0 where
  pub pass : ℕ
  pub version : ℕ
  pub event : Event

-- All entries, in order.
abbrev pub History : Type 0
History = List Entry

-- The edit that was made, if that is what happened.
abbrev pub edit_of : Event → Option Edit
edit_of (EditMade edit) = Some edit
edit_of (Claim name) = None
edit_of (Install claim) = None
edit_of (Stale claim name newer) = None
edit_of (Release claim) = None
edit_of Close = None

-- The edit of the entry, if it is one.
abbrev pub edit_in : Entry → Option Edit
edit_in entry = edit_of entry.event

-- The log that a history determines: the edits made, in order.
unfoldable pub log_of : History → Log
log_of history = filter_map edit_in history

-- The library and the version that the log leaves.
abbrev pub library_after : History → Library
library_after history = library_of (log_of history)

abbrev pub version_after : History → ℕ
version_after history = version_of (log_of history)

-- The version of the last edit of this name, else 0.
abbrev pub stamp_after : History → Name → ℕ
stamp_after history name = stamp_of (log_of history) name

-- The version after one more event, which an edit alone raises.
abbrev pub version_with : ℕ → Option Edit → ℕ
version_with version None = version
version_with version (Some edit) = suc version

-- The entry of this event, made by this pass after this history.
abbrev pub entry_of : History → ℕ → Event → Entry
entry_of history pass event =
    record { pass = pass; version = version_with (version_after history) (edit_of event); event = event }
