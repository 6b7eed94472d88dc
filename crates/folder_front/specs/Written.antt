-- What was written of a checked folder (this profile).
use Rattle.std.specs.Prelude.{◌≡◌, ◌++◌, ℕ, List, Option, Result, Ok, Err}
use Rattle.mmt_outside.specs.Bytes.{Taken, appended, flushed, TookPrefix}
use Rattle.text_meaning.specs.Dependencies.{dependencies}
use Rattle.board_meaning.specs.Events.{History}
use Rattle.run_meaning.specs.Parts.{Part, parts_text, parts_told}
use Rattle.run_meaning.specs.Backing.{AreBacked}
use Rattle.run_status.specs.declared.status.Status.{Status}
use Rattle.folder_front.specs.Sheets.{end_of, has_refused, names_in, sheet_parts, tally_of}
use Rattle.folder_front.specs.declared.sheet.Sheet.{Sheet}
use Rattle.folder_front.specs.declared.stop.Stop.{Stop}

-- These parts were written, and the history backs what they tell.
pub record WroteAll (before now : Option Taken) (parts : List Part) (history : History) : Type 0 where
  pub took : now ≡ appended before (parts_text parts)
  pub backed : AreBacked dependencies history (parts_told parts)

-- A first part of the text of the first of these parts was written, and the history backs what these first ones tell.
pub record WroteSome (before now : Option Taken) (parts : List Part) (history : History) : Type 0 where
  pub front : List Part
  pub behind : List Part
  pub whole : parts ≡ front ++ behind
  pub took : TookPrefix before now (parts_text front)
  pub backed : AreBacked dependencies history (parts_told front)

abbrev pub Writes : {T : Type 0} → Result T Stop → Option Taken → Option Taken → List Part → History → Type 0
Writes (Ok value) before now parts history = WroteAll before now parts history
Writes (Err stop) before now parts history = WroteSome before now parts history

-- The text was written, and flushed; or a first part of it was written.
abbrev pub Finishes : {T : Type 0} → Result T Stop → Option Taken → Option Taken → List ℕ → Type 0
Finishes (Ok value) before now text = now ≡ flushed (appended before text)
Finishes (Err stop) before now text = TookPrefix before now text

-- All was written and flushed, the history backs what it tells, and this is the status.
pub record Printed (status : Status) (before now : Option Taken) (sheet : Sheet) (history : History) : Type 0 where
  pub took : now ≡ flushed (appended before (parts_text (sheet_parts sheet)))
  pub backed : AreBacked dependencies history (parts_told (sheet_parts sheet))
  pub ended : status ≡ end_of (has_refused sheet (tally_of sheet (names_in sheet)))

abbrev pub Prints : Result Status Stop → Option Taken → Option Taken → Sheet → History → Type 0
Prints (Ok status) before now sheet history = Printed status before now sheet history
Prints (Err stop) before now sheet history = WroteSome before now (sheet_parts sheet) history
