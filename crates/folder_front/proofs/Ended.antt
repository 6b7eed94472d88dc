-- How the check of a folder ends, at each of its steps.
use Rattle.std.proofs.Common.{◌≡◌, Bool, true, false, List, ℕ, [], ◌++◌, Result, Ok, Err, sym, ap, ◌∙◌, subst, append-nil}
use Rattle.std.specs.Prelude.{Option, Some, None, IfSome, IfOk}
use Rattle.mmt_outside.specs.Bytes.{Taken}
use Rattle.mmt_outside.specs.Files.{Files}
use Rattle.mmt_outside.specs.declared.fault.OutFault.{OutFault}
use Rattle.mmt_outside.specs.declared.fault.OutFault.TheVariants.{Failed, Memory as NoMemory}
use Rattle.edit_log_meaning.specs.Log.{Log}
use Rattle.edit_log_meaning.specs.Append.{appended_all}
use Rattle.board_meaning.specs.Events.{History, log_of}
use Rattle.run_meaning.specs.Files.{load}
use Rattle.run_meaning.specs.Folders.{folder_parts}
use Rattle.run_meaning.specs.Parts.{parts_text}
use Rattle.judged_meaning.specs.JudgingByRules.{rules}
use Rattle.board_front.specs.Staying.{IsFront, Stays}
use Rattle.folder_load.specs.Loads.{LoadsFolder}
use Rattle.folder_load.specs.declared.loaded.Loaded.{Loaded}
use Rattle.run_status.specs.Taking.{TookOn}
use Rattle.run_status.specs.declared.status.Status.{Status}
use Rattle.run_status.proofs.Taking.{TookOn-flushed, TookOn-part}
use Rattle.folder_front.specs.declared.stop.Stop.{Stop}
use Rattle.folder_front.specs.declared.stop.Stop.TheVariants.{Read, Write, Memory}
use Rattle.folder_front.specs.declared.sheet.Sheet.{Sheet}
use Rattle.folder_front.specs.Stops.{by_folder, status_by, status_of}
use Rattle.folder_front.specs.Edits.{MadeFirst}
use Rattle.folder_front.specs.Sheets.{end_of, has_refused, names_in, sheet_of, sheet_parts, tally_of}
use Rattle.folder_front.specs.Written.{Prints}
use Rattle.folder_front.specs.Checked.{Begins, FolderEnds, HasList, IsListed, IsWholeStatus}
use Rattle.folder_front.proofs.Outputs.{edits_made, first_made, printed_ends, some_ends, stopped_ends}
use Rattle.folder_front.proofs.Writing.{some_none}

-- ---- nothing was loaded

nothing_begins : (whole : Log) (history : History) → history ≡ [] → Begins (log_of history) whole
unfolding log_of
nothing_begins whole history empty = record { rest = whole; goes_on = ap (λ (h : History). log_of h ++ whole) (sym empty) }

unlisted : (fault : OutFault) (told : Files) (folder : List ℕ) → IsListed (status_of (by_folder fault)) told folder
unlisted Failed told folder = tt
unlisted NoMemory told folder = tt

pub unloaded_ends : (files : Option Files) (folder : List ℕ) (fault : OutFault) (before : Option Taken) (history : History) → history ≡ []
    → IfSome files (λ told. FolderEnds (status_of (by_folder fault)) before before told folder history)
unloaded_ends None folder fault before history empty = tt
unloaded_ends (Some told) folder fault before history empty = record {
  listed = unlisted fault told folder;
  each = λ others are.
      stopped_ends others before before history (some_none before (folder_parts rules others) history) (by_folder fault) (nothing_begins (load others).log history empty);
}

-- ---- the edits were begun

pub unedited_ends : (files : Option Files) (folder : List ℕ) (loaded : Loaded) (before : Option Taken) (history : History)
    → IfSome files (λ told. LoadsFolder told folder loaded) → MadeFirst loaded.log history
    → IfSome files (λ told. FolderEnds (status_of Memory) before before told folder history)
unedited_ends None folder loaded before history loads made = tt
unedited_ends (Some told) folder loaded before history loads made = record {
  listed = tt;
  each = λ others are.
      stopped_ends others before before history (some_none before (folder_parts rules others) history) Memory (first_made others loaded history (loads.each others are) made);
}

-- All of them are made.
pub all_made : (loaded log : Log) (history : History) → log ≡ appended_all [] loaded → IsFront log history → MadeFirst loaded history
all_made loaded log history made front = record {
  legal = front.legal;
  front = loaded;
  behind = [];
  parts = sym (append-nil loaded);
  made = sym front.logged ∙ made;
}

-- ---- the lines were printed, or begun

whole_listed : (refused : Bool) (told : Files) (folder : List ℕ) → HasList told folder → IsListed (end_of refused) told folder
whole_listed true told folder list = list
whole_listed false told folder list = list

some_listed : (stop : Stop) (told : Files) (folder : List ℕ) → HasList told folder → IsListed (status_of stop) told folder
some_listed Read told folder list = tt
some_listed Write told folder list = list
some_listed Memory told folder list = tt

module _ (folder : List ℕ) (loaded : Loaded) (log : Log) (before now : Option Taken) (first last : History) (made : log ≡ appended_all [] loaded.log) (front : IsFront log first) (stays : Stays first last) where
  logged : log_of last ≡ log
  logged = stays.logged ∙ sym front.logged

  loaded_ends : (told : Files) (result : Result Status Stop) → LoadsFolder told folder loaded → Prints result before now (sheet_of log loaded) last → FolderEnds (status_by result) before now told folder last
  loaded_ends told (Ok status) loads printed = record {
    listed = subst (λ (s : Status). IsListed s told folder) (sym printed.ended)
        (whole_listed (has_refused (sheet_of log loaded) (tally_of (sheet_of log loaded) (names_in (sheet_of log loaded)))) told folder (loads.files, loads.are));
    each = λ others are.
        let to = loads.each others are in
        printed_ends others loaded to log last (edits_made others loaded log to made) logged before now status printed;
  }
  loaded_ends told (Err stop) loads some = record {
    listed = some_listed stop told folder (loads.files, loads.are);
    each = λ others are.
        let to = loads.each others are in
        some_ends others loaded to log last (edits_made others loaded log to made) logged before now stop some;
  }

  pub printed_folder : (files : Option Files) (sheet : Sheet) (result : Result Status Stop) → IfSome files (λ told. LoadsFolder told folder loaded) → sheet ≡ sheet_of log loaded
      → Prints result before now sheet last → IfSome files (λ told. FolderEnds (status_by result) before now told folder last)
  printed_folder None sheet result loads is prints = tt
  printed_folder (Some told) sheet result loads is prints = loaded_ends told result loads (subst (λ (s : Sheet). Prints result before now s last) is prints)

-- All was printed with one of two statuses.
ends_whole : (refused : Bool) → IsWholeStatus (end_of refused)
ends_whole true = tt
ends_whole false = tt

pub prints_whole : (result : Result Status Stop) (before now : Option Taken) (sheet : Sheet) (last : History) → Prints result before now sheet last → IfOk result IsWholeStatus
prints_whole (Ok status) before now sheet last printed = subst IsWholeStatus (sym printed.ended) (ends_whole (has_refused sheet (tally_of sheet (names_in sheet))))
prints_whole (Err stop) before now sheet last some = tt

pub prints_on : (result : Result Status Stop) (before now : Option Taken) (sheet : Sheet) (last : History) → Prints result before now sheet last → TookOn before now
prints_on (Ok status) before now sheet last printed = TookOn-flushed before now (parts_text (sheet_parts sheet)) printed.took
prints_on (Err stop) before now sheet last some = TookOn-part before now (parts_text some.front) some.took
