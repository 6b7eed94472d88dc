-- What holds of a result that is an error, and of what a check has come to by it.
use Rattle.std.proofs.Common.{◌≡◌, ℕ, List, Result, Ok, Err, sym, ap, subst, ◌∙◌}
use Rattle.std.specs.Prelude.{Option, IfSome, OnErr}
use Rattle.mmt_outside.specs.Bytes.{Taken}
use Rattle.board_meaning.specs.Events.{History}
use Rattle.run_meaning.specs.Parts.{Part}
use Rattle.folder_front.specs.declared.stop.Stop.{Stop}
use Rattle.mmt_outside.specs.Files.{Files}
use Rattle.run_status.specs.declared.status.Status.{Status}
use Rattle.folder_front.specs.declared.sheet.Sheet.{Sheet}
use Rattle.folder_front.specs.Stops.{status_by, status_of}
use Rattle.folder_front.specs.Sheets.{sheet_parts}
use Rattle.folder_front.specs.Written.{Prints, Writes, WroteSome}
use Rattle.folder_front.specs.Checked.{FolderEnds}

pub on_error : {T E : Type 0} (result : Result T E) (P : Type 0) → P → OnErr result P
on_error (Ok value) P p = tt
on_error (Err error) P p = p

pub writes_error : {T : Type 0} (result : Result T Stop) (stop : Stop) (before now : Option Taken) (parts : List Part) (history : History) → result ≡ Err stop
    → WroteSome before now parts history → Writes result before now parts history
writes_error {T} result stop before now parts history is some = subst (λ (r : Result T Stop). Writes r before now parts history) (sym is) some

pub prints_error : (result : Result Status Stop) (stop : Stop) (before now : Option Taken) (sheet : Sheet) (history : History) → result ≡ Err stop
    → WroteSome before now (sheet_parts sheet) history → Prints result before now sheet history
prints_error result stop before now sheet history is some = subst (λ (r : Result Status Stop). Prints r before now sheet history) (sym is) some

pub ends_error : (result : Result Status Stop) (stop other : Stop) (files : Option Files) (folder : List ℕ) (before now : Option Taken) (history : History) → result ≡ Err stop → stop ≡ other
    → IfSome files (λ told. FolderEnds (status_of other) before now told folder history) → IfSome files (λ told. FolderEnds (status_by result) before now told folder history)
ends_error result stop other files folder before now history is same ends =
    subst (λ (s : Status). IfSome files (λ told. FolderEnds s before now told folder history)) (sym (ap status_by is ∙ ap status_of same)) ends
