-- What is printed of a folder, as the code holds it (this profile).
use Rattle.std.specs.Prelude.{ℕ, ◌+◌, Bool, true, false, not, ◌||◌, List, [], ◌∷◌, ◌++◌, length, map, filter, fold, nat_eq, Option, Some, None, if◌then◌else◌}
use Rattle.name_meaning.specs.Names.{Name, Text}
use Rattle.name_meaning.specs.Rows.{Rows, row_of, with_row}
use Rattle.edit_log_meaning.specs.Log.{Log, library_of, names_of, text_of, version_of}
use Rattle.text_meaning.specs.Dependencies.{dependencies}
use Rattle.printing_meaning.specs.Printed.{absent_line}
use Rattle.printing_meaning.specs.VerdictLines.{judged_line}
use Rattle.printing_meaning.specs.FolderLines.{files_line}
use Rattle.run_meaning.specs.Judging.{environment_of}
use Rattle.run_meaning.specs.Parts.{Part, silent_part, part_about}
use Rattle.run_meaning.specs.Folders.{is_refused}
use Rattle.judged_meaning.specs.JudgingByRules.{rules}
use Rattle.mmt_syntax.specs.declared.origin.Origin.{Origin}
use Rattle.mmt_syntax.specs.declared.file_fault.FileFault.{FileFault}
use Rattle.report_text.specs.FileWords.{fault_text}
use Rattle.report_text.specs.ToldLines.{shown_place}
use Rattle.folder_load.specs.declared.loaded.Loaded.{Loaded}
use Rattle.run_status.specs.declared.status.Status.{Status}
use Rattle.run_status.specs.declared.status.Status.TheVariants.{Done, Refused}
use Rattle.folder_front.specs.declared.sheet.Sheet.{Sheet}
use Rattle.folder_front.specs.declared.tally.Tally.{Tally}

-- Origins by the names of the modules. Of two with one name the last counts.
abbrev pub rows_of : List Origin → Rows Origin
rows_of origins = fold (λ (rows : Rows Origin) (origin : Origin). with_row origin.name origin rows) [] origins

abbrev pub sheet_of : Log → Loaded → Sheet
sheet_of log loaded = record { log = log; origins = rows_of loaded.origins; faults = loaded.faults; files = loaded.files }

abbrev pub names_in : Sheet → List Name
names_in sheet = names_of (library_of sheet.log)

-- ---- lines

abbrev pub fault_part : FileFault → Part
fault_part fault = silent_part (fault_text fault)

-- The verdict line of a name with this text, if it has one. A place is counted on from the origin, if there is one.
abbrev pub verdict_from : Log → Name → Option Origin → Option Text → List ℕ
verdict_from log name origin None = absent_line name (version_of log)
verdict_from log name origin (Some text) =
    judged_line (environment_of rules (library_of log)) name (version_of log) (shown_place origin text) (rules.judged (library_of log) name)

abbrev pub verdict_text : Sheet → Name → List ℕ
verdict_text sheet name = verdict_from sheet.log name (row_of sheet.origins name) (text_of (library_of sheet.log) name)

abbrev pub verdict_part : Sheet → Name → Part
verdict_part sheet name = part_about dependencies sheet.log name (verdict_text sheet name)

-- ---- counts

abbrev pub counted : Tally → Bool → Tally
counted tally true = record { accepted = tally.accepted + 1; refused = tally.refused }
counted tally false = record { accepted = tally.accepted; refused = tally.refused + 1 }

-- How many of these modules are accepted, and how many are refused.
abbrev pub tally_of : Sheet → List Name → Tally
tally_of sheet names = record {
  accepted = length (filter (λ (name : Name). not (is_refused (rules.judged (library_of sheet.log) name))) names);
  refused = length (filter (λ (name : Name). is_refused (rules.judged (library_of sheet.log) name)) names);
}

abbrev pub count_text : ℕ → Tally → List ℕ
count_text files tally = files_line files (tally.accepted + tally.refused) tally.accepted tally.refused

abbrev pub count_part : Sheet → Part
count_part sheet = silent_part (count_text sheet.files (tally_of sheet (names_in sheet)))

-- ---- all of it

abbrev pub sheet_parts : Sheet → List Part
sheet_parts sheet = map fault_part sheet.faults ++ map (verdict_part sheet) (names_in sheet) ++ count_part sheet ∷ []

-- A module or a file is refused.
abbrev pub has_refused : Sheet → Tally → Bool
has_refused sheet tally = not (nat_eq tally.refused 0) || not (nat_eq (length sheet.faults) 0)

abbrev pub end_of : Bool → Status
end_of refused = if refused then Refused else Done
