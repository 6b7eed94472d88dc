-- How a check ends, from what was written and which edits were made.
use Rattle.std.proofs.Common.{◌≡◌, ◌-◌, ◌≤◌, ℕ, Bool, true, false, List, [], ◌++◌, length, take, refl, sym, ap, ◌∙◌, subst, arith, append-nil, length-append}
use Rattle.std.specs.Prelude.{Option, Some, None}
use Rattle.std.proofs.lemmas.List.{length-take}
use Rattle.std.proofs.lemmas.Grind.{flat_map-append}
use Rattle.std.proofs.lemmas.Option.{same_Some}
use Rattle.mmt_outside.specs.Bytes.{Taken, appended, flushed, TookPrefix}
use Rattle.mmt_outside.proofs.Bytes.{TookPrefix-append}
use Rattle.edit_log_meaning.specs.Log.{Log}
use Rattle.edit_log_meaning.specs.Append.{appended_all}
use Rattle.text_meaning.specs.Dependencies.{dependencies}
use Rattle.board_meaning.specs.Events.{History, log_of}
use Rattle.run_meaning.specs.Parts.{Part, parts_text, parts_told}
use Rattle.run_meaning.specs.Backing.{AreBacked}
use Rattle.run_meaning.specs.Files.{File, load}
use Rattle.run_meaning.specs.Folders.{folder_output, folder_parts, has_refusal}
use Rattle.judged_meaning.specs.JudgingByRules.{rules}
use Rattle.judged_meaning.specs.Outputs.{check_output}
use Rattle.folder_load.specs.Loads.{IsLoadedTo}
use Rattle.folder_load.specs.declared.loaded.Loaded.{Loaded}
use Rattle.run_status.specs.declared.status.Status.{Status}
use Rattle.folder_front.specs.declared.stop.Stop.{Stop}
use Rattle.folder_front.specs.declared.stop.Stop.TheVariants.{Read, Write, Memory}
use Rattle.folder_front.specs.Stops.{status_of}
use Rattle.folder_front.specs.Edits.{MadeFirst}
use Rattle.folder_front.specs.Sheets.{end_of, sheet_of, sheet_parts}
use Rattle.folder_front.specs.Written.{Printed, WroteSome}
use Rattle.folder_front.specs.Checked.{BacksWritten, Begins, CheckEnds, EditsAre, EndsAs, told_within}
use Rattle.folder_front.proofs.MadeLogs.{made_front, made_whole, AreMade}
use Rattle.folder_front.proofs.LoadedModules.{are_loaded}
use Rattle.folder_front.proofs.Parts.{parts_same, refused_same}
use Rattle.folder_front.proofs.Told.{within_backed}

-- ---- what was written

output_is : (files : List File) → check_output files ≡ parts_text (folder_parts rules files)
unfolding folder_output
output_is files = refl

-- The bytes that are told behind are those before and these.
more_bytes : (old new : Taken) (text : List ℕ) (taken : Option Taken) → Some new ≡ appended (Some old) text → length new.bytes - length old.bytes ≡ length text
more_bytes old new text taken e =
    let same : new.bytes ≡ old.bytes ++ text = ap (λ (t : Taken). t.bytes) (same_Some _ _ e) in
    omega (arith, ap length same, length-append old.bytes text)

-- ---- a first part

module _ (files : List File) (before now : Option Taken) (last : History) (some : WroteSome before now (folder_parts rules files) last) where
  first_written : TookPrefix before now (check_output files)
  first_written =
      subst (TookPrefix before now) (sym (flat_map-append (λ (part : Part). part.text) some.front some.behind) ∙ ap parts_text (sym some.whole) ∙ sym (output_is files))
      (TookPrefix-append before now (parts_text some.front) (parts_text some.behind) some.took)

  first_backs : BacksWritten before now files last
  first_backs = by before now some.took
    where
      by : (old new : Option Taken) → TookPrefix old new (parts_text some.front) → BacksWritten old new files last
      by None new took = tt
      by (Some old) None took = tt
      by (Some old) (Some new) took =
          subst (λ (parts : List Part). AreBacked dependencies last (told_within (length new.bytes - length old.bytes) parts)) (sym some.whole)
          (within_backed last (length new.bytes - length old.bytes) some.front some.behind
          (omega (arith, more_bytes old new (take took.count (parts_text some.front)) (Some new) took.took, length-take took.count (parts_text some.front)))
          some.backed)

  -- With this status, the edits being the first of those that the files make.
  pub stopped_ends : (stop : Stop) → Begins (log_of last) (load files).log → CheckEnds (status_of stop) before now files last
  stopped_ends Read begins = record { output = first_written; edits = begins; backs = first_backs }
  stopped_ends Write begins = record { output = first_written; edits = begins; backs = first_backs }
  stopped_ends Memory begins = record { output = first_written; edits = begins; backs = first_backs }

-- ---- all of it

module _ (files : List File) (loaded : Loaded) (to : IsLoadedTo files loaded) (board : Log) (last : History) (same : board ≡ (load files).log) (logged : log_of last ≡ board)
    (before now : Option Taken) where
  edits_are : log_of last ≡ (load files).log
  edits_are = logged ∙ same

  whole_edits : (refused : Bool) → EditsAre (end_of refused) (load files).log (log_of last)
  whole_edits true = edits_are
  whole_edits false = edits_are

  whole_output : (refused : Bool) → has_refusal rules files ≡ refused → now ≡ flushed (appended before (check_output files)) → EndsAs (end_of refused) before now (check_output files) (has_refusal rules files)
  whole_output true is took = (is, took)
  whole_output false is took = (is, took)

  module _ (status : Status) (printed : Printed status before now (sheet_of board loaded) last) where
    all_parts : sheet_parts (sheet_of board loaded) ≡ folder_parts rules files
    all_parts = parts_same files loaded to board same

    all_took : now ≡ flushed (appended before (check_output files))
    all_took = printed.took ∙ ap (λ (parts : List Part). flushed (appended before (parts_text parts))) all_parts ∙ ap (λ (text : List ℕ). flushed (appended before text)) (sym (output_is files))

    all_backed : AreBacked dependencies last (parts_told (folder_parts rules files))
    all_backed = subst (λ (parts : List Part). AreBacked dependencies last (parts_told parts)) all_parts printed.backed

    all_backs : BacksWritten before now files last
    all_backs = by before now all_took
      where
        count : (old new : Taken) → Some new ≡ flushed (appended (Some old) (check_output files)) → length new.bytes - length old.bytes ≤ length (parts_text (folder_parts rules files))
        count old new took =
            let bytes : new.bytes ≡ old.bytes ++ check_output files = ap (λ (t : Taken). t.bytes) (same_Some _ _ took) in
            omega (arith, ap length bytes, length-append old.bytes (check_output files), ap length (output_is files))

        by : (old new : Option Taken) → new ≡ flushed (appended old (check_output files)) → BacksWritten old new files last
        by None new took = tt
        by (Some old) None took = tt
        by (Some old) (Some new) took =
            subst (λ (parts : List Part). AreBacked dependencies last (told_within (length new.bytes - length old.bytes) parts)) (append-nil (folder_parts rules files))
            (within_backed last (length new.bytes - length old.bytes) (folder_parts rules files) [] (count old new took) all_backed)

    status_is : status ≡ end_of (has_refusal rules files)
    status_is = printed.ended ∙ ap end_of (refused_same files loaded to board same)

    pub printed_ends : CheckEnds status before now files last
    printed_ends =
        subst (λ (s : Status). CheckEnds s before now files last) (sym status_is)
        (record { output = whole_output (has_refusal rules files) refl all_took; edits = whole_edits (has_refusal rules files); backs = all_backs })

  -- It stopped on the way.
  pub some_ends : (stop : Stop) → WroteSome before now (sheet_parts (sheet_of board loaded)) last → CheckEnds (status_of stop) before now files last
  some_ends stop some =
      stopped_ends files before now last (subst (λ (parts : List Part). WroteSome before now parts last) (parts_same files loaded to board same) some) stop
      (record { rest = []; goes_on = sym (edits_are) ∙ sym (append-nil (log_of last)) })

-- ---- the edits

-- All edits of what was loaded are made.
pub edits_made : (files : List File) (loaded : Loaded) (board : Log) → IsLoadedTo files loaded → board ≡ appended_all [] loaded.log → board ≡ (load files).log
edits_made files loaded board to made = made ∙ ap (appended_all []) to.log ∙ made_whole (load files).log (are_loaded files).made

-- The first of them were.
pub first_made : (files : List File) (loaded : Loaded) (last : History) → IsLoadedTo files loaded → MadeFirst loaded.log last → Begins (log_of last) (load files).log
first_made files loaded last to first = record {
  rest = first.behind;
  goes_on = sym to.log ∙ first.parts ∙ ap (λ (l : Log). l ++ first.behind) (sym made);
}
  where
    whole : (load files).log ≡ first.front ++ first.behind
    whole = sym to.log ∙ first.parts

    made : log_of last ≡ first.front
    made = first.made ∙ made_front [] first.front first.behind (subst (AreMade []) whole (are_loaded files).made)
