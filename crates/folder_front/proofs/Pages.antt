-- All lines of a checked folder, written in three steps.
use Rattle.std.proofs.Common.{◌≡◌, ℕ, List, [], ◌∷◌, ◌++◌, map, ap, ◌∙◌, subst}
use Rattle.std.specs.Prelude.{Option}
use Rattle.mmt_outside.specs.Bytes.{Taken, appended, flushed, TookPrefix}
use Rattle.board_meaning.specs.Events.{History}
use Rattle.run_meaning.specs.Parts.{Part, parts_text}
use Rattle.run_status.specs.declared.status.Status.{Status}
use Rattle.folder_front.specs.declared.sheet.Sheet.{Sheet}
use Rattle.folder_front.specs.declared.tally.Tally.{Tally}
use Rattle.folder_front.specs.Sheets.{count_part, count_text, end_of, fault_part, has_refused, names_in, sheet_parts, tally_of, verdict_part}
use Rattle.folder_front.specs.Written.{Printed, WroteAll, WroteSome}
use Rattle.folder_front.proofs.Told.{both_backed, none_backed}
use Rattle.folder_front.proofs.Writing.{add_all, add_some, some_more, some_one, wrote_last}

module _ (sheet : Sheet) (before first : Option Taken) (history : History) where
  abbrev faults : List Part
  faults = map fault_part sheet.faults

  abbrev verdicts : List Part
  verdicts = map (verdict_part sheet) (names_in sheet)

  -- It stopped at the lines of the files.
  pub stopped_at_faults : WroteSome before first faults history → WroteSome before first (sheet_parts sheet) history
  stopped_at_faults some = some_more before first (faults ++ verdicts) (count_part sheet ∷ []) history (some_more before first faults verdicts history some)

  module _ (files : WroteAll before first faults history) (second : Option Taken) where
    -- At those of the modules.
    pub stopped_at_verdicts : WroteSome first second verdicts history → WroteSome before second (sheet_parts sheet) history
    stopped_at_verdicts some =
        some_more before second (faults ++ verdicts) (count_part sheet ∷ []) history (add_some before first faults verdicts history files second some)

    module _ (modules : WroteAll first second verdicts history) (last : Option Taken) (tally : Tally) (counts : tally ≡ tally_of sheet (names_in sheet)) where
      text_is : count_text sheet.files tally ≡ count_text sheet.files (tally_of sheet (names_in sheet))
      text_is = ap (count_text sheet.files) counts

      front : WroteAll before second (faults ++ verdicts) history
      front = add_all before first faults verdicts history files second modules

      -- At that of the counts.
      pub stopped_at_counts : TookPrefix second last (count_text sheet.files tally) → WroteSome before last (sheet_parts sheet) history
      stopped_at_counts took =
          add_some before second (faults ++ verdicts) (count_part sheet ∷ []) history front last
          (some_one second last (count_part sheet) history (none_backed history) (subst (TookPrefix second last) text_is took))

      all_took : last ≡ flushed (appended second (count_text sheet.files tally)) → last ≡ flushed (appended before (parts_text (sheet_parts sheet)))
      all_took took =
          wrote_last before second last (faults ++ verdicts) (count_part sheet) history front (took ∙ ap (λ (text : List ℕ). flushed (appended second text)) text_is)

      -- All was printed.
      pub all_printed : (status : Status) → last ≡ flushed (appended second (count_text sheet.files tally)) → status ≡ end_of (has_refused sheet tally) → Printed status before last sheet history
      all_printed status took ended = record {
        took = all_took took;
        backed = both_backed history (faults ++ verdicts) (count_part sheet ∷ []) front.backed (none_backed history);
        ended = ended ∙ ap (λ (t : Tally). end_of (has_refused sheet t)) counts;
      }
