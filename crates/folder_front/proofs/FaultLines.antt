-- The lines of the files that were not loaded, written one after another.
use Rattle.std.proofs.Common.{◌≡◌, ◌≤◌, ℕ, suc, List, [], ◌∷◌, ◌++◌, length, map, take, drop, slice_get, Some, sym, ap, ◌∙◌, subst}
use Rattle.std.specs.Prelude.{Option}
use Rattle.std.proofs.lemmas.List.{map-append, take_all, take-append-drop}
use Rattle.list_laws.proofs.Places.{take_more}
use Rattle.mmt_outside.specs.Bytes.{Taken, appended, TookPrefix}
use Rattle.board_meaning.specs.Events.{History}
use Rattle.run_meaning.specs.Parts.{Part}
use Rattle.mmt_syntax.specs.declared.file_fault.FileFault.{FileFault}
use Rattle.report_text.specs.FileWords.{fault_text}
use Rattle.folder_front.specs.Sheets.{fault_part}
use Rattle.folder_front.specs.Written.{WroteAll, WroteSome}
use Rattle.folder_front.proofs.Told.{none_backed}
use Rattle.folder_front.proofs.Writing.{add_all, add_some, some_more, some_none, some_one, wrote_none, wrote_one}

-- The first of the faults have their lines.
abbrev pub FaultsSoFar : Option Taken → Option Taken → List FileFault → ℕ → Type 0
FaultsSoFar before now faults count = (history : History) → WroteAll before now (map fault_part (take count faults)) history

pub no_faults : (before : Option Taken) (faults : List FileFault) → FaultsSoFar before before faults 0
no_faults before faults history = wrote_none before history

module _ (before now : Option Taken) (faults : List FileFault) (count : ℕ) (so_far : FaultsSoFar before now faults count) where
  -- It stopped before the next line.
  pub faults_here : (history : History) → WroteSome before now (map fault_part faults) history
  faults_here history =
      subst (λ (parts : List Part). WroteSome before now parts history)
      (sym (map-append fault_part (take count faults) (drop count faults)) ∙ ap (map fault_part) (take-append-drop count faults))
      (add_some before now (map fault_part (take count faults)) (map fault_part (drop count faults)) history (so_far history) now (some_none now (map fault_part (drop count faults)) history))

  module _ (fault : FileFault) (here : slice_get faults count ≡ Some fault) (new : Option Taken) where
    more_faults : map fault_part (take (suc count) faults) ≡ map fault_part (take count faults) ++ fault_part fault ∷ []
    more_faults = ap (map fault_part) (take_more faults count fault here) ∙ map-append fault_part (take count faults) (fault ∷ [])

    -- One line more.
    pub next_fault : new ≡ appended now (fault_text fault) → FaultsSoFar before new faults (suc count)
    next_fault took history =
        subst (λ (parts : List Part). WroteAll before new parts history) (sym more_faults) (add_all before now (map fault_part (take count faults)) (fault_part fault ∷ []) history (so_far history) new
        (wrote_one now new (fault_part fault) history (none_backed history) took))

    -- It stopped at a line.
    pub stopped_fault : (history : History) → TookPrefix now new (fault_text fault) → WroteSome before new (map fault_part faults) history
    stopped_fault history took =
        subst (λ (parts : List Part). WroteSome before new parts history)
        (ap (λ (parts : List Part). parts ++ map fault_part (drop (suc count) faults)) (sym more_faults)
        ∙ sym (map-append fault_part (take (suc count) faults) (drop (suc count) faults)) ∙ ap (map fault_part) (take-append-drop (suc count) faults))
        (some_more before new (map fault_part (take count faults) ++ fault_part fault ∷ []) (map fault_part (drop (suc count) faults)) history
        (add_some before now (map fault_part (take count faults)) (fault_part fault ∷ []) history (so_far history) new
        (some_one now new (fault_part fault) history (none_backed history) took)))

  pub all_faults : length faults ≤ count → (history : History) → WroteAll before now (map fault_part faults) history
  all_faults past history = subst (λ (fs : List FileFault). WroteAll before now (map fault_part fs) history) (take_all count faults past) (so_far history)
