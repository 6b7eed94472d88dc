-- A check of a folder, from what its front did.
use Rattle.std.proofs.Common.{◌≡◌, ◌-◌, ℕ, true, List, [], ◌∷◌, length, refl, sym, ap, ◌∙◌, subst, arith}
use Rattle.std.specs.Prelude.{Option, Some, None, IfSome, IsNone, IsSome}
use Rattle.mmt_outside.specs.Bytes.{Taken}
use Rattle.mmt_outside.specs.Files.{Files}
use Rattle.mmt_outside.proofs.Bytes.{TookPrefix-none}
use Rattle.text_meaning.specs.Dependencies.{dependencies}
use Rattle.board_meaning.specs.Events.{History, log_of}
use Rattle.board_meaning.specs.Legal.{IsLegal}
use Rattle.board_meaning.specs.Ready.{is_closed}
use Rattle.run_meaning.specs.Backing.{AreBacked}
use Rattle.run_meaning.specs.Files.{File, load}
use Rattle.run_meaning.specs.Folders.{folder_parts}
use Rattle.run_meaning.specs.Parts.{Part}
use Rattle.judged_meaning.specs.JudgingByRules.{rules}
use Rattle.judged_meaning.specs.Outputs.{check_output}
use Rattle.worker_crew.specs.Leading.{WasLed}
use Rattle.board_front.specs.Staying.{Stays}
use Rattle.folder_front.specs.Checked.{BacksWritten, Begins, FolderEnds, IsFolderLed, told_within}
use Rattle.folder_front.proofs.Told.{none_backed}
use Rattle.folder_front.proofs.Led.{led_later}
use Rattle.run_status.specs.Taking.{TookOn}
use Rattle.run_status.specs.declared.status.Status.{Status}
use Rattle.run_status.specs.declared.status.Status.TheVariants.{Memory}
use Rattle.run_status.proofs.Taking.{TookOn-none}
use Rattle.mmt_top.specs.FolderChecks.{LeavesFolder, PrintsFolder}

-- What the front did, with what its workers did behind it.
pub was_checked : (status : Status) (folder : List ℕ) (files files_after : Option Files) (reads reads_after : ℕ) (before now : Option Taken) (writes writes_after : ℕ) (history : History)
    → WasLed dependencies (IsFolderLed status folder files files_after reads reads_after before now writes writes_after) history
    → IsFolderLed status folder files files_after reads reads_after before now writes writes_after history
was_checked status folder files files_after reads reads_after before now writes writes_after history led =
    let on = led.at_point.goes_on in
    let stays : Stays led.seen history = record { legal = led.at_point.legal; later = on.later; begins = on.begins; logged = led.logged } in
    led_later status folder files files_after reads reads_after before now writes writes_after led.seen history stays led.led_to

told_nothing : (parts : List Part) → told_within 0 parts ≡ []
unfolding told_within
told_nothing [] = refl
told_nothing (part ∷ parts) = refl

no_bytes : (n : ℕ) → n - n ≡ 0
no_bytes n = omega arith

-- Where nothing was written, nothing is to be backed.
nothing_backed : (before : Option Taken) (files : List File) (history : History) → BacksWritten before before files history
nothing_backed None files history = tt
nothing_backed (Some old) files history =
    subst (λ count. AreBacked dependencies history (told_within count (folder_parts rules files))) (sym (no_bytes (length old.bytes)))
    (subst (AreBacked dependencies history) (sym (told_nothing (folder_parts rules files))) (none_backed history))

-- Nothing was read or written.
nothing_ends : (folder : List ℕ) (before : Option Taken) (told : Files) (history : History) → log_of history ≡ [] → FolderEnds Memory before before told folder history
nothing_ends folder before told history none = record {
  listed = tt;
  each = λ files are. record {
    output = TookPrefix-none before (check_output files);
    edits = subst (λ log. Begins log (load files).log) (sym none) (record { rest = (load files).log; goes_on = refl });
    backs = nothing_backed before files history;
  };
}

pub nothing_checked : (status : Status) (folder : List ℕ) (files : Option Files) (reads : ℕ) (before : Option Taken) (writes : ℕ) (board : Option History) → status ≡ Memory
    → IfSome board (λ last. Stays [] last × (is_closed last ≡ true)) → IfSome board (IsFolderLed status folder files files reads reads before before writes writes)
unfolding log_of
nothing_checked status folder files reads before writes None is ends = tt
nothing_checked status folder files reads before writes (Some last) is ends =
    subst (λ (s : Status). IsFolderLed s folder files files reads reads before before writes writes last) (sym is)
    (record {
      legal = ends.0.legal;
      closed = ends.1;
      ends = by files;
      unchanged = refl;
      answers = tt;
      flush = tt;
      read = λ e. absurd (cc);
      write = λ e. absurd (cc);
      folder_later = omega arith;
      sink_later = omega arith;
      took = TookOn-none before;
    })
  where
    by : (files : Option Files) → IfSome files (λ told. FolderEnds Memory before before told folder last)
    by None = tt
    by (Some told) = nothing_ends folder before told last ends.0.logged

-- Where there is no board, nothing was written.
pub nothing_listed : (folder : List ℕ) (before : Option Taken) (files : Option Files) → IfSome files (PrintsFolder Memory before before folder)
unfolding log_of
nothing_listed folder before None = tt
nothing_listed folder before (Some told) =
    let ends = nothing_ends folder before told [] refl in record {
      listed = tt;
      output = λ files are. (ends.each files are).output;
    }

pub nothing_left : (files : Option Files) → IfSome files (λ told. Unit {0})
nothing_left None = tt
nothing_left (Some told) = tt

-- What a check says, once its front and its workers are done.
module _ (status : Status) (folder : List ℕ) (files files_after : Option Files) (reads reads_after : ℕ) (before now : Option Taken) (writes writes_after : ℕ) (board : Option History)
    (some : IsSome board) (led : IfSome board (IsFolderLed status folder files files_after reads reads_after before now writes writes_after)) where
  at_end : (last : History) × (board ≡ Some last) × IsFolderLed status folder files files_after reads reads_after before now writes writes_after last
  at_end = by board some led
    where
      by : (o : Option History) → IsSome o → IfSome o (IsFolderLed status folder files files_after reads reads_after before now writes writes_after)
          → (last : History) × (o ≡ Some last) × IsFolderLed status folder files files_after reads reads_after before now writes writes_after last
      by None s l = absurd (not_there s)
        where
          not_there : IsSome {T = History} None → ⊥
          not_there t = cc
      by (Some last) s l = (last, refl, l)

  pub says_printed : IfSome files (PrintsFolder status before now folder)
  says_printed = by files at_end.2.ends
    where
      by : (o : Option Files) → IfSome o (λ told. FolderEnds status before now told folder at_end.0) → IfSome o (PrintsFolder status before now folder)
      by None ends = tt
      by (Some told) ends = record { listed = ends.listed; output = λ others are. (ends.each others are).output }

  pub says_took : TookOn before now
  says_took = at_end.2.took

  pub says_left : IfSome files (λ told. IfSome board (LeavesFolder status before now told folder))
  says_left = subst (λ o. IfSome files (λ told. IfSome o (LeavesFolder status before now told folder))) (sym at_end.1) (by files at_end.2.ends)
    where
      by : (o : Option Files) → IfSome o (λ told. FolderEnds status before now told folder at_end.0) → IfSome o (λ told. LeavesFolder status before now told folder at_end.0)
      by None ends = tt
      by (Some told) ends = record { edits = λ others are. (ends.each others are).edits; backs = λ others are. (ends.each others are).backs }
