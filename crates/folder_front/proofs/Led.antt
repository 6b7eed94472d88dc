-- The check of a folder as its front leaves it, and what becomes of it then.
use Rattle.std.proofs.Common.{◌≡◌, ◌≤◌, ◌-◌, length, ℕ, true, List, Option, Some, None, Result, Ok, Err, refl, sym, ap, subst}
use Rattle.std.specs.Prelude.{IfOk, IfSome, IsErrOf, OnOk}
use Rattle.mmt_outside.specs.Bytes.{Taken}
use Rattle.mmt_outside.specs.Faults.{Rose}
use Rattle.mmt_outside.specs.Files.{Files}
use Rattle.edit_log_meaning.specs.Log.{Log}
use Rattle.text_meaning.specs.Dependencies.{dependencies}
use Rattle.board_meaning.specs.Events.{History, log_of}
use Rattle.board_meaning.specs.Ready.{is_closed}
use Rattle.board_meaning.specs.Standing.{IsBacked}
use Rattle.run_meaning.specs.Files.{File, load}
use Rattle.run_meaning.specs.Folders.{folder_parts}
use Rattle.judged_meaning.specs.JudgingByRules.{rules}
use Rattle.install_laws.proofs.Tellings.{stay_backed}
use Rattle.board_front.specs.Staying.{Stays}
use Rattle.board_front.proofs.Closing.{closed_later}
use Rattle.run_status.specs.Flushed.{FlushesAt, IsFlushed}
use Rattle.run_status.specs.Taking.{TookOn}
use Rattle.run_status.specs.declared.status.Status.{Status}
use Rattle.run_status.specs.declared.status.Status.TheVariants.{Done, Refused, Usage, ReadFault, WriteFault, Memory, ScriptFault}
use Rattle.folder_front.specs.declared.stop.Stop.{Stop}
use Rattle.folder_front.specs.declared.stop.Stop.TheVariants as stops
use Rattle.folder_front.specs.Stops.{status_by}
use Rattle.folder_front.specs.Checked.{BacksWritten, CheckEnds, EditsAre, FolderEnds, IsCheckStatus, IsFolderLed, IsWholeStatus, told_within}

-- ---- the history goes on by no edit

edits_later : (status : Status) (whole : Log) (first second : History) → Stays first second → EditsAre status whole (log_of first) → EditsAre status whole (log_of second)
edits_later status whole first second stays edits = subst (EditsAre status whole) (sym stays.logged) edits

backs_later : (before now : Option Taken) (files : List File) (first second : History) → Stays first second → BacksWritten before now files first → BacksWritten before now files second
backs_later None now files first second stays backs = tt
backs_later (Some old) None files first second stays backs = tt
backs_later (Some old) (Some new) files first second stays backs = λ place telling here.
    let all = stay_backed dependencies first stays.later (told_within (length new.bytes - length old.bytes) (folder_parts rules files)) backs in
    subst (λ (h : History). IsBacked dependencies h telling.name telling.version) (sym stays.begins) (all place telling here)

pub ends_later : (status : Status) (before now : Option Taken) (files : List File) (first second : History) → Stays first second → CheckEnds status before now files first
    → CheckEnds status before now files second
ends_later status before now files first second stays ends = record {
  output = ends.output;
  edits = edits_later status (load files).log first second stays ends.edits;
  backs = backs_later before now files first second stays ends.backs;
}

pub folder_ends_later : (status : Status) (before now : Option Taken) (files : Option Files) (folder : List ℕ) (first second : History) → Stays first second
    → IfSome files (λ told. FolderEnds status before now told folder first) → IfSome files (λ told. FolderEnds status before now told folder second)
folder_ends_later status before now None folder first second stays ends = tt
folder_ends_later status before now (Some told) folder first second stays ends = record {
  listed = ends.listed;
  each = λ others are. ends_later status before now others first second stays (ends.each others are);
}

-- What a front has led goes on to be so, where the history goes on by no edit.
pub led_later : (status : Status) (folder : List ℕ) (files files_after : Option Files) (reads reads_after : ℕ) (before now : Option Taken) (writes writes_after : ℕ) (first second : History)
    → Stays first second → IsFolderLed status folder files files_after reads reads_after before now writes writes_after first
    → IsFolderLed status folder files files_after reads reads_after before now writes writes_after second
led_later status folder files files_after reads reads_after before now writes writes_after first second stays led = record {
  legal = stays.legal;
  closed = closed_later first second stays led.closed;
  ends = folder_ends_later status before now files folder first second stays led.ends;
  unchanged = led.unchanged;
  answers = led.answers;
  flush = led.flush;
  read = led.read;
  write = led.write;
  folder_later = led.folder_later;
  sink_later = led.sink_later;
  took = led.took;
}

-- ---- what a front leaves

whole_answers : (status : Status) → IsWholeStatus status → IsCheckStatus status
whole_answers Done whole = tt
whole_answers Refused whole = tt
whole_answers Usage whole = absurd whole
whole_answers ReadFault whole = absurd whole
whole_answers WriteFault whole = absurd whole
whole_answers Memory whole = absurd whole
whole_answers ScriptFault whole = absurd whole

stop_answers : (stop : Stop) → IsCheckStatus (status_by (Err stop))
stop_answers stops.Read = tt
stop_answers stops.Write = tt
stop_answers stops.Memory = tt

whole_flush : (status : Status) (now : Option Taken) → IsWholeStatus status → IsFlushed now → FlushesAt status now
whole_flush Done now whole flushed = flushed
whole_flush Refused now whole flushed = flushed
whole_flush Usage now whole flushed = absurd whole
whole_flush ReadFault now whole flushed = absurd whole
whole_flush WriteFault now whole flushed = absurd whole
whole_flush Memory now whole flushed = absurd whole
whole_flush ScriptFault now whole flushed = absurd whole

stop_flush : (stop : Stop) (now : Option Taken) → FlushesAt (status_by (Err stop)) now
stop_flush stops.Read now = tt
stop_flush stops.Write now = tt
stop_flush stops.Memory now = tt

whole_no_read : (status : Status) → IsWholeStatus status → status ≡ ReadFault → ⊥
whole_no_read status whole e = subst IsWholeStatus e whole

whole_no_write : (status : Status) → IsWholeStatus status → status ≡ WriteFault → ⊥
whole_no_write status whole e = subst IsWholeStatus e whole

stop_read : (stop : Stop) → status_by (Err stop) ≡ ReadFault → stop ≡ stops.Read
stop_read stops.Read e = refl
stop_read stops.Write e = absurd (cc)
stop_read stops.Memory e = absurd (cc)

stop_write : (stop : Stop) → status_by (Err stop) ≡ WriteFault → stop ≡ stops.Write
stop_write stops.Read e = absurd (cc)
stop_write stops.Write e = refl
stop_write stops.Memory e = absurd (cc)

module _ (result : Result Status Stop) (folder : List ℕ) (files files_after : Option Files) (reads reads_after : ℕ) (before now : Option Taken) (writes writes_after : ℕ) (first last : History)
    (stays : Stays first last) (closed : is_closed last ≡ true) (whole : IfOk result IsWholeStatus) (flushed : OnOk result (IsFlushed now))
    (read : IsErrOf result stops.Read → Rose reads reads_after) (write : IsErrOf result stops.Write → Rose writes writes_after) (reads_later : reads ≤ reads_after) (writes_later : writes ≤ writes_after)
    (same : files_after ≡ files) (took : TookOn before now) where
  answers_by : (r : Result Status Stop) → IfOk r IsWholeStatus → IsCheckStatus (status_by r)
  answers_by (Ok status) w = whole_answers status w
  answers_by (Err stop) w = stop_answers stop

  flush_by : (r : Result Status Stop) → IfOk r IsWholeStatus → OnOk r (IsFlushed now) → FlushesAt (status_by r) now
  flush_by (Ok status) w f = whole_flush status now w f
  flush_by (Err stop) w f = stop_flush stop now

  read_by : (r : Result Status Stop) → IfOk r IsWholeStatus → status_by r ≡ ReadFault → IsErrOf r stops.Read
  read_by (Ok status) w e = absurd (whole_no_read status w e)
  read_by (Err stop) w e = ap (λ (s : Stop). Err s) (stop_read stop e)

  write_by : (r : Result Status Stop) → IfOk r IsWholeStatus → status_by r ≡ WriteFault → IsErrOf r stops.Write
  write_by (Ok status) w e = absurd (whole_no_write status w e)
  write_by (Err stop) w e = ap (λ (s : Stop). Err s) (stop_write stop e)

  -- A board that was closed behind the check.
  pub led_by : (status : Status) → status ≡ status_by result → IfSome files (λ told. FolderEnds (status_by result) before now told folder first)
      → IsFolderLed status folder files files_after reads reads_after before now writes writes_after last
  led_by status is ends =
      subst (λ (s : Status). IsFolderLed s folder files files_after reads reads_after before now writes writes_after last) (sym is)
      (record {
        legal = stays.legal;
        closed = closed;
        ends = folder_ends_later (status_by result) before now files folder first last stays ends;
        unchanged = same;
        answers = answers_by result whole;
        flush = flush_by result whole flushed;
        read = λ e. read (read_by result whole e);
        write = λ e. write (write_by result whole e);
        folder_later = reads_later;
        sink_later = writes_later;
        took = took;
      })
