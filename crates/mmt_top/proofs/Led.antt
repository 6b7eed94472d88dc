-- A session as its front leaves it, and what becomes of it then.
use Rattle.std.proofs.Common.{◌≡◌, ℕ, true, List, [], refl, sym, ap, ◌∙◌, subst}
use Rattle.std.specs.Prelude.{Option, Some, None, IfSome, IsNone, IsSome}
use Rattle.mmt_outside.specs.Bytes.{ReadPrefix, Taken}
use Rattle.mmt_outside.proofs.Bytes.{ReadPrefix-none, TookPrefix-none}
use Rattle.run_meaning.specs.ScriptItems.{script_of}
use Rattle.run_meaning.specs.ScriptOutput.{has_fault}
use Rattle.run_meaning.specs.ScriptLogs.{script_log}
use Rattle.judged_meaning.specs.Outputs.{play_output}
use Rattle.text_meaning.specs.Dependencies.{dependencies}
use Rattle.board_meaning.specs.Events.{History, log_of}
use Rattle.board_meaning.specs.Legal.{IsLegal}
use Rattle.board_meaning.specs.Machine.{CloseCall, after_call, may_call}
use Rattle.board_meaning.specs.Ready.{is_closed}
use Rattle.board_laws.proofs.Legality.{legal_empty}
use Rattle.worker_crew.specs.Leading.{WasLed}
use Rattle.board_front.specs.Staying.{Stays}
use Rattle.board_front.proofs.Closing.{closed_after, closed_later}
use Rattle.board_front.proofs.Histories.{stays_call}
use Rattle.run_status.specs.Taking.{TookOn}
use Rattle.run_status.specs.declared.status.Status.{Status}
use Rattle.run_status.specs.declared.status.Status.TheVariants.{Memory}
use Rattle.mmt_top.specs.Session.{BacksWritten, EditsAre, EndsAs, IsLed}
use Rattle.mmt_top.proofs.Outside.{sink_untouched, source_untouched}
use Rattle.mmt_top.proofs.Sessions.{ended_backs, ended_edits, ended_later, ended_output, none_played}

-- Nothing was played.
pub none_led : (left : Option (List ℕ)) (reads : ℕ) (before : Option Taken) (writes : ℕ) (last : History) → Stays [] last → is_closed last ≡ true
    → IsLed Memory left left reads reads before before writes writes last
unfolding log_of
none_led left reads before writes last stays closed = record {
  legal = stays.legal;
  closed = closed;
  ends = none_played before left last stays;
  read_all = λ e. absurd (cc);
  part_read = ReadPrefix-none left;
  answers = tt;
  source = source_untouched reads;
  sink = sink_untouched before writes;
}

-- A board without an entry that is closed.
pub closed_at_once : (history after : History) → history ≡ [] → after ≡ after_call dependencies history 0 CloseCall → Stays [] after × (is_closed after ≡ true)
unfolding after_call may_call
closed_at_once history after none closes =
    let c : after ≡ after_call dependencies [] 0 CloseCall = closes ∙ ap (λ h. after_call dependencies h 0 CloseCall) none in
    (stays_call [] after CloseCall (legal_empty dependencies) refl refl c, ap is_closed c ∙ closed_after [] 0)

-- A board without an entry, and a log without an edit.
pub empty_legal : (history : History) → history ≡ [] → IsLegal dependencies history
empty_legal history empty = subst (IsLegal dependencies) (sym empty) (legal_empty dependencies)

pub unbegun_led : (status : Status) (left : Option (List ℕ)) (reads : ℕ) (before : Option Taken) (writes : ℕ) (board : Option History) → status ≡ Memory
    → IfSome board (λ last. Stays [] last × (is_closed last ≡ true)) → IfSome board (IsLed status left left reads reads before before writes writes)
unbegun_led status left reads before writes None is ends = tt
unbegun_led status left reads before writes (Some last) is ends =
    subst (λ (s : Status). IsLed s left left reads reads before before writes writes last) (sym is) (none_led left reads before writes last ends.0 ends.1)

-- A session whose front has ended, with what its workers did behind it.
pub was_led : (status : Status) (left rest : Option (List ℕ)) (reads reads_after : ℕ) (before now : Option Taken) (writes writes_after : ℕ) (history : History)
    → WasLed dependencies (IsLed status left rest reads reads_after before now writes writes_after) history
    → IsLed status left rest reads reads_after before now writes writes_after history
was_led status left rest reads reads_after before now writes writes_after history led =
    let front = led.led_to in
    let on = led.at_point.goes_on in
    let stays : Stays led.seen history = record { legal = led.at_point.legal; later = on.later; begins = on.begins; logged = led.logged } in
    record {
      legal = led.at_point.legal;
      closed = closed_later led.seen history stays front.closed;
      ends = ended_later status before now left led.seen history stays front.ends;
      read_all = front.read_all;
      part_read = front.part_read;
      answers = front.answers;
      source = front.source;
      sink = front.sink;
    }

-- Nothing is said of a board that is not there.
pub nothing_said : (left : Option (List ℕ)) → IfSome left (λ bytes. Unit {0})
nothing_said None = tt
nothing_said (Some bytes) = tt

pub nothing_written : (before : Option Taken) (left : Option (List ℕ)) → IfSome left (λ bytes. EndsAs Memory before before (play_output bytes) (has_fault (script_of bytes)))
nothing_written before None = tt
nothing_written before (Some bytes) = TookPrefix-none before (play_output bytes)

-- What a session says, once its front and its workers are done.
module _ (status : Status) (left rest : Option (List ℕ)) (reads reads_after : ℕ) (before now : Option Taken) (writes writes_after : ℕ) (board : Option History)
    (some : IsSome board) (led : IfSome board (IsLed status left rest reads reads_after before now writes writes_after)) where
  at_end : (last : History) × (board ≡ Some last) × IsLed status left rest reads reads_after before now writes writes_after last
  at_end = by board some led
    where
      by : (o : Option History) → IsSome o → IfSome o (IsLed status left rest reads reads_after before now writes writes_after)
          → (last : History) × (o ≡ Some last) × IsLed status left rest reads reads_after before now writes writes_after last
      by None s l = absurd (not_there s)
        where
          not_there : IsSome {T = History} None → ⊥
          not_there t = cc
      by (Some last) s l = (last, refl, l)

  pub is_led : (last : History) × (board ≡ Some last) × IsLed status left rest reads reads_after before now writes writes_after last
  is_led = at_end

  pub says_output : IfSome left (λ bytes. EndsAs status before now (play_output bytes) (has_fault (script_of bytes)))
  says_output = ended_output status before now left at_end.0 at_end.2.ends

  pub says_edits : IfSome left (λ bytes. IfSome board (λ last. EditsAre status (script_log bytes) (log_of last)))
  says_edits =
      subst (λ o. IfSome left (λ bytes. IfSome o (λ last. EditsAre status (script_log bytes) (log_of last)))) (sym at_end.1)
      (ended_edits status before now left at_end.0 at_end.2.ends)

  pub says_backs : IfSome left (λ bytes. IfSome board (λ last. BacksWritten before now bytes last))
  says_backs = subst (λ o. IfSome left (λ bytes. IfSome o (λ last. BacksWritten before now bytes last))) (sym at_end.1) (ended_backs status before now left at_end.0 at_end.2.ends)

  pub says_left : ReadPrefix left rest
  says_left = at_end.2.part_read

  pub says_took : TookOn before now
  says_took = at_end.2.sink.took

  pub says_legal : IfSome board (λ last. IsLegal dependencies last)
  says_legal = subst (λ o. IfSome o (λ last. IsLegal dependencies last)) (sym at_end.1) at_end.2.legal

  pub says_closed : IfSome board (λ last. is_closed last ≡ true)
  says_closed = subst (λ o. IfSome o (λ last. is_closed last ≡ true)) (sym at_end.1) at_end.2.closed

  pub is_there : IsNone board → ⊥
  is_there none = there (subst IsNone at_end.1 none)
    where
      there : IsNone (Some at_end.0) → ⊥
      there t = cc
