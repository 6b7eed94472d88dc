-- What commands leave on a board that are played one after another, and what a session leaves.
use Rattle.std.proofs.Common.{◌≡◌, ℕ, ◌<◌, Bool, List, [], ◌∷◌, ◌++◌, length, map, ⊎_elim, inl, inr, refl, sym, ap, ◌∙◌, subst, append_assoc, append-nil, length-append, arith}
use Rattle.std.specs.Prelude.{Option}
use Rattle.list_laws.proofs.Lists.{first_same}
use Rattle.mmt_outside.specs.Bytes.{Taken, appended, flushed, TookPrefix}
use Rattle.mmt_outside.proofs.Bytes.{appended-appended, appended-nil, TookPrefix-after, TookPrefix-none}
use Rattle.edit_log_meaning.specs.Log.{Log}
use Rattle.text_meaning.specs.Dependencies.{dependencies}
use Rattle.board_meaning.specs.Events.{History, log_of}
use Rattle.board_meaning.specs.Legal.{IsLegal}
use Rattle.run_meaning.specs.ScriptCommands.{Command}
use Rattle.run_meaning.specs.ScriptItems.{Item, Spoken}
use Rattle.run_meaning.specs.ScriptOutput.{output_from, has_fault, log_after}
use Rattle.run_meaning.specs.ScriptLogs.{commands_of, log_through}
use Rattle.run_laws.specs.RunLaws.{spoken_text}
use Rattle.run_laws.proofs.Logs.{through_more}
use Rattle.install_laws.specs.ScriptBacking.{StandsAt}
use Rattle.judged_meaning.specs.JudgingByRules.{rules}
use Rattle.board_front.specs.Staying.{GoesOn, Stays}
use Rattle.mmt_top.specs.Plays.{Plays, PlaysAll, MayPlay}
use Rattle.folder_front.specs.Checked.{Begins}
use Rattle.mmt_top.specs.Session.{EditsAre, EndsAs, Leaves, SessionEnds, StoodWithin}
use Rattle.run_status.specs.Taking.{bytes_of}
use Rattle.run_status.specs.declared.status.Status.{Status}
use Rattle.run_status.specs.declared.status.Status.TheVariants.{Done, Refused, Usage, ReadFault, WriteFault, Memory, ScriptFault}
use Rattle.mmt_top.proofs.Taking.{ended_on}
use Rattle.mmt_top.proofs.Commands.{parted, through_append, commands_append, fault_append, spoken_append, output_append}

-- ---- commands

-- What stood stands before what comes later too.
pub stood_later : (history later after : History) (log : Log) (command : Command) → after ≡ history ++ later → StandsAt rules history log command → StandsAt rules after log command
stood_later history later after log command begins at = record {
  beginning = at.beginning;
  later = at.later ++ later;
  goes_on = begins ∙ ap (λ h. h ++ later) at.goes_on ∙ append_assoc at.beginning at.later later;
  log_is = at.log_is;
  stand = at.stand;
}

no_element : {A : Type 0} (done more : List A) (x : A) → [] ≡ done ++ x ∷ more → ⊥
no_element [] more x e = cc
no_element (y ∷ done) more x e = cc

-- An element of a list of one.
only_element : {A : Type 0} (y : A) (done more : List A) (x : A) → y ∷ [] ≡ done ++ x ∷ more → (done ≡ []) × (y ≡ x)
only_element y [] more x e = (refl, first_same e)
only_element y (z ∷ done) more x e = absurd (no_element done more x cc)

pub plays_none : (history : History) → IsLegal dependencies history → PlaysAll [] history history
plays_none history legal = record {
  goes_on = record { legal = legal; later = []; begins = sym (append-nil history); logged = refl };
  stood = λ done more command e. absurd (no_element done more command e);
}

pub plays_more : (commands : List Command) (command : Command) (first second third : History) → PlaysAll commands first second → Plays command second third
    → PlaysAll (commands ++ command ∷ []) first third
plays_more commands command first second third all one = record {
  goes_on = record {
    legal = one.goes_on.legal;
    later = all.goes_on.later ++ one.goes_on.later;
    begins = one.goes_on.begins ∙ ap (λ h. h ++ one.goes_on.later) all.goes_on.begins ∙ append_assoc first all.goes_on.later one.goes_on.later;
    logged = one.goes_on.logged ∙ ap (λ l. log_after l command) all.goes_on.logged ∙ sym (through_append (log_of first) commands (command ∷ []));
  };
  stood = λ done more other e.
      ⊎_elim
      (λ l. stood_later second one.goes_on.later third (log_through (log_of first) done) other one.goes_on.begins (all.stood done l.0 other l.1))
      (λ r.
      let o = only_element command r.0 more other r.2 in
      let before : log_of second ≡ log_through (log_of first) done =
      all.goes_on.logged ∙ ap (log_through (log_of first)) (sym (append-nil commands) ∙ ap (λ f. commands ++ f) (sym o.0) ∙ sym r.1) in
      subst (λ l. StandsAt rules third l other) before (subst (λ c. StandsAt rules third (log_of second) c) o.1 one.stood))
      (parted commands (command ∷ []) done more other e);
}

-- ---- what is written

pub bytes_appended : (before now new : Option Taken) (first second : List ℕ) → now ≡ appended before first → bytes_of new ≡ bytes_of (appended now second)
    → bytes_of new ≡ bytes_of (appended before (first ++ second))
bytes_appended before now new first second took is = is ∙ ap (λ t. bytes_of (appended t second)) took ∙ ap bytes_of (appended-appended before first second)

-- ---- a session that ends behind some commands

ends_after : (status : Status) (before now new : Option Taken) (written output : List ℕ) (fault : Bool) → now ≡ appended before written → EndsAs status now new output fault
    → EndsAs status before new (written ++ output) fault
ends_after Done before now new written output fault took ends =
    (ends.0, ends.1 ∙ ap (λ (t : Option Taken). flushed (appended t output)) took ∙ ap (λ (t : Option Taken). flushed t) (appended-appended before written output))
ends_after Refused before now new written output fault took ends = ends
ends_after Usage before now new written output fault took ends = ends
ends_after ReadFault before now new written output fault took ends = TookPrefix-after before new written output (subst (λ (t : Option Taken). TookPrefix t new output) took ends)
ends_after WriteFault before now new written output fault took ends = TookPrefix-after before new written output (subst (λ (t : Option Taken). TookPrefix t new output) took ends)
ends_after Memory before now new written output fault took ends = TookPrefix-after before new written output (subst (λ (t : Option Taken). TookPrefix t new output) took ends)
ends_after ScriptFault before now new written output fault took ends =
    (ends.0, ends.1 ∙ ap (λ (t : Option Taken). flushed (appended t output)) took ∙ ap (λ (t : Option Taken). flushed t) (appended-appended before written output))

module _ (status : Status) (before now new : Option Taken) (commands : List Command) (items : List Item) (first second third : History)
    (all : PlaysAll commands first second) (took : now ≡ appended before (spoken_text rules (log_of first) commands)) where
  output_after : EndsAs status now new (output_from rules (log_of second) items) (has_fault items)
      → EndsAs status before new (output_from rules (log_of first) (map Spoken commands ++ items)) (has_fault (map Spoken commands ++ items))
  output_after ends =
      subst (λ (fault : Bool). EndsAs status before new (output_from rules (log_of first) (map Spoken commands ++ items)) fault) (sym (fault_append commands items))
      (subst (λ (output : List ℕ). EndsAs status before new output (has_fault items)) (sym (output_append rules (log_of first) commands items))
      (subst (λ (log : Log). EndsAs status before new (spoken_text rules (log_of first) commands ++ output_from rules log items) (has_fault items)) all.goes_on.logged
      (ends_after status before now new (spoken_text rules (log_of first) commands) (output_from rules (log_of second) items) (has_fault items) took ends)))

  whole_log : log_through (log_of second) (commands_of items) ≡ log_through (log_of first) (commands_of (map Spoken commands ++ items))
  whole_log =
      ap (λ l. log_through l (commands_of items)) all.goes_on.logged ∙ sym (through_append (log_of first) commands (commands_of items))
      ∙ ap (log_through (log_of first)) (sym (commands_append commands items))

  stood_after : (board : Leaves status now new items second third)
      → StoodWithin (length (spoken_text rules (log_of first) commands ++ board.written)) (commands_of (map Spoken commands ++ items)) (log_of first) third
  stood_after board done more other e within =
      ⊎_elim
      (λ l. stood_later second board.goes_on.later third (log_through (log_of first) done) other board.goes_on.begins (all.stood done l.0 other l.1))
      (λ r.
      let behind : log_through (log_of second) r.0 ≡ log_through (log_of first) done =
      ap (λ l. log_through l r.0) all.goes_on.logged ∙ sym (through_append (log_of first) commands r.0) ∙ ap (log_through (log_of first)) (sym r.1) in
      let texts : spoken_text rules (log_of first) done ≡ spoken_text rules (log_of first) commands ++ spoken_text rules (log_of second) r.0 =
      ap (spoken_text rules (log_of first)) r.1 ∙ spoken_append rules (log_of first) commands r.0
      ∙ ap (λ l. spoken_text rules (log_of first) commands ++ spoken_text rules l r.0) (sym all.goes_on.logged) in
      let shorter : length (spoken_text rules (log_of second) r.0) < length board.written =
      less (spoken_text rules (log_of first) commands) (spoken_text rules (log_of second) r.0) board.written (subst (λ t. length t < length (spoken_text rules (log_of first) commands ++ board.written)) texts within) in
      subst (λ l. StandsAt rules third l other) behind (board.stood r.0 more other r.2 shorter))
      (parted commands (commands_of items) done more other (sym (commands_append commands items) ∙ e))
    where
      less : (front one other : List ℕ) → length (front ++ one) < length (front ++ other) → length one < length other
      less front one other h = omega (arith, length-append front one, length-append front other, h)

  pub ends_behind : SessionEnds status now new items second third → SessionEnds status before new (map Spoken commands ++ items) first third
  ends_behind ends = record {
    output = output_after ends.output;
    board = record {
      goes_on = record {
        legal = ends.board.goes_on.legal;
        later = all.goes_on.later ++ ends.board.goes_on.later;
        begins = ends.board.goes_on.begins ∙ ap (λ h. h ++ ends.board.goes_on.later) all.goes_on.begins ∙ append_assoc first all.goes_on.later ends.board.goes_on.later;
        logged = refl;
      };
      edits = subst (λ w. EditsAre status w (log_of third)) whole_log ends.board.edits;
      written = spoken_text rules (log_of first) commands ++ ends.board.written;
      took = bytes_appended before now new (spoken_text rules (log_of first) commands) ends.board.written took ends.board.took;
      stood = stood_after ends.board;
    };
  }

-- ---- a session that ends without a further command

at_rest : (history : History) → IsLegal dependencies history → GoesOn (log_of history) history history
at_rest history legal = record { legal = legal; later = []; begins = sym (append-nil history); logged = refl }

begins_whole : (log : Log) → Begins log log
begins_whole log = record { rest = []; goes_on = sym (append-nil log) }

pub begins_through : (log : Log) (commands : List Command) → Begins log (log_through log commands)
begins_through log commands = let m = through_more log commands in record { rest = m.0; goes_on = m.1 }

-- Nothing that is left is a command.
silent_edits : (status : Status) (before now : Option Taken) (output : List ℕ) (fault : Bool) (log : Log) → EndsAs status before now output fault → EditsAre status log log
silent_edits Done before now output fault log ends = refl
silent_edits Refused before now output fault log ends = ends
silent_edits Usage before now output fault log ends = ends
silent_edits ReadFault before now output fault log ends = begins_whole log
silent_edits WriteFault before now output fault log ends = begins_whole log
silent_edits Memory before now output fault log ends = begins_whole log
silent_edits ScriptFault before now output fault log ends = refl

pub ends_silently : (status : Status) (before now : Option Taken) (items : List Item) (history : History) → IsLegal dependencies history → commands_of items ≡ []
    → EndsAs status before now (output_from rules (log_of history) items) (has_fault items) → SessionEnds status before now items history history
ends_silently status before now items history legal none ends =
    let w = ended_on status before now (output_from rules (log_of history) items) (has_fault items) ends in
    record {
      output = ends;
      board = record {
        goes_on = at_rest history legal;
        edits = subst (λ commands. EditsAre status (log_through (log_of history) commands) (log_of history)) (sym none)
            (silent_edits status before now (output_from rules (log_of history) items) (has_fault items) (log_of history) ends);
        written = w.piece;
        took = w.took;
        stood = λ done more command e within. absurd (no_element done more command (sym none ∙ e));
      };
    }

-- Nothing was written, and nothing is known of what is left.
pub read_fails : (before now : Option Taken) (items : List Item) (history : History) → IsLegal dependencies history → now ≡ before → SessionEnds ReadFault before now items history history
read_fails before now items history legal same = record {
  output = subst (λ (t : Option Taken). TookPrefix before t (output_from rules (log_of history) items)) (sym same) (TookPrefix-none before (output_from rules (log_of history) items));
  board = record {
    goes_on = at_rest history legal;
    edits = begins_through (log_of history) (commands_of items);
    written = [];
    took = ap bytes_of (same ∙ sym (appended-nil before));
    stood = λ done more command e within. absurd (omega (arith, within));
  };
}

pub memory_fails : (before now : Option Taken) (items : List Item) (first last : History) → GoesOn (log_of last) first last
    → Begins (log_of last) (log_through (log_of first) (commands_of items)) → now ≡ before → SessionEnds Memory before now items first last
memory_fails before now items first last goes_on begins same = record {
  output = subst (λ (t : Option Taken). TookPrefix before t (output_from rules (log_of first) items)) (sym same) (TookPrefix-none before (output_from rules (log_of first) items));
  board = record {
    goes_on = goes_on;
    edits = begins;
    written = [];
    took = ap bytes_of (same ∙ sym (appended-nil before));
    stood = λ done more command e within. absurd (omega (arith, within));
  };
}

-- ---- a session that ends at a command

pub may_goes_on : (command : Command) (first last : History) → MayPlay command first last → GoesOn (log_of last) first last
may_goes_on command first last (inl s) = record { legal = s.legal; later = s.later; begins = s.begins; logged = refl }
may_goes_on command first last (inr s) = record { legal = s.legal; later = s.later; begins = s.begins; logged = refl }

pub may_begins : (command : Command) (more : List Command) (first last : History) → MayPlay command first last → Begins (log_of last) (log_through (log_of first) (command ∷ more))
may_begins command more first last (inl s) = subst (λ l. Begins l (log_through (log_of first) (command ∷ more))) (sym s.logged) (begins_through (log_of first) (command ∷ more))
may_begins command more first last (inr s) =
    subst (λ l. Begins l (log_through (log_of first) (command ∷ more))) (sym s.logged) (begins_through (log_after (log_of first) command) more)

-- ---- a board that goes on

pub leaves_later : (status : Status) (before now : Option Taken) (items : List Item) (first last after : History) → Leaves status before now items first last → Stays last after
    → Leaves status before now items first after
leaves_later status before now items first last after board stays = record {
  goes_on = record {
    legal = stays.legal;
    later = board.goes_on.later ++ stays.later;
    begins = stays.begins ∙ ap (λ h. h ++ stays.later) board.goes_on.begins ∙ append_assoc first board.goes_on.later stays.later;
    logged = refl;
  };
  edits = subst (λ l. EditsAre status (log_through (log_of first) (commands_of items)) l) (sym stays.logged) board.edits;
  written = board.written;
  took = board.took;
  stood = λ done more command e within. stood_later last stays.later after (log_through (log_of first) done) command stays.begins (board.stood done more command e within);
}
