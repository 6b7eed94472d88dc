-- What a turn of a session did, from what its parts did.
use Rattle.std.proofs.Common.{◌≡◌, ℕ, ◌<◌, ◌≤◌, true, false, List, [], ◌∷◌, ◌++◌, length, take, inr, refl, sym, ap, ◌∙◌, subst, length-append, arith}
use Rattle.std.specs.Prelude.{Option, Some, None, IfSome, IsSome}
use Rattle.list_laws.proofs.Lists.{first_same}
use Rattle.list_laws.proofs.Places.{length_take}
use Rattle.mmt_outside.specs.Bytes.{Taken, TookPrefix, appended}
use Rattle.mmt_outside.proofs.Bytes.{TookPrefix-append}
use Rattle.printing_meaning.specs.Lines.{lines_of}
use Rattle.printing_meaning.specs.Printed.{bad_line, unended_line}
use Rattle.printing_meaning.specs.ScriptLines.{line_after}
use Rattle.edit_log_meaning.specs.Log.{Log}
use Rattle.text_meaning.specs.Dependencies.{dependencies}
use Rattle.board_meaning.specs.Events.{History, log_of}
use Rattle.board_meaning.specs.Legal.{IsLegal}
use Rattle.run_meaning.specs.ScriptCommands as meant
use Rattle.run_meaning.specs.ScriptItems.{Item, Spoken, BadAt, UnendedAt, items_by, items_of}
use Rattle.run_meaning.specs.ScriptOutput.{command_text, log_after, output_from, has_fault}
use Rattle.run_meaning.specs.ScriptLogs.{commands_of}
use Rattle.run_laws.specs.RunLaws.{spoken_text}
use Rattle.run_laws.proofs.Items.{items_of-next}
use Rattle.install_laws.specs.ScriptBacking.{StandsAt}
use Rattle.judged_meaning.specs.JudgingByRules.{rules}
use Rattle.board_front.specs.Staying.{GoesOn, IsFront}
use Rattle.board_front.proofs.Histories.{stays_same}
use Rattle.script_reader.specs.Reading.{Reading}
use Rattle.script_reader.specs.Texts.{StaysTold}
use Rattle.script_reader.specs.Commands.{read_command}
use Rattle.script_reader.specs.Answers.{Leaves as LeavesLines, IsNext, IsFault}
use Rattle.script_reader.proofs.Puts.{not_told}
use Rattle.script_reader.specs.declared.command.Command.{Command}
use Rattle.script_reader.specs.declared.command.Command.TheVariants as spoken
use Rattle.script_reader.specs.declared.fault.ScriptFault.{ScriptFault as Fault}
use Rattle.script_reader.specs.declared.fault.ScriptFault.TheVariants as faults
use Rattle.run_status.specs.declared.status.Status.{Status}
use Rattle.run_status.specs.declared.status.Status.TheVariants.{Done, Refused, Usage, ReadFault, WriteFault, Memory, ScriptFault}
use Rattle.mmt_top.specs.Plays.{Plays}
use Rattle.mmt_top.specs.Answered.{Spoke, Stops, SpokenTells}
use Rattle.mmt_top.specs.Session.{items_to_come, EndsAs, FaultTells, SessionEnds, StoodWithin, TurnGoesOn, TurnTells}
use Rattle.run_status.specs.Taking.{bytes_of}
use Rattle.mmt_top.proofs.Played.{begins_through, ends_silently, may_begins, may_goes_on, memory_fails, read_fails}

-- ---- what the bytes to come hold

items_by_next : (reading : Reading) (bytes : List ℕ) (next : meant.Next) → meant.next_of (lines_of bytes) ≡ next
    → items_to_come reading bytes ≡ items_by next reading.line (λ rest. items_of (line_after reading.line (lines_of bytes) rest) rest)
items_by_next reading bytes next is =
    items_of-next reading.line (lines_of bytes)
    ∙ ap (λ (n : meant.Next). items_by n reading.line (λ rest. items_of (line_after reading.line (lines_of bytes) rest) rest)) is

-- one command, and what follows it
items_command : (reading later : Reading) (bytes rest : List ℕ) (c : meant.Command)
    → (meant.next_of (lines_of bytes) ≡ meant.Gives c (lines_of rest)) × (later.line ≡ line_after reading.line (lines_of bytes) (lines_of rest))
    → items_to_come reading bytes ≡ Spoken c ∷ items_to_come later rest
items_command reading later bytes rest c leaves =
    items_by_next reading bytes (meant.Gives c (lines_of rest)) leaves.0
    ∙ ap (λ (n : ℕ). Spoken c ∷ items_of n (lines_of rest)) (sym leaves.1)

-- a command that is not the end is one of the script
pub is_spoken : (command : Command) → (command ≡ spoken.End → ⊥) → IsSome (read_command command)
is_spoken (spoken.Put name text) other = refl
is_spoken (spoken.Drop name) other = refl
is_spoken (spoken.Report name) other = refl
is_spoken spoken.Check other = refl
is_spoken (spoken.Flat name) other = refl
is_spoken (spoken.Carry view text) other = refl
is_spoken spoken.Log other = refl
is_spoken spoken.Blank other = refl
is_spoken spoken.End other = absurd (other refl)

output_command : (log : Log) (c : meant.Command) (items : List Item)
    → output_from rules log (Spoken c ∷ items) ≡ command_text rules log c ++ output_from rules (log_after log c) items
unfolding output_from
output_command log c items = refl

-- ---- a command

module _ (reading later : Reading) (bytes : List ℕ) (before now : Option Taken) (c : meant.Command) (log next : Log) (first second : History) (front : IsFront log first) where
  same_text : command_text rules log c ≡ command_text rules (log_of first) c
  same_text = ap (λ l. command_text rules l c) front.logged

  goes_on : (rest : List ℕ) → (meant.next_of (lines_of bytes) ≡ meant.Gives c (lines_of rest)) × (later.line ≡ line_after reading.line (lines_of bytes) (lines_of rest))
      → Spoke before now c log next first second → TurnGoesOn before now bytes first second reading later rest
  goes_on rest leaves spoke = record {
    command = c;
    items = items_command reading later bytes rest c leaves;
    took = spoke.took ∙ ap (λ text. appended before text) same_text;
    plays = spoke.plays;
  }

  -- the sink failed in the lines of the command
  write_fails : (items : List Item) → TookPrefix before now (command_text rules log c) → Plays c first second → SessionEnds WriteFault before now (Spoken c ∷ items) first second
  unfolding spoken_text
  write_fails items took plays = record {
    output = subst (λ output. TookPrefix before now output) (sym (output_command (log_of first) c items))
        (TookPrefix-append before now (command_text rules (log_of first) c) (output_from rules (log_after (log_of first) c) items)
        (subst (λ text. TookPrefix before now text) same_text took));
    board = record {
      goes_on = record { legal = plays.goes_on.legal; later = plays.goes_on.later; begins = plays.goes_on.begins; logged = refl };
      edits = may_begins c (commands_of items) first second (inr plays.goes_on);
      written = take took.count (command_text rules log c);
      took = ap bytes_of took.took;
      stood = stood;
    };
  }
    where
      long : (text behind written : List ℕ) → length (text ++ behind) < length written → length written ≤ length text → ⊥
      long text behind written l m = omega (arith, l, m, length-append text behind)

      within : length (take took.count (command_text rules log c)) ≤ length (command_text rules (log_of first) c)
      within = omega (arith, length_take (command_text rules log c) took.count took.within, took.within, ap length same_text)

      stood : StoodWithin (length (take took.count (command_text rules log c))) (c ∷ commands_of items) (log_of first) second
      stood [] more command e w = subst (λ d. StandsAt rules second (log_of first) d) (first_same e) plays.stood
      stood (d ∷ done) more command e w =
          absurd
          (long (command_text rules (log_of first) d) (spoken_text rules (log_after (log_of first) d) done) (take took.count (command_text rules log c)) w
          (subst (λ other. length (take took.count (command_text rules log c)) ≤ length (command_text rules (log_of first) other)) (first_same e) within))

  stops : (status : Status) (items : List Item) → Stops status before now c log first second → SessionEnds status before now (Spoken c ∷ items) first second
  stops Done items h = absurd h
  stops Refused items h = absurd h
  stops Usage items h = absurd h
  stops ReadFault items h = absurd h
  stops WriteFault items h = write_fails items h.0 h.1
  stops Memory items h = memory_fails before now (Spoken c ∷ items) first second (may_goes_on c first second h.1) (may_begins c (commands_of items) first second h.1) h.0
  stops ScriptFault items h = absurd h

  not_done : (status : Status) → Stops status before now c log first second → status ≡ Done → ⊥
  not_done Done h e = h
  not_done Refused h e = h
  not_done Usage h e = h
  not_done ReadFault h e = h
  not_done WriteFault h e = cc
  not_done Memory h e = cc
  not_done ScriptFault h e = h

  -- a turn that answered a command
  pub turn_spoken : (result : Option Status) (after : Option (List ℕ))
      → LeavesLines (meant.next_of (lines_of bytes)) c (lines_of bytes) after reading.line later.line → IsSome after
      → SpokenTells result before now c log next first second → TurnTells result before now bytes after first second reading later
  turn_spoken result None leaves told tells = absurd (not_told told)
  turn_spoken None (Some rest) leaves told tells = (goes_on rest leaves tells, told)
  turn_spoken (Some status) (Some rest) leaves told tells = (
    subst (λ items. SessionEnds status before now items first second) (sym (items_command reading later bytes rest c leaves)) (stops status (items_to_come later rest) tells),
    λ done. absurd (not_done status tells done),
  )

-- ---- the end, and a fault

module _ (reading later : Reading) (bytes : List ℕ) (after : Option (List ℕ)) (history : History) (legal : IsLegal dependencies history) (before now : Option Taken) where
  no_items : (status : Status) → EndsAs status before now [] false → SessionEnds status before now [] history history
  unfolding output_from has_fault
  no_items status ends = ends_silently status before now [] history legal refl ends

  -- a turn that found the end
  pub turn_ended : (status : Status) → (meant.next_of (lines_of bytes) ≡ meant.Ends) × IfSome after (λ rest. rest ≡ []) → IsSome after → EndsAs status before now [] false
      → TurnTells (Some status) before now bytes after history history reading later
  turn_ended status is told ends = (
    subst (λ items. SessionEnds status before now items history history) (sym (items_by_next reading bytes meant.Ends is.0)) (no_items status ends),
    λ done. (is.1, told),
  )

  bad_item : (status : Status) (line : ℕ) → EndsAs status before now (bad_line line) true → SessionEnds status before now (BadAt line ∷ []) history history
  unfolding output_from has_fault
  bad_item status line ends = ends_silently status before now (BadAt line ∷ []) history legal refl ends

  unended_item : (status : Status) (line : ℕ) → EndsAs status before now (unended_line line) true → SessionEnds status before now (UnendedAt line ∷ []) history history
  unfolding output_from has_fault
  unended_item status line ends = ends_silently status before now (UnendedAt line ∷ []) history legal refl ends

  fault_ends : (fault : Fault) (status : Status) → IsFault fault (meant.next_of (lines_of bytes)) reading.line → FaultTells fault status before now
      → SessionEnds status before now (items_to_come reading bytes) history history
  fault_ends (faults.Bad line) status is tells =
      subst (λ items. SessionEnds status before now items history history) (sym (items_by_next reading bytes meant.Bad is.0))
      (bad_item status reading.line (subst (λ (l : ℕ). EndsAs status before now (bad_line l) true) is.1 tells))
  fault_ends (faults.Unended line) status is tells =
      subst (λ items. SessionEnds status before now items history history) (sym (items_by_next reading bytes meant.Unended is.0))
      (unended_item status reading.line (subst (λ (l : ℕ). EndsAs status before now (unended_line l) true) is.1 tells))
  fault_ends faults.Failed status is tells =
      subst (λ (s : Status). SessionEnds s before now (items_to_come reading bytes) history history) (sym tells.0) (read_fails before now (items_to_come reading bytes) history legal tells.1)
  fault_ends faults.Spent status is tells = absurd tells
  fault_ends faults.Memory status is tells =
      subst (λ (s : Status). SessionEnds s before now (items_to_come reading bytes) history history) (sym tells.0)
      (memory_fails before now (items_to_come reading bytes) history history rest (begins_through (log_of history) (commands_of (items_to_come reading bytes))) tells.1)
    where
      rest : GoesOn (log_of history) history history
      rest = stays_same history legal

  fault_not_done : (fault : Fault) (status : Status) → FaultTells fault status before now → status ≡ Done → ⊥
  fault_not_done (faults.Bad line) status tells done = true_false (subst (λ (s : Status). EndsAs s before now (bad_line line) true) done tells).0
    where
      true_false : true ≡ false → ⊥
      true_false e = cc
  fault_not_done (faults.Unended line) status tells done = true_false (subst (λ (s : Status). EndsAs s before now (unended_line line) true) done tells).0
    where
      true_false : true ≡ false → ⊥
      true_false e = cc
  fault_not_done faults.Failed status tells done = other (sym done ∙ tells.0)
    where
      other : Done ≡ ReadFault → ⊥
      other e = cc
  fault_not_done faults.Spent status tells done = tells
  fault_not_done faults.Memory status tells done = other (sym done ∙ tells.0)
    where
      other : Done ≡ Memory → ⊥
      other e = cc

  -- a turn that found a fault of the script
  pub turn_faulted : (fault : Fault) (status : Status) → IsFault fault (meant.next_of (lines_of bytes)) reading.line → FaultTells fault status before now
      → TurnTells (Some status) before now bytes after history history reading later
  turn_faulted fault status is tells = (fault_ends fault status is tells, λ done. absurd (fault_not_done fault status tells done))

-- ---- where the bytes to come are told

pub told_spoken : (result : Option Status) (reading later : Reading) (come after : Option (List ℕ)) (before now : Option Taken) (o : Option meant.Command) (log next : Log) (first second : History)
    → reading.is_spent ≡ false → IsFront log first → IsSome o
    → IfSome come (λ bytes. reading.is_spent ≡ false → IsNext o (meant.next_of (lines_of bytes)) (lines_of bytes) after reading.line later.line)
    → StaysTold come after → IfSome o (λ c. SpokenTells result before now c log next first second)
    → IfSome come (λ bytes. TurnTells result before now bytes after first second reading later)
told_spoken result reading later None after before now o log next first second fresh front some is told tells = tt
told_spoken result reading later (Some bytes) after before now None log next first second fresh front some is told tells = absurd (no_command some)
  where
    no_command : IsSome {T = meant.Command} None → ⊥
    no_command t = cc
told_spoken result reading later (Some bytes) after before now (Some c) log next first second fresh front some is told tells =
    turn_spoken reading later bytes before now c log next first second front result after (is fresh) (told refl) tells

pub told_ended : (status : Status) (reading later : Reading) (come after : Option (List ℕ)) (history : History) (before now : Option Taken)
    → reading.is_spent ≡ false → IsLegal dependencies history
    → IfSome come (λ bytes. reading.is_spent ≡ false → (meant.next_of (lines_of bytes) ≡ meant.Ends) × IfSome after (λ rest. rest ≡ []))
    → StaysTold come after → EndsAs status before now [] false
    → IfSome come (λ bytes. TurnTells (Some status) before now bytes after history history reading later)
told_ended status reading later None after history before now fresh legal is told ends = tt
told_ended status reading later (Some bytes) after history before now fresh legal is told ends =
    turn_ended reading later bytes after history legal before now status (is fresh) (told refl) ends

pub told_faulted : (fault : Fault) (status : Status) (reading later : Reading) (come after : Option (List ℕ)) (history : History) (before now : Option Taken)
    → reading.is_spent ≡ false → IsLegal dependencies history
    → IfSome come (λ bytes. reading.is_spent ≡ false → IsFault fault (meant.next_of (lines_of bytes)) reading.line)
    → FaultTells fault status before now
    → IfSome come (λ bytes. TurnTells (Some status) before now bytes after history history reading later)
told_faulted fault status reading later None after history before now fresh legal is tells = tt
told_faulted fault status reading later (Some bytes) after history before now fresh legal is tells =
    turn_faulted reading later bytes after history legal before now fault status (is fresh) tells
